use Rattle.std.proofs.Common.{arith}
use Rattle.claim_model.specs.Bytes.{bytes_with}
use Rattle.days_audit.specs.Agreeing.{RowFits}
use Rattle.days_audit.proofs.Agreed.{each_next, each_all}
use Rattle.days_audit.proofs.live.Live.odd_row_in.Goals as goal

pub loop-row-preserved : goal.loop-row-preserved
loop-row-preserved c =
    each_next (λ k row. RowFits (bytes_with c.args.routes.now) c.args.self.now c.args.payer row) c.args.rows.now c.loop-row.row-index c.row-item.result (omega arith) c.row-item.is (rw c.if-not-branch.false at c.in_ok-row_fits.ensures) c.loop-row.invariant

pub returns : goal.returns
returns c = each_all (λ k row. RowFits (bytes_with c.args.routes.now) c.args.self.now c.args.payer row) c.args.rows.now c.loop-row.row-index (omega arith) c.loop-row.invariant
