use Rattle.claim_model.specs.Bytes.{bytes_with}
use Rattle.days_audit.specs.Agreeing.{RowFits}
use Rattle.days_audit.proofs.Agreed.{EachBefore}
use Rattle.days_audit.proofs.live.Live.odd_row_in.Given as goal

abbrev pub invariant-loop-row : goal.invariant-loop-row
invariant-loop-row l = EachBefore l.row-index (λ k row. RowFits (bytes_with l.routes) l.self l.payer row) l.rows
