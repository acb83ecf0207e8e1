use Rattle.std.proofs.Common.{◌+◌, arith}
use Rattle.claim_model.specs.Bytes.{bytes_with}
use Rattle.claim_model.specs.Held.{journal_in}
use Rattle.days_audit.specs.Agreeing.{JournalFits}
use Rattle.days_audit.proofs.Agreed.{each_next, each_all, each_not}
use Rattle.days_audit.proofs.live.Live.odd_answer_among.Goals as goal

pub returns-in-Some : goal.returns-in-Some
returns-in-Some c =
    each_not (λ k s. JournalFits (bytes_with c.args.routes.now) c.args.self.now (k + 1) (journal_in s)) c.args.nodes.now c.loop-place.place c.index-nodes-place.result (omega arith) c.index-nodes-place.is (rw c.in-Some.is at c.in_ok-misfit.ensures)

pub loop-place-preserved : goal.loop-place-preserved
loop-place-preserved c =
    each_next (λ k s. JournalFits (bytes_with c.args.routes.now) c.args.self.now (k + 1) (journal_in s)) c.args.nodes.now c.loop-place.place c.index-nodes-place.result (omega arith) c.index-nodes-place.is (rw c.in-None.is at c.in_ok-misfit.ensures) c.loop-place.invariant

pub returns : goal.returns
returns c = each_all (λ k s. JournalFits (bytes_with c.args.routes.now) c.args.self.now (k + 1) (journal_in s)) c.args.nodes.now c.loop-place.place (omega arith) c.loop-place.invariant
