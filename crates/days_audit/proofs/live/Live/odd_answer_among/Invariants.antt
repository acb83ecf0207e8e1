use Rattle.std.proofs.Common.{◌+◌}
use Rattle.claim_model.specs.Bytes.{bytes_with}
use Rattle.claim_model.specs.Held.{journal_in}
use Rattle.days_audit.specs.Agreeing.{JournalFits}
use Rattle.days_audit.proofs.Agreed.{EachBefore}
use Rattle.days_audit.proofs.live.Live.odd_answer_among.Given as goal

abbrev pub invariant-loop-place : goal.invariant-loop-place
invariant-loop-place l = EachBefore l.place (λ k s. JournalFits (bytes_with l.routes) l.self (k + 1) (journal_in s)) l.nodes
