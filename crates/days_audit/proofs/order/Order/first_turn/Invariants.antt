use Rattle.std.proofs.Common.{length}
use Rattle.claim_model.specs.Bytes.{bytes_with}
use Rattle.days_audit.proofs.Placed.{WaitBefore, parts}
use Rattle.days_audit.proofs.order.Order.first_turn.Given as goal

abbrev pub invariant-loop-place : goal.invariant-loop-place
invariant-loop-place l = WaitBefore l.place (bytes_with l.routes) (parts l.line-items l.self.live (length l.self.placed.items) l.self.broken)
