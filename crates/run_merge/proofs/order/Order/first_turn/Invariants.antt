use Rattle.run_merge.specs.LineSeen.{lines_seen}
use Rattle.run_merge.proofs.Places.{WaitBefore}
use Rattle.run_merge.proofs.order.Order.first_turn.Given as goal

abbrev pub invariant-loop-place : goal.invariant-loop-place
invariant-loop-place l = WaitBefore l.place l.self.posted (lines_seen l.line-items)
