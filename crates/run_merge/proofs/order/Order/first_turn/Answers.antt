use Rattle.std.proofs.Common.{subst, List, arith}
use Rattle.run_merge.specs.Line.{AllWait}
use Rattle.run_merge.specs.LineSeen.{lines_seen}
use Rattle.run_merge.specs.declared.line.Line.{Line}
use Rattle.run_merge.proofs.Places.{wait_before_next, all_wait}
use Rattle.run_merge.proofs.order.Order.first_turn.Goals as goal

pub loop-place-preserved : goal.loop-place-preserved
loop-place-preserved c =
    wait_before_next c.args.self.now.posted c.deref-line-items.result.now c.loop-place.place c.line-item.result (omega arith) c.line-item.is (rw c.in-None.is at c.in_ok-event.ensures) c.loop-place.invariant

pub returns : goal.returns
returns c =
    subst (λ (ls : List Line). AllWait c.args.self.now.posted (lines_seen ls)) c.deref-line-items.ensures.value
    (all_wait c.args.self.now.posted c.deref-line-items.result.now c.loop-place.place (omega arith) c.loop-place.invariant)
