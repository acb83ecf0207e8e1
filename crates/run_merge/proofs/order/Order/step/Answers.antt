use Rattle.run_merge.specs.Orders.{order_seen}
use Rattle.run_merge.proofs.Placing.{still_after}
use Rattle.run_merge.proofs.order.Order.step.Goals as goal

pub returns-in-None : goal.returns-in-None
returns-in-None c = still_after (order_seen c.args.self.now) (order_seen c.turn.new.self) c.turn.ensures.same (rw c.in-None.is at c.in_ok-turn.ensures.turn)
