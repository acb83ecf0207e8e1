use Rattle.std.proofs.Common.{◌∙◌, sym, refl}
use Rattle.run_merge.specs.Naming.{calls_of}
use Rattle.node_log.specs.LogSeen.{logs_seen}
use Rattle.run_merge.specs.Orders.{order_seen}
use Rattle.run_merge.proofs.Lines.{made_more, fewer_left}
use Rattle.run_merge.proofs.Placing.{still_done, still_none}
use Rattle.run_merge.proofs.order.in_order.Goals as goal

pub loop-order-smaller : goal.loop-order-smaller
loop-order-smaller c = fewer_left (order_seen c.loop-order.order) (order_seen c.step.new.self) (rw c.if-branch.true at c.in_ok-step.ensures)

pub loop-order-preserved : goal.loop-order-preserved
loop-order-preserved c = made_more (calls_of (logs_seen c.args.logs.now)) (order_seen c.loop-order.order) (order_seen c.step.new.self) c.loop-order.invariant (rw c.if-branch.true at c.in_ok-step.ensures)

pub returns-then-is_done : goal.returns-then-is_done
returns-then-is_done c =
    still_done (calls_of (logs_seen c.args.logs.now)) (order_seen c.loop-order.order) (order_seen c.step.new.self) c.step.new.self.lines.items c.loop-order.invariant (rw c.if-branch.false at c.in_ok-step.ensures) refl
    (sym c.is_done.ensures ∙ c.if-is_done.true)

pub returns : goal.returns
returns c =
    still_none (calls_of (logs_seen c.args.logs.now)) (order_seen c.loop-order.order) (order_seen c.step.new.self) c.step.new.self.lines.items c.loop-order.invariant (rw c.if-branch.false at c.in_ok-step.ensures) refl
    (sym c.is_done.ensures ∙ c.if-is_done.false)
