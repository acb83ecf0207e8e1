use Rattle.std.proofs.Common.{ℕ, subst, sym, ◌∙◌}
use Rattle.claim_model.specs.Bytes.{bytes_with}
use Rattle.node_log.specs.LogSeen.{logs_seen}
use Rattle.days_audit.specs.Orders.{HasTurns, order_seen}
use Rattle.days_audit.proofs.Ordering.{made_more, fewer_left, ended_done, ended_not}
use Rattle.days_audit.proofs.order.in_order.Goals as goal

pub loop-order-smaller : goal.loop-order-smaller
loop-order-smaller c = fewer_left (bytes_with c.args.routes.now) (order_seen c.loop-order.order) (order_seen c.step.new.self) (rw c.if-branch.true at c.in_ok-step.ensures)

pub loop-order-preserved : goal.loop-order-preserved
loop-order-preserved c =
    made_more (bytes_with c.args.routes.now) c.args.live (logs_seen c.args.logs.now) (order_seen c.loop-order.order) (order_seen c.step.new.self) c.loop-order.invariant (rw c.if-branch.true at c.in_ok-step.ensures)

pub returns-then-is_done : goal.returns-then-is_done
returns-then-is_done c =
    subst (λ (n : ℕ). HasTurns (bytes_with c.args.routes.now) c.args.live (logs_seen c.args.logs.now) n) (sym (c.len.ensures ∙ c.step.new.self.placed.ok.0))
    (ended_done (bytes_with c.args.routes.now) c.args.live (logs_seen c.args.logs.now) (order_seen c.loop-order.order) (order_seen c.step.new.self) c.loop-order.invariant (rw c.if-branch.false at c.in_ok-step.ensures)
    (sym c.is_done.ensures ∙ c.if-is_done.true))

pub returns : goal.returns
returns c =
    ended_not (bytes_with c.args.routes.now) c.args.live (logs_seen c.args.logs.now) (order_seen c.loop-order.order) (order_seen c.step.new.self) (c.vouched_calls_go_on.ensures (bytes_with c.args.routes.now)) c.loop-order.invariant
    (rw c.if-branch.false at c.in_ok-step.ensures) (sym c.is_done.ensures ∙ c.if-is_done.false)
