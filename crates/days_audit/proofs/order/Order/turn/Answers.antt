use Rattle.std.proofs.Common.{subst, IfOk, MatchOption, ◌∙◌}
use Rattle.claim_model.specs.Bytes.{bytes_with}
use Rattle.days_audit.specs.Orders.{OrderParts, AllWait, GoesAt}
use Rattle.days_audit.proofs.order.Order.turn.Goals as goal

pub returns-clause-turn : goal.returns-clause-turn
returns-clause-turn c =
    subst (λ (o : OrderParts). IfOk c.first_turn.result (λ r. MatchOption r (AllWait (bytes_with c.args.routes.now) o) (GoesAt (bytes_with c.args.routes.now) o)))
    (c.stopping_turn.ensures.same ∙ c.awake_turn.ensures.same) c.first_turn.ensures
