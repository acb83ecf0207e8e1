use Rattle.std.proofs.Common.{subst, sym, inl}
use Rattle.claim_model.specs.Bytes.{bytes_with}
use Rattle.days_audit.specs.Orders.{AllWait}
use Rattle.days_audit.proofs.order.Order.step.Goals as goal

pub returns-in-None : goal.returns-in-None
returns-in-None c =
    inl (record { same = c.turn.ensures.same; wait = subst (AllWait (bytes_with c.args.routes.now)) (sym c.turn.ensures.same) (rw c.in-None.is at c.in_ok-place.ensures.turn) })
