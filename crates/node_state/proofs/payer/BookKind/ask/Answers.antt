use Rattle.std.proofs.Common.{ℕ, List, subst}
use Rattle.claim_model.specs.Words.{SetPrice}
use Rattle.claim_model.specs.Node.{Up, Revise, OfPlan}
use Rattle.node_state.specs.Outcomes.{PayerMakes, PayerRefuses}
use Rattle.node_state.proofs.payer.BookKind.ask.Goals as goal

pub returns-in-Plan-clause-ok : goal.returns-in-Plan-clause-ok
returns-in-Plan-clause-ok c =
    rw c.in-Plan.is
    (subst (λ (product : List ℕ). PayerMakes c.args.routes.now (Up c.args.self.now) (Revise (OfPlan (SetPrice product c.in-Plan.price))) (Up c.change_plan.new.book) c.change_plan.result)
    c.as_slice.ensures (c.change_plan.ensures.ok c.args.routes.now))

pub returns-in-Plan-clause-fault : goal.returns-in-Plan-clause-fault
returns-in-Plan-clause-fault c =
    rw c.in-Plan.is
    (subst (λ (product : List ℕ). PayerRefuses c.args.routes.now (Up c.args.self.now) (Revise (OfPlan (SetPrice product c.in-Plan.price))) c.change_plan.result)
    c.as_slice.ensures (c.change_plan.ensures.fault c.args.routes.now))

pub returns-in-Terms-clause-ok : goal.returns-in-Terms-clause-ok
returns-in-Terms-clause-ok c = rw c.in-Terms.is (c.change_terms.ensures.ok c.args.routes.now)

pub returns-in-Terms-clause-fault : goal.returns-in-Terms-clause-fault
returns-in-Terms-clause-fault c = rw c.in-Terms.is (c.change_terms.ensures.fault c.args.routes.now)
