-- A call on a node of one kind is a call on the node.
use Rattle.std.proofs.Common.{◌≡◌, List, Option, Some, None, Result, Ok, Err, IfOk, refl}
use Rattle.std.specs.Prelude.{IfErr}
use Rattle.claim_model.specs.declared.refusal.Refusal.{Refusal}
use Rattle.claim_model.specs.declared.refusal.Fault.{Fault}
use Rattle.claim_model.specs.Refusal.{refusal_of}
use Rattle.claim_model.specs.Node.{Sent, Outcome, Done}
use Rattle.claim_model.specs.Refused.{RefusedAs}
use Rattle.node_state.specs.Nodes.{AnyNode, as_node}

pub done_as : {A R : Type 0} (kind : A → AnyNode) (step : Outcome A) (next : A) (sent : R → List Sent) (given : Result R Fault) → IfOk given (λ r. step ≡ Done next (sent r)) → IfOk given (λ r. as_node kind step ≡ Done (kind next) (sent r))
done_as kind step next sent (Ok r) done = rw done refl
done_as kind step next sent (Err fault) done = tt

refused_by : {A : Type 0} (kind : A → AnyNode) (step : Outcome A) (cause : Option Refusal) → RefusedAs cause step → RefusedAs cause (as_node kind step)
refused_by kind step None refused = tt
refused_by kind step (Some why) refused = rw refused refl

pub refused_as : {A R : Type 0} (kind : A → AnyNode) (step : Outcome A) (given : Result R Fault) → IfErr given (λ fault. RefusedAs (refusal_of fault) step) → IfErr given (λ fault. RefusedAs (refusal_of fault) (as_node kind step))
refused_as kind step (Ok r) refused = tt
refused_as kind step (Err fault) refused = refused_by kind step (refusal_of fault) refused
