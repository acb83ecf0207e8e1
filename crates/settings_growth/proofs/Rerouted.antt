-- The same reading of bytes under other routes and among more switches, and what outcomes are with another node.
use Rattle.std.proofs.Common.{◌≡◌, ℕ, List, Option, ap}
use Rattle.claim_model.specs.Words.{RouteKey}
use Rattle.claim_model.specs.Context.{Context}
use Rattle.claim_model.specs.Node.{Sent, Outcome, Done, Refused}
use Rattle.claim_model.specs.Nodes.{AnyNode, as_node}

abbrev pub rerouted : Context → (ℕ → RouteKey → Option ℕ) → ℕ → Context
rerouted ctx route count = record ctx { route = route; switches = count }

-- an outcome with another node
abbrev pub leading : {A : Type 0} → (A → A) → Outcome A → Outcome A
leading f (Done next sent) = Done (f next) sent
leading f (Refused why) = Refused why

-- a step of one kind of node, as that of a node
pub record Kind {A : Type 0} (kind : A → AnyNode) (o : Outcome A) (next : AnyNode) (sent : List Sent) : Type 0 where
  pub after : A
  pub is : o ≡ Done after sent
  pub same : kind after ≡ next

pub of_kind : {A : Type 0} (kind : A → AnyNode) (o : Outcome A) (next : AnyNode) (sent : List Sent) → as_node kind o ≡ Done next sent → Kind kind o next sent
of_kind {A = A} kind (Refused why) next sent e = absurd cc
of_kind {A = A} kind (Done after out) next sent e =
    let s : out ≡ sent = cc in
    let n : kind after ≡ next = cc in
    record { after = after; is = ap (Done after) s; same = n }
