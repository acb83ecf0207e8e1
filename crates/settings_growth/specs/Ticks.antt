-- Ticks that do nothing, and logs without them.
use Rattle.std.specs.Prelude.{◌≡◌, ℕ, List, [], ◌∷◌, ◌++◌}
use Rattle.std.specs.List.{AllByRecursion}
use Rattle.claim_model.specs.Context.{Context}
use Rattle.claim_model.specs.Journal.{Entry, Has, Journal}
use Rattle.claim_model.specs.Node.{Node, Up, AtRest, Tick, Sent, Done, pharmacy_step}
use Rattle.claim_model.specs.Nodes.{AnyNode, OfPharmacy, OfSwitch, OfPayer}
use Rattle.claim_model.specs.Logs.{Logged, replay, Makes, posted_by}

pub record HasAnswer (e : Entry) : Type 0 where
  pub answer : List ℕ
  pub is : e.state ≡ Has answer

-- every entry of a journal has its answer, as where there is none
abbrev pub HasNoOpenEntry : Journal → Type 0
HasNoOpenEntry j = AllByRecursion HasAnswer j.entries

-- a tick of a pharmacy with such a journal changes nothing and sends nothing
abbrev pub TickDoesNothing : Context → Journal → Type 0
TickDoesNothing ctx j = pharmacy_step ctx (Up j) Tick ≡ Done (Up j) []

-- the node is a pharmacy that is up and has no open entry
abbrev pub HasNothingToSend : AnyNode → Type 0
HasNothingToSend (OfPharmacy (Up j)) = HasNoOpenEntry j
HasNothingToSend (OfPharmacy (AtRest j)) = ⊥
HasNothingToSend (OfSwitch node) = ⊥
HasNothingToSend (OfPayer node) = ⊥

abbrev pub tick_that_sent : List Sent → Logged
tick_that_sent sent = record { call = Tick; sent = sent }

-- a log without one tick: the node makes it, comes to the same by it, and its packets are the same, in their order
pub record IsSameWithout (ctx : Context) (name : Node) (before : AnyNode) (log : List Logged) (tick : Logged) (more : List Logged) : Type 0 where
  pub makes : Makes ctx before (log ++ more)
  pub leads : replay ctx before (log ++ more) ≡ replay ctx before (log ++ tick ∷ more)
  pub posts : posted_by name (log ++ more) ≡ posted_by name (log ++ tick ∷ more)
