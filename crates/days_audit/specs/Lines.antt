-- Logs by the names of their nodes, and the nodes with which they begin.
use Rattle.std.specs.Prelude.{◌≡◌, ℕ, ◌<◌, Bool, true, false, List, length, slice_get, Option, Some, None, MatchOption}
use Rattle.std.specs.Global.{Vec}
use Rattle.claim_model.specs.Journal.{Journal, JournalAtRest}
use Rattle.claim_model.specs.Logs.{NodeLog}
use Rattle.claim_model.specs.Node.{Node, Pharmacy, Switch, Payer, Power}
use Rattle.claim_model.specs.Nodes.{AnyNode, OfPharmacy, OfSwitch, OfPayer, same_node}
use Rattle.claim_model.specs.Numbered.{numbered}
use Rattle.claim_model.specs.Rows.{Book}
use Rattle.node_log.specs.ExistingNodes.{is_numbered}
use Rattle.run_merge.specs.Naming.{all_distinct}
use Rattle.vouched_runs.specs.Parties.{Parties}

-- whether a node is one of so many pharmacies and so many payers
abbrev pub is_party : ℕ → ℕ → Node → Bool
is_party pharmacies payers (Pharmacy number) = is_numbered pharmacies number
is_party pharmacies payers (Switch number) = false
is_party pharmacies payers (Payer number) = is_numbered payers number

-- no log before a place is of this node
abbrev pub NoneBefore : ℕ → Node → List NodeLog → Type 0
NoneBefore place node logs = (k : ℕ) (log : NodeLog) → k < place → slice_get logs k ≡ Some log → same_node log.node node ≡ false

-- no log is of this node
abbrev pub NoLog : Node → List NodeLog → Type 0
NoLog node logs = (k : ℕ) (log : NodeLog) → slice_get logs k ≡ Some log → same_node log.node node ≡ false

-- the first log of a node is that at a place
pub record FirstAt (node : Node) (logs : List NodeLog) (place : ℕ) : Type 0 where
  pub log : NodeLog
  pub at : slice_get logs place ≡ Some log
  pub names : same_node log.node node ≡ true
  pub before : NoneBefore place node logs

abbrev pub FirstOf : Node → List NodeLog → Option ℕ → Type 0
FirstOf node logs found = MatchOption found (NoLog node logs) (FirstAt node logs)

-- a log of a node begins as this, where this is what the log of a node at a place begins with
pub record BegunAs (begun : Node → ℕ → Option AnyNode) (logs : List NodeLog) (node : Node) (state : AnyNode) : Type 0 where
  pub place : ℕ
  pub log : NodeLog
  pub at : slice_get logs place ≡ Some log
  pub names : log.node ≡ node
  pub is : begun node place ≡ Some state

-- no log of a node begins as that node, where each node has at most one log
abbrev pub NotBegun : (Node → ℕ → Option AnyNode) → List NodeLog → Node → Type 0
NotBegun begun logs node = all_distinct logs ≡ true → (state : AnyNode) → BegunAs begun logs node state → ⊥

abbrev pub NodeBegun : (Node → ℕ → Option AnyNode) → List NodeLog → Node → Option AnyNode → Type 0
NodeBegun begun logs node found = MatchOption found (NotBegun begun logs node) (BegunAs begun logs node)

abbrev pub is_pharmacy : AnyNode → Option (Power Journal JournalAtRest)
is_pharmacy (OfPharmacy node) = Some node
is_pharmacy (OfSwitch node) = None
is_pharmacy (OfPayer node) = None

abbrev pub is_payer : AnyNode → Option (Power Book Book)
is_payer (OfPharmacy node) = None
is_payer (OfSwitch node) = None
is_payer (OfPayer node) = Some node

abbrev pub BegunPharmacy : (Node → ℕ → Option AnyNode) → List NodeLog → ℕ → Option (Power Journal JournalAtRest) → Type 0
BegunPharmacy begun logs number found = MatchOption found (NotBegun begun logs (Pharmacy number)) (λ node. BegunAs begun logs (Pharmacy number) (OfPharmacy node))

abbrev pub BegunPayer : (Node → ℕ → Option AnyNode) → List NodeLog → ℕ → Option (Power Book Book) → Type 0
BegunPayer begun logs number found = MatchOption found (NotBegun begun logs (Payer number)) (λ node. BegunAs begun logs (Payer number) (OfPayer node))

-- one of so many pharmacies and payers, whose log does not begin as that node
pub record SomeNotBegun (begun : Node → ℕ → Option AnyNode) (logs : List NodeLog) (pharmacies payers : ℕ) : Type 0 where
  pub node : Node
  pub party : is_party pharmacies payers node ≡ true
  pub not : NotBegun begun logs node

-- so many pharmacies, numbered from 1, are what their logs begin with
pub record ArePharmacies (begun : Node → ℕ → Option AnyNode) (logs : List NodeLog) (count : ℕ) (nodes : List (Power Journal JournalAtRest)) : Type 0 where
  pub count_is : length nodes ≡ count
  pub each : (number : ℕ) (node : Power Journal JournalAtRest) → numbered nodes number ≡ Some node → BegunAs begun logs (Pharmacy number) (OfPharmacy node)

-- and so many payers
pub record ArePayers (begun : Node → ℕ → Option AnyNode) (logs : List NodeLog) (count : ℕ) (nodes : List (Power Book Book)) : Type 0 where
  pub count_is : length nodes ≡ count
  pub each : (number : ℕ) (node : Power Book Book) → numbered nodes number ≡ Some node → BegunAs begun logs (Payer number) (OfPayer node)

abbrev pub BegunPharmacies : (Node → ℕ → Option AnyNode) → List NodeLog → ℕ → ℕ → Option (Vec (Power Journal JournalAtRest)) → Type 0
BegunPharmacies begun logs pharmacies payers found = MatchOption found (SomeNotBegun begun logs pharmacies payers) (λ nodes. ArePharmacies begun logs pharmacies nodes.items)

abbrev pub BegunPayers : (Node → ℕ → Option AnyNode) → List NodeLog → ℕ → ℕ → Option (Vec (Power Book Book)) → Type 0
BegunPayers begun logs pharmacies payers found = MatchOption found (SomeNotBegun begun logs pharmacies payers) (λ nodes. ArePayers begun logs payers nodes.items)

-- all parties are what their logs begin with
pub record BegunLive (begun : Node → ℕ → Option AnyNode) (logs : List NodeLog) (pharmacies payers : ℕ) (p : Parties) : Type 0 where
  pub of_pharmacies : ArePharmacies begun logs pharmacies p.pharmacies
  pub of_payers : ArePayers begun logs payers p.payers

abbrev pub AllBegin : (Node → ℕ → Option AnyNode) → List NodeLog → ℕ → ℕ → Option Parties → Type 0
AllBegin begun logs pharmacies payers found = MatchOption found (SomeNotBegun begun logs pharmacies payers) (BegunLive begun logs pharmacies payers)
