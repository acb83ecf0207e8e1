-- Nodes as the logs of their names leave them.
use Rattle.std.specs.Prelude.{◌≡◌, ◌⊎◌, ℕ, List, length, slice_get, Option, Some}
use Rattle.std.specs.BTreeMap.{get}
use Rattle.std.specs.Ordering.{nat_cmp}
use Rattle.claim_model.specs.Bytes.{bytes_with}
use Rattle.claim_model.specs.Logs.{NodeLog}
use Rattle.claim_model.specs.Node.{Node, Pharmacy, Switch, Payer}
use Rattle.claim_model.specs.Nodes.{AnyNode, OfPharmacy, OfSwitch, OfPayer}
use Rattle.claim_model.specs.Numbered.{numbered}
use Rattle.world_setup.specs.Seen.{settings_seen}
use Rattle.world_setup.specs.declared.settings.WorldSettings.{WorldSettings}
use Rattle.world_core.specs.NodeLists.{NodeLists}
use Rattle.node_log.specs.Replayed.{replayed}
use Rattle.run_merge.specs.Merged.{AllFit, FitsAlone}
use Rattle.log_audit.specs.declared.judging.standing.ByNumber.{ByNumber}
use Rattle.world_setup.specs.Taken.{routes_in}

-- a log fits its node, which is this one after it
pub record IsLeftBy (s : WorldSettings) (log : NodeLog) (node : AnyNode) : Type 0 where
  pub fits : FitsAlone (bytes_with (routes_in s)) (settings_seen s) log
  pub left : replayed s log.node log.calls ≡ Some node

-- one of these logs is of this name, and leaves this node
pub record StandsBy (s : WorldSettings) (logs : List NodeLog) (name : Node) (node : AnyNode) : Type 0 where
  pub place : ℕ
  pub log : NodeLog
  pub at : slice_get logs place ≡ Some log
  pub names : log.node ≡ name
  pub left : replayed s log.node log.calls ≡ Some node

-- each node of a kind that is found under a number is what the log of that name leaves
abbrev pub EachStands : {A : Type 0} → WorldSettings → List NodeLog → (ℕ → Node) → (A → AnyNode) → (ℕ → Option A) → Type 0
EachStands {A} s logs name kind found = (n : ℕ) (node : A) → found n ≡ Some node → StandsBy s logs (name n) (kind node)

-- the nodes by their numbers are what logs leave
pub record AreByNumber (s : WorldSettings) (logs : List NodeLog) (nodes : ByNumber) : Type 0 where
  pub pharmacies : EachStands s logs Pharmacy OfPharmacy (get nat_cmp nodes.pharmacies)
  pub switches : EachStands s logs Switch OfSwitch (get nat_cmp nodes.switches)
  pub payers : EachStands s logs Payer OfPayer (get nat_cmp nodes.payers)

-- what is found after an entry under a number is what was found before, or what was entered
abbrev pub Enters : {A : Type 0} → (ℕ → Option A) → ℕ → A → (ℕ → Option A) → Type 0
Enters {A} found number node after = (n : ℕ) (a : A) → after n ≡ Some a → (found n ≡ Some a) ⊎ ((number ≡ n) × (node ≡ a))

-- these are this many, each of which was found under its number, from 1
pub record AreNumbered {A : Type 0} (found : ℕ → Option A) (count : ℕ) (nodes : List A) : Type 0 where
  pub count_is : length nodes ≡ count
  pub each : (n : ℕ) (a : A) → numbered nodes n ≡ Some a → found n ≡ Some a

-- all nodes of the settings, each of which was found under its number
pub record IsInOrder (s : WorldSettings) (found : ByNumber) (nodes : NodeLists) : Type 0 where
  pub pharmacies : AreNumbered (get nat_cmp found.pharmacies) (length s.pharmacies.items) nodes.pharmacies
  pub switches : AreNumbered (get nat_cmp found.switches) (length s.switches.items) nodes.switches
  pub payers : AreNumbered (get nat_cmp found.payers) (length s.payers.items) nodes.payers

-- all nodes of the settings, each of which is what the log of its name leaves; and each log fits its node
pub record AreStanding (s : WorldSettings) (logs : List NodeLog) (nodes : NodeLists) : Type 0 where
  pub fit : AllFit (bytes_with (routes_in s)) (settings_seen s) logs
  pub pharmacies : EachStands s logs Pharmacy OfPharmacy (numbered nodes.pharmacies)
  pub switches : EachStands s logs Switch OfSwitch (numbered nodes.switches)
  pub payers : EachStands s logs Payer OfPayer (numbered nodes.payers)
  pub all_pharmacies : length nodes.pharmacies ≡ length s.pharmacies.items
  pub all_switches : length nodes.switches ≡ length s.switches.items
  pub all_payers : length nodes.payers ≡ length s.payers.items
