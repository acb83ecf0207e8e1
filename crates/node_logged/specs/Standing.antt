-- Nodes as they stand, each kind in the order of its numbers, and the logs by which they are kept.
use Rattle.std.specs.Prelude.{◌≡◌, ℕ, suc, List, [], ◌∷◌, ◌++◌, length, slice_get, Some}
use Rattle.claim_model.specs.Journal.{Journal, JournalAtRest}
use Rattle.claim_model.specs.Table.{Table}
use Rattle.claim_model.specs.Rows.{Book}
use Rattle.claim_model.specs.Node.{Node, Pharmacy, Switch, Payer, Power}
use Rattle.claim_model.specs.Nodes.{AnyNode, OfPharmacy, OfSwitch, OfPayer}
use Rattle.claim_model.specs.Logs.{NodeLog}
use Rattle.world_setup.specs.Seen.{settings_seen}
use Rattle.world_setup.specs.declared.settings.WorldSettings.{WorldSettings}
use Rattle.world_core.specs.NodeLists.{NodeLists}
use Rattle.run_merge.specs.Merged.{AllFit}
use Rattle.node_logged.specs.Setting.{context_of}
use Rattle.node_logged.specs.Holding.{IsKept}

-- the name of a node that is the next of its kind
abbrev pub next_name : NodeLists → AnyNode → Node
next_name nodes (OfPharmacy node) = Pharmacy (suc (length nodes.pharmacies))
next_name nodes (OfSwitch node) = Switch (suc (length nodes.switches))
next_name nodes (OfPayer node) = Payer (suc (length nodes.payers))

-- the nodes, and one more after those of its kind
abbrev pub with_node : NodeLists → AnyNode → NodeLists
with_node nodes (OfPharmacy node) = record { pharmacies = nodes.pharmacies ++ node ∷ []; switches = nodes.switches; payers = nodes.payers }
with_node nodes (OfSwitch node) = record { pharmacies = nodes.pharmacies; switches = nodes.switches ++ node ∷ []; payers = nodes.payers }
with_node nodes (OfPayer node) = record { pharmacies = nodes.pharmacies; switches = nodes.switches; payers = nodes.payers ++ node ∷ [] }

-- the node of this name is kept by a log among these
pub record HasLogOf (s : WorldSettings) (logs : List NodeLog) (name : Node) (node : AnyNode) : Type 0 where
  pub place : ℕ
  pub log : NodeLog
  pub at : slice_get logs place ≡ Some log
  pub names : log.node ≡ name
  pub kept : IsKept s node log

-- each node is kept by the log of its name, under these settings, and each log fits
pub record AreStanding (s : WorldSettings) (nodes : NodeLists) (logs : List NodeLog) : Type 0 where
  pub pharmacies : (k : ℕ) (node : Power Journal JournalAtRest) → slice_get nodes.pharmacies k ≡ Some node → HasLogOf s logs (Pharmacy (suc k)) (OfPharmacy node)
  pub switches : (k : ℕ) (node : Power Table ℕ) → slice_get nodes.switches k ≡ Some node → HasLogOf s logs (Switch (suc k)) (OfSwitch node)
  pub payers : (k : ℕ) (node : Power Book Book) → slice_get nodes.payers k ≡ Some node → HasLogOf s logs (Payer (suc k)) (OfPayer node)
  pub fit : AllFit (context_of s) (settings_seen s) logs

-- there are as many of each kind as in the settings
pub record AreAll (s : WorldSettings) (nodes : NodeLists) : Type 0 where
  pub pharmacies : length nodes.pharmacies ≡ length s.pharmacies.items
  pub switches : length nodes.switches ≡ length s.switches.items
  pub payers : length nodes.payers ≡ length s.payers.items
