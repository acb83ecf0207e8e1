-- All nodes of a running system.
use Rattle.std.specs.Prelude.{◌≡◌, ℕ, false, Result, Err, vec_len}
use Rattle.claim_model.specs.Node.{Node, Pharmacy, Switch, Payer}
use Rattle.claim_model.specs.declared.refusal.Fault.{Fault}
use Rattle.claim_model.specs.declared.refusal.Refusal.TheVariants.{NoSuchNode}
use Rattle.world_setup.specs.Seen.{settings_seen}
use Rattle.world_setup.specs.declared.settings.WorldSettings.{WorldSettings}
use Rattle.node_log.specs.ExistingNodes.{is_there}
use Rattle.node_threads.specs.declared.hall.NodeKind.{NodeKind}
use Rattle.node_threads.specs.declared.hall.NodeKind.TheVariants as kind

-- there are this many pharmacies, switches and payers in the settings
pub record AreStations (s : WorldSettings) (of_pharmacies of_switches of_payers : ℕ) : Type 0 where
  pub pharmacies : of_pharmacies ≡ vec_len s.pharmacies
  pub switches : of_switches ≡ vec_len s.switches
  pub payers : of_payers ≡ vec_len s.payers

-- how many nodes of a kind there are in the settings
abbrev pub kind_count : WorldSettings → NodeKind → ℕ
kind_count s kind.Pharmacy = vec_len s.pharmacies
kind_count s kind.Switch = vec_len s.switches
kind_count s kind.Payer = vec_len s.payers

-- the node of a kind and a number
abbrev pub kind_node : NodeKind → ℕ → Node
kind_node kind.Pharmacy number = Pharmacy number
kind_node kind.Switch number = Switch number
kind_node kind.Payer number = Payer number

-- why a call on a node that is not there is refused
abbrev pub absent : Fault
absent = Fault.Refused NoSuchNode

-- it is refused so
abbrev pub RefusesAbsent : {A : Type 0} → WorldSettings → Node → Result A Fault → Type 0
RefusesAbsent s node result = is_there (settings_seen s) node ≡ false → result ≡ Err absent
