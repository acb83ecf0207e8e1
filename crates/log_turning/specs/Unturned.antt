-- Why a log is not turned over: each cause is true.
use Rattle.std.specs.Prelude.{◌≡◌, ◌≢◌, ◌⊎◌, ⊤, ℕ, ◌+◌, ◌≤◌, ◌^◌, true, List, Option, Some}
use Rattle.claim_model.specs.Node.{Node}
use Rattle.claim_model.specs.Nodes.{AnyNode}
use Rattle.world_setup.specs.Seen.{settings_seen}
use Rattle.world_setup.specs.declared.settings.WorldSettings.{WorldSettings}
use Rattle.node_state.specs.Resting.{IsResting, is_down}
use Rattle.kept_logs.specs.Rests.{begins, calls_before}
use Rattle.node_service.specs.Opened.{Spells}
use Rattle.node_service.specs.Refused.{IsRefused}
use Rattle.node_service.specs.Serving.{Serving}
use Rattle.node_service.specs.declared.fault.ServiceFault.{ServiceFault}
use Rattle.node_service.specs.declared.fault.ServiceFault.TheVariants as service_fault
use Rattle.log_turning.specs.declared.fault.TurnFault.{TurnFault}
use Rattle.log_turning.specs.declared.fault.TurnFault.TheVariants.{OutOfMemory, Refused, NoRecord}
use Rattle.log_turning.specs.Turned.{Serves}

-- a node that is at rest is not the one of its name under its settings, so it has no record
abbrev pub HasNoRecord : Serving → Type 0
HasNoRecord s = IsResting (settings_seen s.settings) s.node s.state → ⊥

-- the node that is served from bytes, stopped, has no record
pub record LeavesNone (text : List ℕ) (node : Node) (rest : Option (List ℕ)) (bytes : List ℕ) : Type 0 where
  pub kept : ℕ
  pub last : Serving
  pub serves : Serves text node rest bytes kept last
  pub down : is_down last.state ≡ true
  pub none : HasNoRecord last

-- the node that is served from bytes has made more calls than 64 bits count
pub record HasTooMany (text : List ℕ) (node : Node) (rest : Option (List ℕ)) (bytes : List ℕ) : Type 0 where
  pub kept : ℕ
  pub last : Serving
  pub serves : Serves text node rest bytes kept last
  pub many : 2 ^ 64 ≤ calls_before rest + last.calls

-- what is said of a node that is not served
abbrev pub turn_fault : ServiceFault → TurnFault
turn_fault service_fault.OutOfMemory = OutOfMemory
turn_fault service_fault.Settings = Refused service_fault.Settings
turn_fault service_fault.NoSuchNode = Refused service_fault.NoSuchNode
turn_fault service_fault.Rest = Refused service_fault.Rest
turn_fault (service_fault.Log why) = Refused (service_fault.Log why)
turn_fault service_fault.OtherNode = Refused service_fault.OtherNode
turn_fault (service_fault.NotMade place) = Refused (service_fault.NotMade place)

-- a log is not turned over for this cause
abbrev pub IsUnturned : List ℕ → Node → Option (List ℕ) → List ℕ → TurnFault → Type 0
IsUnturned text node rest bytes OutOfMemory = ⊤
IsUnturned text node rest bytes (Refused why) = (why ≢ service_fault.OutOfMemory) × IsRefused text node rest bytes why
IsUnturned text node rest bytes NoRecord = LeavesNone text node rest bytes ⊎ HasTooMany text node rest bytes

-- ---- on the way

-- no node is served from bytes for this cause
abbrev pub IsUnserved : List ℕ → Node → Option (List ℕ) → List ℕ → TurnFault → Type 0
IsUnserved text node rest bytes OutOfMemory = ⊤
IsUnserved text node rest bytes (Refused why) = (why ≢ service_fault.OutOfMemory) × IsRefused text node rest bytes why
IsUnserved text node rest bytes NoRecord = ⊥

-- a log is not closed for this cause
abbrev pub IsUnclosed : List ℕ → Node → Option (List ℕ) → List ℕ → TurnFault → Type 0
IsUnclosed text node rest bytes OutOfMemory = ⊤
IsUnclosed text node rest bytes (Refused why) = (why ≢ service_fault.OutOfMemory) × IsRefused text node rest bytes why
IsUnclosed text node rest bytes NoRecord = LeavesNone text node rest bytes

-- the log of a node that is served is not closed for this cause
abbrev pub IsUnended : List ℕ → Node → Option (List ℕ) → List ℕ → TurnFault → Type 0
IsUnended text node rest bytes OutOfMemory = ⊤
IsUnended text node rest bytes (Refused why) = ⊥
IsUnended text node rest bytes NoRecord = LeavesNone text node rest bytes

-- a node is not started for this cause
abbrev pub IsUnstarted : Serving → TurnFault → Type 0
IsUnstarted s OutOfMemory = ⊤
IsUnstarted s (Refused why) = ⊥
IsUnstarted s NoRecord = HasNoRecord s

-- a log that begins with this rest can go on: the settings are taken, and from it they make the node
pub record CanGoOn (text : List ℕ) (node : Node) (rest : List ℕ) : Type 0 where
  pub settings : WorldSettings
  pub spells : Spells text settings
  pub begins_with : AnyNode
  pub goes_on : begins settings node (Some rest) ≡ Some begins_with
