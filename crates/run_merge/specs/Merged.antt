-- Events that merge logs.
use Rattle.std.specs.Prelude.{◌≡◌, ℕ, List, [], length, map, slice_get, true, Option, Some, None, IsSome, MatchOption}
use Rattle.std.specs.Global.{Vec}
use Rattle.bin_routes.specs.Fault.{first_fault}
use Rattle.claim_model.specs.Context.{Context}
use Rattle.claim_model.specs.Bytes.{bytes_with}
use Rattle.claim_model.specs.Settings.{settings_fault, opening}
use Rattle.claim_model.specs.Settings as model
use Rattle.claim_model.specs.Node.{Node}
use Rattle.claim_model.specs.World.{Event, Packet, run}
use Rattle.world_setup.specs.Seen.{event_seen, settings_seen}
use Rattle.world_setup.specs.declared.event.Event.{Event as Kept}
use Rattle.world_setup.specs.declared.settings.WorldSettings.{WorldSettings}
use Rattle.claim_model.specs.Nodes.{AnyNode, node_at}
use Rattle.claim_model.specs.Logs.{Logged, NodeLog}
use Rattle.claim_model.specs.Interleavings.{HasLog, IsInterleaving}
use Rattle.node_log.specs.ExistingNodes.{is_there}
use Rattle.node_log.specs.Fits.{Fits}
use Rattle.run_merge.specs.declared.history.MergeFault.{MergeFault}
use Rattle.run_merge.specs.declared.history.MergeFault.TheVariants.{OutOfMemory, Tangled}
use Rattle.world_setup.specs.Taken.{routes_in}

-- all packets that are sent in the run of these events
abbrev pub packets_after : WorldSettings → List Event → List Packet
packets_after s events = (run (bytes_with (routes_in s)) (opening (settings_seen s)) events).packets

-- a legal interleaving of logs, in a world that such settings make
pub record IsMerged (s : WorldSettings) (logs : List NodeLog) (events : List Event) : Type 0 where
  pub nodes : settings_fault (settings_seen s) ≡ None
  pub rows : first_fault (length s.payers.items) s.routes.items ≡ None
  pub legal : IsInterleaving (bytes_with (routes_in s)) (settings_seen s) logs events

-- no events are a legal interleaving
abbrev pub NoMerge : WorldSettings → List NodeLog → Type 0
NoMerge s logs = (events : List Event) → IsMerged s logs events → ⊥

-- the events of a legal interleaving, if there are any
abbrev pub MergeOf : WorldSettings → List NodeLog → Option (Vec Kept) → Type 0
MergeOf s logs found = MatchOption found (NoMerge s logs) (λ events. IsMerged s logs (map event_seen events.items))

-- logs are tangled where no events are a legal interleaving of them; want of memory says nothing
abbrev pub WhereTangled : MergeFault → WorldSettings → List NodeLog → Type 0
WhereTangled OutOfMemory s logs = Unit {0}
WhereTangled Tangled s logs = NoMerge s logs

-- each node that the world opens with has a log
abbrev pub EachHasLog : model.WorldSettings → List NodeLog → Type 0
EachHasLog s logs = (node : Node) → IsSome (node_at (opening s) node) → HasLog logs node

-- the calls fit the node that is there; a node that is not there has none
abbrev pub FitsThere : Context → Option AnyNode → List Logged → Type 0
FitsThere ctx None calls = calls ≡ []
FitsThere ctx (Some s) calls = Fits ctx s calls

-- a log is of a node that is there, and fits it
pub record FitsAlone (ctx : Context) (s : model.WorldSettings) (log : NodeLog) : Type 0 where
  pub there : is_there s log.node ≡ true
  pub fits : FitsThere ctx (node_at (opening s) log.node) log.calls

-- each log fits its node
abbrev pub AllFit : Context → model.WorldSettings → List NodeLog → Type 0
AllFit ctx s logs = (k : ℕ) (log : NodeLog) → slice_get logs k ≡ Some log → FitsAlone ctx s log
