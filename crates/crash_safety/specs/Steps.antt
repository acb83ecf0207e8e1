-- What the process of one node does, one step after another, from any state of the node; and logs that are closed, so that a process goes on in a new one.
use Rattle.std.specs.Prelude.{◌≡◌, ⊤, ℕ, false, List, [], ◌∷◌, ◌++◌, Option, Some, None, option_map}
use Rattle.claim_model.specs.Context.{Context}
use Rattle.claim_model.specs.Node.{Node, Call}
use Rattle.claim_model.specs.World.{Packet, Event}
use Rattle.claim_model.specs.Settings.{WorldSettings, opening}
use Rattle.claim_model.specs.Nodes.{AnyNode, node_at, same_node, asked}
use Rattle.claim_model.specs.Logs.{Logged, replay}
use Rattle.crash_safety.specs.Network.{Process, Network, Move, file, calls, one_synced, crashed, after}

-- what a process does
pub data Step : Type 0 where
  -- it makes a call in memory, and its record is appended
  Makes : Call → Step
  -- the first record that is not synced is synced
  Syncs : Step
  -- it dies; of the records that are not synced the first this many are still there
  Crashes : (left : ℕ) → Step
  -- a process reads the log, and replays it
  Restarts : Step

-- what a log makes of the node that it begins with; none where there is none
abbrev pub replayed_from : Context → Option AnyNode → List Logged → Option AnyNode
replayed_from ctx begins log = option_map (λ (before : AnyNode). replay ctx before log) begins

-- one step of a process whose log begins with this node
abbrev pub step : Context → Option AnyNode → Process → Step → Process
step ctx begins p (Makes call) = calls ctx p call p.memory
step ctx begins p Syncs = one_synced p p.unsynced
step ctx begins p (Crashes left) = crashed p left
step ctx begins p Restarts = record { memory = replayed_from ctx begins (file p); synced = p.synced; unsynced = p.unsynced }

abbrev pub steps_from : Context → Option AnyNode → Process → List Step → Process
steps_from ctx begins p [] = p
steps_from ctx begins p (one ∷ more) = steps_from ctx begins (step ctx begins p one) more

-- no process lives yet, and the disk is empty
abbrev pub at_first : Process
at_first = record { memory = None; synced = []; unsynced = [] }

-- the process that steps lead to, from an empty disk
abbrev pub process_after : Context → Option AnyNode → List Step → Process
process_after ctx begins steps = steps_from ctx begins at_first steps

-- a process with the calls of logs that were closed in front of its own: those of one process, which they go on
abbrev pub in_front : List Logged → Process → Process
in_front closed p = record { memory = p.memory; synced = closed ++ p.synced; unsynced = p.unsynced }

-- the calls of steps can come over a wire: some event asks the node for each
abbrev pub CanCome : List Packet → Node → List Step → Type 0
CanCome wire node [] = ⊤
CanCome wire node (Makes call ∷ more) = ((event : Event) × (asked wire event ≡ Some (record { node = node; call = call }))) × CanCome wire node more
CanCome wire node (Syncs ∷ more) = CanCome wire node more
CanCome wire node (Crashes left ∷ more) = CanCome wire node more
CanCome wire node (Restarts ∷ more) = CanCome wire node more

-- moves of a network do what these steps do to the process of this node, and nothing else
pub record AreMoves (ctx : Context) (s : WorldSettings) (n : Network) (node : Node) (steps : List Step) : Type 0 where
  pub moves : List Move
  pub own : (after ctx s n moves).at node ≡ steps_from ctx (node_at (opening s) node) (n.at node) steps
  pub others : (other : Node) → same_node node other ≡ false → (after ctx s n moves).at other ≡ n.at other
  pub wire : (after ctx s n moves).wire ≡ n.wire

-- a move says this packet, and does nothing else
pub record IsSaid (ctx : Context) (s : WorldSettings) (n : Network) (node : Node) (p : Packet) : Type 0 where
  pub move : Move
  pub own : (other : Node) → (after ctx s n (move ∷ [])).at other ≡ n.at other
  pub wire : (after ctx s n (move ∷ [])).wire ≡ n.wire ++ p ∷ []
