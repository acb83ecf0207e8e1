-- Switches without a disk: a network in which pharmacies and payers keep before they tell, and a switch keeps nothing.
use Rattle.std.specs.Prelude.{◌≡◌, ◌⊎◌, ℕ, List, [], ◌∷◌, ◌++◌, Option, Some, None}
use Rattle.claim_model.specs.Context.{Context}
use Rattle.claim_model.specs.Laws.{Laws}
use Rattle.claim_model.specs.Numbered.{numbered}
use Rattle.claim_model.specs.Node.{Node, Pharmacy, Switch, Payer}
use Rattle.claim_model.specs.World.{World, Packet, Event, run}
use Rattle.claim_model.specs.Settings.{WorldSettings, Accepts, opening}
use Rattle.claim_model.specs.Nodes.{AnyNode, node_at, asked}
use Rattle.claim_model.specs.Logs.{Logged, log_in, posted_by}
use Rattle.claim_model.specs.Interleavings.{AllAccepted}
use Rattle.crash_safety.specs.Network.{Process, Network, Move, Calling, Syncing, Saying, Crashing, Restarting, replayed, put, calling, one_synced, saying, crashed, restarted, beginning}
use Rattle.crash_safety.specs.Runs.{IsAmong, on_disks, in_files}

-- A switch's process has no disk: its synced calls are none for good, and those that are not synced are what it did in this life alone.

-- a sync; at a switch there is none
abbrev pub synced_once : Node → Process → Process
synced_once (Pharmacy n) p = one_synced p p.unsynced
synced_once (Switch n) p = p
synced_once (Payer n) p = one_synced p p.unsynced

-- the calls of which a node may say what they sent: kept before told, at pharmacies and payers alone
abbrev pub tellable : Node → Process → List Logged
tellable (Pharmacy n) p = p.synced
tellable (Switch n) p = p.unsynced
tellable (Payer n) p = p.synced

-- a death; of a switch nothing is left
abbrev pub killed : Node → Process → ℕ → Process
killed (Pharmacy n) p left = crashed p left
killed (Switch n) p left = crashed p 0
killed (Payer n) p left = crashed p left

-- a process begins; that of a switch anew, with the empty table
abbrev pub begun : Context → WorldSettings → Node → Process → Process
begun ctx s (Pharmacy n) p = restarted ctx s (Pharmacy n) p
begun ctx s (Switch n) p = restarted ctx s (Switch n) (crashed p 0)
begun ctx s (Payer n) p = restarted ctx s (Payer n) p

-- one move, where switches have no disk
unfoldable pub moved_light : Context → WorldSettings → Network → Move → Network
moved_light ctx s n (Calling event) = calling ctx n (asked n.wire event)
moved_light ctx s n (Syncing node) = put n node (synced_once node (n.at node))
moved_light ctx s n (Saying node packet) = saying n (numbered (posted_by node (tellable node (n.at node))) packet)
moved_light ctx s n (Crashing node left) = put n node (killed node (n.at node) left)
moved_light ctx s n (Restarting node) = put n node (begun ctx s node (n.at node))

abbrev pub after_light : Context → WorldSettings → Network → List Move → Network
after_light ctx s n [] = n
after_light ctx s n (move ∷ moves) = after_light ctx s (moved_light ctx s n move) moves

-- the network that moves lead to, in any order, from the beginning
abbrev pub light : Context → WorldSettings → List Move → Network
light ctx s moves = after_light ctx s beginning moves

abbrev pub or_else : Option AnyNode → Option AnyNode → Option AnyNode
or_else None other = other
or_else (Some node) other = Some node

-- the node of a name: a pharmacy or a payer is what its log makes, a switch is what its process has in memory, or empty where none lives
abbrev pub node_here : Context → WorldSettings → (Node → List Logged) → Network → Node → Option AnyNode
node_here ctx s logs n (Pharmacy k) = replayed ctx s (Pharmacy k) (logs (Pharmacy k))
node_here ctx s logs n (Switch k) = or_else (n.at (Switch k)).memory (node_at (opening s) (Switch k))
node_here ctx s logs n (Payer k) = replayed ctx s (Payer k) (logs (Payer k))

abbrev pub AreNodesHere : Context → WorldSettings → (Node → List Logged) → Network → World → Type 0
AreNodesHere ctx s logs n w = (node : Node) → node_at w node ≡ node_here ctx s logs n node

-- the nodes of a world are what the disks of pharmacies and payers hold for certain, or what lies in their files, and the tables in memory
abbrev pub HoldsHere : Context → WorldSettings → Network → World → Type 0
HoldsHere ctx s n w = AreNodesHere ctx s (on_disks n) n w ⊎ AreNodesHere ctx s (in_files n) n w

-- a run of accepted events has these logs of pharmacies and payers, and all that was said is among its packets
pub record HasRunHere (ctx : Context) (s : WorldSettings) (logs : Node → List Logged) (said : List Packet) (events : List Event) : Type 0 where
  pub accepted : AllAccepted ctx (opening s) events
  pub pharmacies : (k : ℕ) → log_in ctx (opening s) events (Pharmacy k) ≡ logs (Pharmacy k)
  pub payers : (k : ℕ) → log_in ctx (opening s) events (Payer k) ≡ logs (Payer k)
  pub all : (k : ℕ) (p : Packet) → numbered said k ≡ Some p → IsAmong (run ctx (opening s) events).packets p

-- the run of such a network at one moment goes on to that of a later one, and further to what lies in the files then
pub record CourseHere (ctx : Context) (s : WorldSettings) (now later : Network) : Type 0 where
  pub before : List Event
  pub between : List Event
  pub beyond : List Event
  pub first : HasRunHere ctx s (on_disks now) now.wire before
  pub disks : HasRunHere ctx s (on_disks later) later.wire (before ++ between)
  pub files : HasRunHere ctx s (in_files later) later.wire ((before ++ between) ++ beyond)

-- this is true, whatever is killed, of disks that switches do not have and memories
abbrev pub WithNoDiskAtSwitches : (Context → World → Type 0) → Type 0
WithNoDiskAtSwitches promise = (ctx : Context) (s : WorldSettings) (moves : List Move) (w : World) → Laws ctx → Accepts ctx s → HoldsHere ctx s (light ctx s moves) w → promise ctx w

-- this is true between what the disks hold at one moment and what disks or memories hold at any later one
abbrev pub AtAnyLaterMomentHere : (Context → World → World → Type 0) → Type 0
AtAnyLaterMomentHere promise =
    (ctx : Context) (s : WorldSettings) (moves more : List Move) (w v : World) → Laws ctx → Accepts ctx s → AreNodesHere ctx s (on_disks (light ctx s moves)) (light ctx s moves) w
    → HoldsHere ctx s (light ctx s (moves ++ more)) v → promise ctx w v

-- this is true of each packet that was said, by a switch too, whatever becomes of its sender then
abbrev pub OnceSaidHere : (Context → World → Packet → Type 0) → Type 0
OnceSaidHere promise =
    (ctx : Context) (s : WorldSettings) (moves more : List Move) (w : World) (k : ℕ) (p : Packet) → Laws ctx → Accepts ctx s → numbered (light ctx s moves).wire k ≡ Some p
    → HoldsHere ctx s (light ctx s (moves ++ more)) w → promise ctx w p
