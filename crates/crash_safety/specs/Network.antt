-- A network of processes, each with its memory and its disk, and what can happen to it: calls, syncs, words, crashes and restarts.
use Rattle.std.specs.Prelude.{ℕ, cond, List, [], ◌∷◌, ◌++◌, take, Option, Some, None, option_map}
use Rattle.claim_model.specs.Context.{Context}
use Rattle.claim_model.specs.Numbered.{numbered}
use Rattle.claim_model.specs.Node.{Node, Call, Outcome, Done, Refused}
use Rattle.claim_model.specs.World.{Packet, Event}
use Rattle.claim_model.specs.Settings.{WorldSettings, opening}
use Rattle.claim_model.specs.Nodes.{AnyNode, node_step, node_at, same_node, Asked, asked}
use Rattle.claim_model.specs.Logs.{Logged, replay, posted_by}

-- the process of a node, and its log
pub record Process : Type 0 where
  -- the node in memory; none where no process lives
  pub memory : Option AnyNode
  -- the calls whose records a sync has put on the disk
  pub synced : List Logged
  -- the calls that were made after them, whose records a crash may take
  pub unsynced : List Logged

-- the process of each node, and all packets that were said, in order
pub record Network : Type 0 where
  pub at : Node → Process
  pub wire : List Packet

-- what happens to one process
pub data Move : Type 0 where
  -- the call that an event asks for is made in memory, and its record is appended. What is taken is a packet that was said, any number of times
  Calling : Event → Move
  -- the first record that is not synced is synced
  Syncing : Node → Move
  -- a packet of the synced calls is said, now or again, by its number among these
  Saying : Node → (packet : ℕ) → Move
  -- the process dies, or its machine: of the records that are not synced the first this many are still there, and still not synced
  Crashing : Node → (left : ℕ) → Move
  -- a process reads the log as it lies, and replays it
  Restarting : Node → Move

-- the log of a process as it lies
abbrev pub file : Process → List Logged
file p = p.synced ++ p.unsynced

-- what a log makes of the node of a name; none where the settings have no such node
abbrev pub replayed : Context → WorldSettings → Node → List Logged → Option AnyNode
replayed ctx s node log = option_map (λ (before : AnyNode). replay ctx before log) (node_at (opening s) node)

-- the network with another process at a node
abbrev pub put : Network → Node → Process → Network
put n node p = record { at = λ (other : Node). cond (same_node node other) p (n.at other); wire = n.wire }

-- a call that the node refuses has no record
abbrev pub after_call : Process → Call → Outcome AnyNode → Process
after_call p call (Refused why) = p
after_call p call (Done next sent) = record { memory = Some next; synced = p.synced; unsynced = p.unsynced ++ record { call = call; sent = sent } ∷ [] }

-- a dead process makes no call
abbrev pub calls : Context → Process → Call → Option AnyNode → Process
calls ctx p call None = p
calls ctx p call (Some node) = after_call p call (node_step ctx node call)

abbrev pub calling : Context → Network → Option Asked → Network
calling ctx n None = n
calling ctx n (Some a) = put n a.node (calls ctx (n.at a.node) a.call (n.at a.node).memory)

abbrev pub one_synced : Process → List Logged → Process
one_synced p [] = p
one_synced p (l ∷ more) = record { memory = p.memory; synced = p.synced ++ l ∷ []; unsynced = more }

abbrev pub saying : Network → Option Packet → Network
saying n None = n
saying n (Some p) = record { at = n.at; wire = n.wire ++ p ∷ [] }

abbrev pub crashed : Process → ℕ → Process
crashed p left = record { memory = None; synced = p.synced; unsynced = take left p.unsynced }

abbrev pub restarted : Context → WorldSettings → Node → Process → Process
restarted ctx s node p = record { memory = replayed ctx s node (file p); synced = p.synced; unsynced = p.unsynced }

-- one move; a move that nobody can make changes nothing
unfoldable pub moved : Context → WorldSettings → Network → Move → Network
moved ctx s n (Calling event) = calling ctx n (asked n.wire event)
moved ctx s n (Syncing node) = put n node (one_synced (n.at node) (n.at node).unsynced)
moved ctx s n (Saying node packet) = saying n (numbered (posted_by node (n.at node).synced) packet)
moved ctx s n (Crashing node left) = put n node (crashed (n.at node) left)
moved ctx s n (Restarting node) = put n node (restarted ctx s node (n.at node))

-- no process lives yet, all disks are empty, nothing was said
abbrev pub beginning : Network
beginning = record { at = λ (node : Node). record { memory = None; synced = []; unsynced = [] }; wire = [] }

abbrev pub after : Context → WorldSettings → Network → List Move → Network
after ctx s n [] = n
after ctx s n (move ∷ moves) = after ctx s (moved ctx s n move) moves

-- the network that moves lead to, in any order, from the beginning
abbrev pub network : Context → WorldSettings → List Move → Network
network ctx s moves = after ctx s beginning moves
