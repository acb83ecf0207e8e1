-- What one node did: its accepted calls, each with what it sent.
use Rattle.std.specs.Prelude.{◌≡◌, ⊤, List, [], ◌∷◌, ◌++◌, map, flat_map, cond, Option, Some, None, Bool}
use Rattle.claim_model.specs.Context.{Context}
use Rattle.claim_model.specs.Node.{Node, Call, Sent, Outcome, Done, Refused}
use Rattle.claim_model.specs.World.{World, Packet, Event, packet_from, step, world_after}
use Rattle.claim_model.specs.Nodes.{AnyNode, node_step, same_node, Asked, asked}

-- an accepted call, and what the node sent then
pub record Logged : Type 0 where
  pub call : Call
  pub sent : List Sent

-- a node and its log
pub record NodeLog : Type 0 where
  pub node : Node
  pub calls : List Logged

-- what an event adds to the log of a node: nothing where it is refused, or is another node's call
abbrev pub logged_if : Node → Asked → Outcome World → List Logged
logged_if node a (Refused why) = []
logged_if node a (Done next sent) = cond (same_node a.node node) (record { call = a.call; sent = sent } ∷ []) []

abbrev pub logged_by : Node → Option Asked → Outcome World → List Logged
logged_by node None outcome = []
logged_by node (Some a) outcome = logged_if node a outcome

-- the log of a node in a run: its accepted calls, in order, each with what it sent
abbrev pub log_in : Context → World → List Event → Node → List Logged
log_in ctx w [] node = []
log_in ctx w (event ∷ events) node = logged_by node (asked w.packets event) (step ctx w event) ++ log_in ctx (world_after w (step ctx w event)) events node

-- the node after a call: as it was where it refuses
abbrev pub node_after : AnyNode → Outcome AnyNode → AnyNode
node_after node (Done next sent) = next
node_after node (Refused why) = node

-- the node after the calls of a log
abbrev pub replay : Context → AnyNode → List Logged → AnyNode
replay ctx node [] = node
replay ctx node (l ∷ log) = replay ctx (node_after node (node_step ctx node l.call)) log

-- the node makes the log when it is replayed: it accepts each call, and sends then what the log says
abbrev pub Makes : Context → AnyNode → List Logged → Type 0
Makes ctx node [] = ⊤
Makes ctx node (l ∷ log) =
    (node_step ctx node l.call ≡ Done (node_after node (node_step ctx node l.call)) l.sent) × Makes ctx (node_after node (node_step ctx node l.call)) log

-- the packets of a log, which its node sent in this order
abbrev pub posted_by : Node → List Logged → List Packet
posted_by node log = map (packet_from node) (flat_map (λ l. l.sent) log)

-- the packet is this node's
abbrev pub is_from : Node → Packet → Bool
is_from node p = same_node p.from node
