-- A call is made by one node alone.
use Rattle.std.specs.Prelude.{◌≡◌, List, [], Some}
use Rattle.claim_model.specs.Context.{Context}
use Rattle.claim_model.specs.Refusal.{Refusal}
use Rattle.claim_model.specs.Node.{Node, Call, Sent, Done, Refused}
use Rattle.claim_model.specs.World.{World, Event, posted, on_node, step, run}
use Rattle.claim_model.specs.Nodes.{AnyNode, node_step, node_at, called, Asked, asked}
use Rattle.claim_model.specs.Logs.{log_in}

-- one world follows another by a call on a node: the node makes its own step, every other node is as it was, and what it sent is posted
pub record Follows (ctx : Context) (w v : World) (node : Node) (call : Call) (sent : List Sent) : Type 0 where
  pub before : AnyNode
  pub after : AnyNode
  pub was : node_at w node ≡ Some before
  pub steps : node_step ctx before call ≡ Done after sent
  pub is : node_at v node ≡ Some after
  pub others : (other : Node) → (other ≡ node → ⊥) → node_at v other ≡ node_at w other
  pub posts : v.packets ≡ posted w.packets node sent

-- what a call in a world comes to hangs on the node alone: it is accepted, with what is sent, or refused for its cause, as the node does
pub record IsLocal (ctx : Context) (w : World) (node : Node) (call : Call) : Type 0 where
  pub follows : (v : World) (sent : List Sent) → on_node ctx w node call ≡ Done v sent → Follows ctx w v node call sent
  pub accepted : (after : AnyNode) (sent : List Sent) → called ctx (node_at w node) call ≡ Done after sent → (v : World) × (on_node ctx w node call ≡ Done v sent)
  pub refused : (why : Refusal) → called ctx (node_at w node) call ≡ Refused why → on_node ctx w node call ≡ Refused why

-- an event is accepted in two worlds alike: the same node makes the same call with the same end, and sends the same
pub record ServesAlike (ctx : Context) (w v : World) (event other : Event) (a : Asked) : Type 0 where
  pub first : asked w.packets event ≡ Some a
  pub second : asked v.packets other ≡ Some a
  pub nodes : node_at w a.node ≡ node_at v a.node
  pub accepted : (u : World) (sent : List Sent) → step ctx w event ≡ Done u sent → (x : World) × (step ctx v other ≡ Done x sent) × (node_at x a.node ≡ node_at u a.node)

-- while a node makes no call, what events asked of it they go on to ask, and what it accepted it goes on to accept: no packet is used up
abbrev pub StaysEnabled : Context → World → Event → Asked → List Event → Type 0
StaysEnabled ctx w event a events = asked w.packets event ≡ Some a → log_in ctx w events a.node ≡ [] → ServesAlike ctx w (run ctx w events) event event a
