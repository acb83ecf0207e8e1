-- A call on one node of a list whose nodes are numbered from 1.
use Rattle.std.specs.Prelude.{◌≡◌, ℕ, List, map, Option, Some, None, Result, IfOk}
use Rattle.std.specs.Global.{Vec}
use Rattle.bin_routes.specs.Table.{RouteMaps}
use Rattle.claim_model.specs.Bytes.{bytes_with}
use Rattle.claim_model.specs.declared.refusal.Fault.{Fault}
use Rattle.claim_model.specs.declared.refusal.Refusal.TheVariants.{NoSuchNode}
use Rattle.claim_model.specs.Numbered.{numbered, renumbered}
use Rattle.claim_model.specs.Node.{Node, Pharmacy, Switch, Payer, Call, Outcome, Done, Refused, pharmacy_step, switch_step, payer_step}
use Rattle.claim_model.specs.World.{Packet, on_node, posted}
use Rattle.world_setup.specs.declared.call.Sent.{Sent}
use Rattle.world_setup.specs.Seen.{sent_seen}
use Rattle.node_state.specs.Outcomes.{Refuses}
use Rattle.node_state.specs.Taking.{IsReadable}
use Rattle.world_core.specs.NodeLists.{NodeLists, world_of}

abbrev pub list_after : {A : Type 0} → List A → ℕ → Outcome A → Outcome (List A)
list_after nodes n (Refused why) = Refused why
list_after nodes n (Done next sent) = Done (renumbered nodes n next) sent

abbrev pub called_at : {A : Type 0} → (A → Outcome A) → List A → ℕ → Option A → Outcome (List A)
called_at call nodes n None = Refused NoSuchNode
called_at call nodes n (Some node) = list_after nodes n (call node)

-- the nodes after a call on the one of a number, and what it sent
unfoldable pub called : {A : Type 0} → (A → Outcome A) → List A → ℕ → Outcome (List A)
called call nodes n = called_at call nodes n (numbered nodes n)

-- a packet that a node takes is not refused as unreadable
abbrev pub IsReadableAt : RouteMaps → NodeLists → Node → Call → Type 0
IsReadableAt routes nodes (Pharmacy n) call = IsReadable call (called (λ node. pharmacy_step (bytes_with routes) node call) nodes.pharmacies n)
IsReadableAt routes nodes (Switch n) call = IsReadable call (called (λ node. switch_step (bytes_with routes) node call) nodes.switches n)
IsReadableAt routes nodes (Payer n) call = IsReadable call (called (λ node. payer_step (bytes_with routes) node call) nodes.payers n)

-- a call on a node that is made leaves the world that the model's call leaves, whatever packets it has, and sends what that sends
abbrev pub NodeMakes : RouteMaps → NodeLists → Node → Call → NodeLists → Result (Vec Sent) Fault → Type 0
NodeMakes routes old node call new result =
    (packets : List Packet) → IfOk result (λ sent. on_node (bytes_with routes) (world_of old packets) node call ≡
    Done (world_of new (posted packets node (map sent_seen sent.items))) (map sent_seen sent.items))

-- it is refused for the cause for which the model's call is refused; want of memory says nothing of it
abbrev pub NodeRefuses : RouteMaps → NodeLists → Node → Call → Result (Vec Sent) Fault → Type 0
NodeRefuses routes lists node call result = (packets : List Packet) → Refuses (on_node (bytes_with routes) (world_of lists packets) node call) result
