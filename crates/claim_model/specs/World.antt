-- The world of all nodes: every journal, table and book, and every packet that was ever sent.
use Rattle.std.specs.Prelude.{ℕ, List, [], ◌∷◌, ◌++◌, map, Option, Some, None}
use Rattle.claim_model.specs.Context.{Context}
use Rattle.claim_model.specs.Refusal.{NoSuchNode, NoSuchPacket}
use Rattle.claim_model.specs.Rows.{Book}
use Rattle.claim_model.specs.Numbered.{numbered, renumbered}
use Rattle.claim_model.specs.Journal.{Journal, JournalAtRest}
use Rattle.claim_model.specs.Table.{Table}
use Rattle.claim_model.specs.Node.{Node, Pharmacy, Switch, Payer, Sent, Call, Submit, Tick, Take, Stop, Start, Revise, Revision, Adjudicate, Power, Outcome, Done, Refused, pharmacy_step, switch_step, payer_step}

-- a packet, with its sender and its addressee
pub record Packet : Type 0 where
  pub from : Node
  pub to : Node
  pub bytes : List ℕ

-- the nodes of each kind and the packets are numbered from 1; a packet is never used up
pub record World : Type 0 where
  pub pharmacies : List (Power Journal JournalAtRest)
  pub switches : List (Power Table ℕ)
  pub payers : List (Power Book Book)
  pub packets : List Packet

-- an event is one call on one node. Losing a packet is never delivering it, repeating it is delivering it twice. An adjudication delivers a
-- packet with an advice
pub data Event : Type 0 where
  Submission : (pharmacy : ℕ) → (text : List ℕ) → Event
  Ticking : (pharmacy : ℕ) → Event
  Delivery : (packet : ℕ) → Event
  Stopping : Node → Event
  Starting : Node → Event
  Revising : Node → Revision → Event
  Adjudication : (packet : ℕ) → (advice : List ℕ) → Event

abbrev pub packet_from : Node → Sent → Packet
packet_from node s = record { from = node; to = s.to; bytes = s.bytes }

abbrev pub posted : List Packet → Node → List Sent → List Packet
posted packets node sent = packets ++ map (packet_from node) sent

abbrev pub pharmacy_stepped : World → ℕ → Outcome (Power Journal JournalAtRest) → Outcome World
pharmacy_stepped w n (Refused why) = Refused why
pharmacy_stepped w n (Done next sent) =
    Done (record { pharmacies = renumbered w.pharmacies n next; switches = w.switches; payers = w.payers; packets = posted w.packets (Pharmacy n) sent }) sent

abbrev pub on_pharmacy : Context → World → ℕ → Call → Option (Power Journal JournalAtRest) → Outcome World
on_pharmacy ctx w n call None = Refused NoSuchNode
on_pharmacy ctx w n call (Some node) = pharmacy_stepped w n (pharmacy_step ctx node call)

abbrev pub switch_stepped : World → ℕ → Outcome (Power Table ℕ) → Outcome World
switch_stepped w n (Refused why) = Refused why
switch_stepped w n (Done next sent) =
    Done (record { pharmacies = w.pharmacies; switches = renumbered w.switches n next; payers = w.payers; packets = posted w.packets (Switch n) sent }) sent

abbrev pub on_switch : Context → World → ℕ → Call → Option (Power Table ℕ) → Outcome World
on_switch ctx w n call None = Refused NoSuchNode
on_switch ctx w n call (Some node) = switch_stepped w n (switch_step ctx node call)

abbrev pub payer_stepped : World → ℕ → Outcome (Power Book Book) → Outcome World
payer_stepped w n (Refused why) = Refused why
payer_stepped w n (Done next sent) =
    Done (record { pharmacies = w.pharmacies; switches = w.switches; payers = renumbered w.payers n next; packets = posted w.packets (Payer n) sent }) sent

abbrev pub on_payer : Context → World → ℕ → Call → Option (Power Book Book) → Outcome World
on_payer ctx w n call None = Refused NoSuchNode
on_payer ctx w n call (Some node) = payer_stepped w n (payer_step ctx node call)

-- one call on the node of a name
abbrev pub on_node : Context → World → Node → Call → Outcome World
on_node ctx w (Pharmacy n) call = on_pharmacy ctx w n call (numbered w.pharmacies n)
on_node ctx w (Switch n) call = on_switch ctx w n call (numbered w.switches n)
on_node ctx w (Payer n) call = on_payer ctx w n call (numbered w.payers n)

abbrev pub delivered : Context → World → Option Packet → Outcome World
delivered ctx w None = Refused NoSuchPacket
delivered ctx w (Some p) = on_node ctx w p.to (Take p.from p.bytes)

abbrev pub adjudicated : Context → World → List ℕ → Option Packet → Outcome World
adjudicated ctx w advice None = Refused NoSuchPacket
adjudicated ctx w advice (Some p) = on_node ctx w p.to (Adjudicate p.from p.bytes advice)

-- one event: the one node makes its step and what it sends is posted; a refused event changes nothing
unfoldable pub step : Context → World → Event → Outcome World
step ctx w (Submission n text) = on_node ctx w (Pharmacy n) (Submit text)
step ctx w (Ticking n) = on_node ctx w (Pharmacy n) Tick
step ctx w (Delivery k) = delivered ctx w (numbered w.packets k)
step ctx w (Stopping node) = on_node ctx w node Stop
step ctx w (Starting node) = on_node ctx w node Start
step ctx w (Revising node revision) = on_node ctx w node (Revise revision)
step ctx w (Adjudication k advice) = adjudicated ctx w advice (numbered w.packets k)

abbrev pub world_after : World → Outcome World → World
world_after w (Done next sent) = next
world_after w (Refused why) = w

-- a list of events, refused ones included
abbrev pub run : Context → World → List Event → World
run ctx w [] = w
run ctx w (event ∷ events) = run ctx (world_after w (step ctx w event)) events
