-- A node of any kind, and the call that an event is.
use Rattle.std.specs.Prelude.{ℕ, Bool, false, ◌==◌, List, Option, Some, None, option_map}
use Rattle.claim_model.specs.Context.{Context}
use Rattle.claim_model.specs.Refusal.{NoSuchNode, NoSuchPacket}
use Rattle.claim_model.specs.Numbered.{numbered}
use Rattle.claim_model.specs.Journal.{Journal, JournalAtRest}
use Rattle.claim_model.specs.Table.{Table}
use Rattle.claim_model.specs.Rows.{Book}
use Rattle.claim_model.specs.Node.{Node, Pharmacy, Switch, Payer, Call, Submit, Tick, Take, Stop, Start, Revise, Adjudicate, Power, Outcome, Done, Refused, pharmacy_step, switch_step, payer_step}
use Rattle.claim_model.specs.World.{World, Packet, Event, Submission, Ticking, Delivery, Stopping, Starting, Revising, Adjudication, on_node}

-- a pharmacy, a switch or a payer, up or at rest
pub data AnyNode : Type 0 where
  OfPharmacy : Power Journal JournalAtRest → AnyNode
  OfSwitch : Power Table ℕ → AnyNode
  OfPayer : Power Book Book → AnyNode

-- what a call on a node of one kind comes to, as of a node
abbrev pub as_node : {A : Type 0} → (A → AnyNode) → Outcome A → Outcome AnyNode
as_node kind (Done next sent) = Done (kind next) sent
as_node kind (Refused why) = Refused why

-- a call on a node
abbrev pub node_step : Context → AnyNode → Call → Outcome AnyNode
node_step ctx (OfPharmacy node) call = as_node OfPharmacy (pharmacy_step ctx node call)
node_step ctx (OfSwitch node) call = as_node OfSwitch (switch_step ctx node call)
node_step ctx (OfPayer node) call = as_node OfPayer (payer_step ctx node call)

-- the node of a name
abbrev pub node_at : World → Node → Option AnyNode
node_at w (Pharmacy n) = option_map OfPharmacy (numbered w.pharmacies n)
node_at w (Switch n) = option_map OfSwitch (numbered w.switches n)
node_at w (Payer n) = option_map OfPayer (numbered w.payers n)

-- a call on the node that is there, if there is one
abbrev pub called : Context → Option AnyNode → Call → Outcome AnyNode
called ctx None call = Refused NoSuchNode
called ctx (Some node) call = node_step ctx node call

-- the two names are one node's
abbrev pub same_node : Node → Node → Bool
same_node (Pharmacy a) (Pharmacy b) = a == b
same_node (Pharmacy a) (Switch b) = false
same_node (Pharmacy a) (Payer b) = false
same_node (Switch a) (Pharmacy b) = false
same_node (Switch a) (Switch b) = a == b
same_node (Switch a) (Payer b) = false
same_node (Payer a) (Pharmacy b) = false
same_node (Payer a) (Switch b) = false
same_node (Payer a) (Payer b) = a == b

-- a call on the node of a name
pub record Asked : Type 0 where
  pub node : Node
  pub call : Call

abbrev pub taking : Packet → Asked
taking p = record { node = p.to; call = Take p.from p.bytes }

abbrev pub adjudicating : List ℕ → Packet → Asked
adjudicating advice p = record { node = p.to; call = Adjudicate p.from p.bytes advice }

-- the call that an event is where these packets were sent; none where it delivers a packet that was never sent
abbrev pub asked : List Packet → Event → Option Asked
asked packets (Submission n text) = Some (record { node = Pharmacy n; call = Submit text })
asked packets (Ticking n) = Some (record { node = Pharmacy n; call = Tick })
asked packets (Delivery k) = option_map taking (numbered packets k)
asked packets (Stopping node) = Some (record { node = node; call = Stop })
asked packets (Starting node) = Some (record { node = node; call = Start })
asked packets (Revising node revision) = Some (record { node = node; call = Revise revision })
asked packets (Adjudication k advice) = option_map (adjudicating advice) (numbered packets k)

-- that call, in a world
abbrev pub asked_step : Context → World → Option Asked → Outcome World
asked_step ctx w None = Refused NoSuchPacket
asked_step ctx w (Some a) = on_node ctx w a.node a.call
