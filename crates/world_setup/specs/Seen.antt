-- Nodes, calls, packets, events and settings as the model sees them.
use Rattle.std.specs.Prelude.{ℕ, List, map}
use Rattle.std.specs.Borrow.{Bor}
use Rattle.claim_model.specs.Node as model
use Rattle.claim_model.specs.World as world
use Rattle.claim_model.specs.Settings as opened
use Rattle.claim_model.specs.Words.{SetPrice, SetTerms}
use Rattle.pharmacy_journal.specs.Ruling.{rule_in}
use Rattle.switch_node.specs.Settings.{nearest}
use Rattle.world_setup.specs.declared.node.Node.{Node}
use Rattle.world_setup.specs.declared.node.Node.TheVariants as node
use Rattle.world_setup.specs.declared.call.Call.{Call}
use Rattle.world_setup.specs.declared.call.Call.TheVariants as call
use Rattle.world_setup.specs.declared.call.Sent.{Sent}
use Rattle.world_setup.specs.declared.call.Packet.{Packet}
use Rattle.world_setup.specs.declared.event.Event.{Event}
use Rattle.world_setup.specs.declared.event.Event.TheVariants as event
use Rattle.world_setup.specs.declared.settings.PayerSettings.{PayerSettings}
use Rattle.world_setup.specs.declared.settings.WorldSettings.{WorldSettings}

-- a node by its kind and its number
abbrev pub node_seen : Node → model.Node
node_seen (node.Pharmacy number) = model.Pharmacy number
node_seen (node.Switch number) = model.Switch number
node_seen (node.Payer number) = model.Payer number

-- a call, each of its texts read as this list of bytes
abbrev pub call_as : {O : Type 0} → (O → List ℕ) → Call O → model.Call
call_as read (call.Submit text) = model.Submit (read text)
call_as read call.Tick = model.Tick
call_as read (call.Take from bytes) = model.Take (node_seen from) (read bytes)
call_as read call.Stop = model.Stop
call_as read call.Start = model.Start
call_as read (call.Plan product price) = model.Revise (model.OfPlan (SetPrice (read product) price))
call_as read (call.Terms fee copay) = model.Revise (model.OfPlan (SetTerms fee copay))
call_as read (call.Retry nodes again tries) = model.Revise (model.OfRule (rule_in (read nodes) again tries))
call_as read (call.Cap entries) = model.Revise (model.OfCap (nearest entries))
call_as read (call.Adjudicate from bytes advice) = model.Adjudicate (node_seen from) (read bytes) (read advice)

-- a call with texts of its own
abbrev pub call_seen : Call (List ℕ) → model.Call
call_seen c = call_as (λ text. text) c

-- a call with the texts of another
abbrev pub lent_seen : Call (Bor (List ℕ)) → model.Call
lent_seen c = call_as (λ text. text.now) c

-- what a node sends
abbrev pub sent_seen : Sent → model.Sent
sent_seen s = record { to = node_seen s.to; bytes = s.bytes }

-- a packet
abbrev pub packet_seen : Packet → world.Packet
packet_seen p = record { from = node_seen p.from; to = node_seen p.to; bytes = p.bytes }

-- an event, with its texts as lists of bytes
abbrev pub event_seen : Event → world.Event
event_seen (event.Submit pharmacy text) = world.Submission pharmacy text
event_seen (event.Tick pharmacy) = world.Ticking pharmacy
event_seen (event.Deliver packet) = world.Delivery packet
event_seen (event.Stop node) = world.Stopping (node_seen node)
event_seen (event.Start node) = world.Starting (node_seen node)
event_seen (event.Plan payer product price) = world.Revising (model.Payer payer) (model.OfPlan (SetPrice product price))
event_seen (event.Terms payer fee copay) = world.Revising (model.Payer payer) (model.OfPlan (SetTerms fee copay))
event_seen (event.Retry pharmacy nodes again tries) = world.Revising (model.Pharmacy pharmacy) (model.OfRule (rule_in nodes again tries))
event_seen (event.Cap switch entries) = world.Revising (model.Switch switch) (model.OfCap (nearest entries))
event_seen (event.Adjudicate packet advice) = world.Adjudication packet advice

-- what a payer is opened with
abbrev pub payer_seen : PayerSettings → opened.PayerSettings
payer_seen p = record { book = p.book; plan = p.plan }

-- what a world is opened with; the routes are not in it, since the model has them in the reading of bytes
abbrev pub settings_seen : WorldSettings → opened.WorldSettings
settings_seen s = record { pharmacies = s.pharmacies.items; switches = s.switches.items; payers = map payer_seen s.payers.items }
