-- What an event comes to is what the call that it asks for comes to.
use Rattle.std.proofs.Common.{◌≡◌, ℕ, Bool, List, Option, Some, None, refl, sym, ap, ◌∙◌, inl, inr}
use Rattle.std.specs.Prelude.{◌≢◌, option_map}
use Rattle.bin_routes.specs.Table.{RouteMaps}
use Rattle.claim_model.specs.Context.{Context}
use Rattle.claim_model.specs.declared.refusal.Refusal.TheVariants.{NoSuchPacket, Unreadable, NotAdvised}
use Rattle.claim_model.specs.Node.{Node, Pharmacy, Switch, Payer, Call, Submit, Tick, Take, Stop, Start, Revise, Adjudicate, Refused}
use Rattle.claim_model.specs.World.{World, Packet, Event, Submission, Ticking, Delivery, Stopping, Starting, Revising, Adjudication, on_node, step}
use Rattle.claim_model.specs.Nodes.{Asked, adjudicating, asked, asked_step}
use Rattle.claim_model.specs.Bytes.{bytes_with}
use Rattle.claim_model.specs.Promises.{is_asking, MayMeetAt, DeliveriesMeet}
use Rattle.claim_model.specs.Numbered.{numbered}
use Rattle.claim_model.proofs.Steps.{step_asked}
use Rattle.world_core.specs.NodeLists.{NodeLists, world_of}
use Rattle.world_core.specs.Calling.{IsReadableAt}
use Rattle.world_core.proofs.Asking.{pharmacy_refused, switch_refused, payer_refused}

abbrev asking : Node → Call → Asked
asking node call = record { node = node; call = call }

pub asks : (ctx : Context) (w : World) (event : Event) (a : Asked) → Some a ≡ asked w.packets event → step ctx w event ≡ on_node ctx w a.node a.call
asks ctx w event a e = step_asked ctx w event ∙ ap (asked_step ctx w) (sym e)

pub asks_nobody : (ctx : Context) (w : World) (event : Event) → None ≡ asked w.packets event → step ctx w event ≡ Refused NoSuchPacket
asks_nobody ctx w event e = step_asked ctx w event ∙ ap (asked_step ctx w) (sym e)

abbrev call_in : Option Asked → Call
call_in None = Tick
call_in (Some a) = a.call

-- no delivery meets this
no_unreadable : (asks : Bool) → MayMeetAt asks Unreadable → ⊥
no_unreadable asks (inl h) = h
no_unreadable asks (inr h) = let f : Unreadable ≡ NotAdvised = h.1 in cc

-- an adjudication takes a packet with an advice, and none alone
takes_alone : (ctx : Context) (w : World) (k : ℕ) (advice : List ℕ) (node from : Node) (bytes : List ℕ) (o : Option Packet) → Some (asking node (Take from bytes)) ≡ option_map (adjudicating advice) o → on_node ctx w node (Take from bytes) ≢ Refused Unreadable
takes_alone ctx w k advice node from bytes None e = absurd cc
takes_alone ctx w k advice node from bytes (Some p) e = let f : Take from bytes ≡ Adjudicate p.from p.bytes advice = ap call_in e in absurd cc

-- a packet that an event delivers is not refused as unreadable
readable_packet : (ctx : Context) (w : World) (event : Event) (node from : Node) (bytes : List ℕ) → DeliveriesMeet ctx w → Some (asking node (Take from bytes)) ≡ asked w.packets event → on_node ctx w node (Take from bytes) ≢ Refused Unreadable
readable_packet ctx w (Submission n text) node from bytes meet e = let f : Take from bytes ≡ Submit text = ap call_in e in absurd cc
readable_packet ctx w (Ticking n) node from bytes meet e = let f : Take from bytes ≡ Tick = ap call_in e in absurd cc
readable_packet ctx w (Delivery k) node from bytes meet e = λ unreadable. no_unreadable (is_asking w (numbered w.packets k)) (meet k Unreadable (asks ctx w (Delivery k) (asking node (Take from bytes)) e ∙ unreadable))
readable_packet ctx w (Stopping other) node from bytes meet e = let f : Take from bytes ≡ Stop = ap call_in e in absurd cc
readable_packet ctx w (Starting other) node from bytes meet e = let f : Take from bytes ≡ Start = ap call_in e in absurd cc
readable_packet ctx w (Revising n change) node from bytes meet e = let f : Take from bytes ≡ Revise change = ap call_in e in absurd cc
readable_packet ctx w (Adjudication k advice) node from bytes meet e = takes_alone ctx w k advice node from bytes (numbered w.packets k) e

readable_at : (routes : RouteMaps) (nodes : NodeLists) (packets : List Packet) (node from : Node) (bytes : List ℕ) → on_node (bytes_with routes) (world_of nodes packets) node (Take from bytes) ≢ Refused Unreadable → IsReadableAt routes nodes node (Take from bytes)
readable_at routes nodes packets (Pharmacy n) from bytes h = λ unreadable. h (pharmacy_refused (bytes_with routes) (world_of nodes packets) n (Take from bytes) (Some Unreadable) unreadable)
readable_at routes nodes packets (Switch n) from bytes h = λ unreadable. h (switch_refused (bytes_with routes) (world_of nodes packets) n (Take from bytes) (Some Unreadable) unreadable)
readable_at routes nodes packets (Payer n) from bytes h = λ unreadable. h (payer_refused (bytes_with routes) (world_of nodes packets) n (Take from bytes) (Some Unreadable) unreadable)

-- of a call that takes no packet this says nothing
by_call : (routes : RouteMaps) (nodes : NodeLists) (node : Node) (call : Call) → ((from : Node) (bytes : List ℕ) → call ≡ Take from bytes → IsReadableAt routes nodes node (Take from bytes)) → IsReadableAt routes nodes node call
by_call routes nodes (Pharmacy n) (Submit text) h = tt
by_call routes nodes (Pharmacy n) Tick h = tt
by_call routes nodes (Pharmacy n) (Take from bytes) h = h from bytes refl
by_call routes nodes (Pharmacy n) Stop h = tt
by_call routes nodes (Pharmacy n) Start h = tt
by_call routes nodes (Pharmacy n) (Revise change) h = tt
by_call routes nodes (Pharmacy n) (Adjudicate from bytes advice) h = tt
by_call routes nodes (Switch n) (Submit text) h = tt
by_call routes nodes (Switch n) Tick h = tt
by_call routes nodes (Switch n) (Take from bytes) h = h from bytes refl
by_call routes nodes (Switch n) Stop h = tt
by_call routes nodes (Switch n) Start h = tt
by_call routes nodes (Switch n) (Revise change) h = tt
by_call routes nodes (Switch n) (Adjudicate from bytes advice) h = tt
by_call routes nodes (Payer n) (Submit text) h = tt
by_call routes nodes (Payer n) Tick h = tt
by_call routes nodes (Payer n) (Take from bytes) h = h from bytes refl
by_call routes nodes (Payer n) Stop h = tt
by_call routes nodes (Payer n) Start h = tt
by_call routes nodes (Payer n) (Revise change) h = tt
by_call routes nodes (Payer n) (Adjudicate from bytes advice) h = tt

-- the call that an event asks for, where deliveries meet few refusals
pub asks_readable : (routes : RouteMaps) (nodes : NodeLists) (packets : List Packet) (event : Event) (node : Node) (call : Call) → DeliveriesMeet (bytes_with routes) (world_of nodes packets) → Some (asking node call) ≡ asked packets event → IsReadableAt routes nodes node call
asks_readable routes nodes packets event node call meet e =
    by_call routes nodes node call (λ from bytes is.
    readable_at routes nodes packets node from bytes
    (readable_packet (bytes_with routes) (world_of nodes packets) event node from bytes meet (ap (λ (c : Call). Some (asking node c)) (sym is) ∙ e)))
