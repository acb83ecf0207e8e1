-- What a switch makes of an envelope, beside the rules of its table.
use Rattle.std.specs.Prelude.{◌≡◌, ◌≢◌, ℕ, Bool, true, List, Option, Result, Ok, Err, IsSome, IfOk, IfErr, if◌then◌else◌}
use Rattle.envelope.specs.Envelope.{Opened}
use Rattle.bin_routes.specs.Table.{RouteMaps}
use Rattle.claim_model.specs.Words.{RequestHeader}
use Rattle.claim_profile.specs.Readable.{readable_header}
use Rattle.claim_model.specs.declared.refusal.Refusal.{Refusal}
use Rattle.claim_model.specs.declared.refusal.Fault.{Fault}
use Rattle.claim_model.specs.declared.refusal.Refusal.TheVariants.{Unreadable}
use Rattle.claim_model.specs.Refusal.{refusal_of, IsRefused}
use Rattle.claim_model.specs.Readable.{is_request}
use Rattle.claim_model.specs.Bytes.{bytes_with}
use Rattle.claim_model.specs.Table.{Table, Slot, Responded, slot_of, filled, requested, requested_by, responded, responded_by}
use Rattle.switch_node.specs.declared.routing.Routed.{Routed}
use Rattle.switch_node.specs.Sent.{content, routed_as}

-- a request goes where the rule sends it, and leaves the table that the rule leaves
abbrev pub SendsRequest : RouteMaps → Table → Opened → Table → Result Routed Fault → Type 0
SendsRequest routes old envelope new result = IfOk result (λ routed. requested (bytes_with routes) old (content envelope) ≡ Ok (record { table = new; routed = routed_as routed }))

-- it is refused for the cause for which the rule refuses it; want of memory says nothing of it
abbrev pub RefusesRequest : {A : Type 0} → RouteMaps → Table → Opened → Result A Fault → Type 0
RefusesRequest routes table envelope result = IfErr result (λ fault. IsRefused (refusal_of fault) (requested (bytes_with routes) table (content envelope)))

-- a response goes on as the rule says, whatever the routes are, and leaves the table that the rule leaves
abbrev pub SendsResponse : Table → Opened → Table → Result (List ℕ) Fault → Type 0
SendsResponse old envelope new result = IfOk result (λ packet. (routes : RouteMaps) → responded (bytes_with routes) old (content envelope) ≡ Ok (record { table = new; bytes = packet }))

abbrev pub RefusesResponse : {A : Type 0} → Table → Opened → Result A Fault → Type 0
RefusesResponse table envelope result = IfErr result (λ fault. (routes : RouteMaps) → IsRefused (refusal_of fault) (responded (bytes_with routes) table (content envelope)))

-- the rule refuses a request for another cause than that it is unreadable, or not at all
abbrev pub IsReadableRequest : RouteMaps → Table → Opened → Type 0
IsReadableRequest routes table envelope = requested (bytes_with routes) table (content envelope) ≢ Err Unreadable

-- a response likewise, whatever the routes are
abbrev pub IsReadableResponse : Table → Opened → Type 0
IsReadableResponse table envelope = (routes : RouteMaps) → responded (bytes_with routes) table (content envelope) ≢ Err Unreadable

-- an envelope has a readable request
abbrev pub HasRequest : Opened → Type 0
HasRequest envelope = (is_request (content envelope) ≡ true) × IsSome (readable_header envelope.payload)

-- a request has this header: what becomes of it hangs on what the table has of its id
abbrev pub HasHeader : Opened → RequestHeader → Type 0
HasHeader envelope h = (routes : RouteMaps) (t : Table)
    → requested (bytes_with routes) t (content envelope) ≡ requested_by (bytes_with routes) t (content envelope) h (slot_of envelope.id t.entries)

-- it is none, and refused for this cause whatever the table has
abbrev pub IsNoRequest : Opened → Fault → Type 0
IsNoRequest envelope fault = (routes : RouteMaps) (t : Table) → IsRefused (refusal_of fault) (requested (bytes_with routes) t (content envelope))

-- a request of this header, where the table has this of its id, goes on so and leaves this table
abbrev pub GoesOn : RouteMaps → Opened → RequestHeader → Option Slot → Table → Table → Routed → Type 0
GoesOn routes envelope h slot old new routed =
    requested_by (bytes_with routes) old (content envelope) h slot ≡ Ok (record { table = new; routed = routed_as routed })

-- what becomes of an answer, by what the table has of its id
abbrev pub responded_at : RouteMaps → Table → Opened → Result Responded Refusal
responded_at routes t envelope = responded_by (bytes_with routes) t (content envelope) (slot_of envelope.id t.entries)

-- an envelope has an answer, or it has none, and is refused for this cause whatever the table has
abbrev pub HasAnswer : Opened → Type 0
HasAnswer envelope = (routes : RouteMaps) (t : Table) → responded (bytes_with routes) t (content envelope) ≡ responded_at routes t envelope

abbrev pub IsNoAnswer : Opened → Fault → Type 0
IsNoAnswer envelope fault = (routes : RouteMaps) (t : Table) → IsRefused (refusal_of fault) (responded (bytes_with routes) t (content envelope))

-- an answer goes on, and is kept where it is the first
abbrev pub KeepsFirst : Table → Opened → Bool → Type 0
KeepsFirst t envelope is_first = (routes : RouteMaps)
    → responded_at routes t envelope
    ≡ Ok (record { table = if is_first then filled t envelope.id envelope.payload else t; bytes = (bytes_with routes).envelope (content envelope) })
