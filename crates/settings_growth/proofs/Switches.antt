-- A switch makes each call that it made where what it rejected for want of a route has none now.
use Rattle.std.proofs.Common.{◌≡◌, ℕ, Bool, true, false, cond, List, Option, Some, None, Result, Ok, Err, refl, ap}
use Rattle.claim_model.specs.Words.{RequestHeader, RouteKey, Envelope, EnvelopeFault}
use Rattle.claim_model.specs.Context.{Context}
use Rattle.claim_model.specs.Readable.{readable, route_key, payer_for, is_request}
use Rattle.claim_model.specs.declared.refusal.Refusal.{Refusal}
use Rattle.claim_model.specs.Table.{Table, Slot, slot_of, routed_by, requested_again, entered_where, requested_by, requested_readable, requested, responded}
use Rattle.claim_model.specs.Node.{Power, Up, AtRest, Call, Submit, Tick, Take, Stop, Start, Revise, Adjudicate, after_request, after_response, switch_takes, switch_step}
use Rattle.settings_growth.specs.Growth.{RejectionStays, RouteLasts}
use Rattle.settings_growth.proofs.Rerouted.{rerouted}

-- what is routed as before is entered and sent as before

abbrev pub Widening : Context → (ℕ → RouteKey → Option ℕ) → Type 0
Widening ctx route = (number : ℕ) (key : RouteKey) (payer : ℕ) → ctx.route number key ≡ Some payer → route number key ≡ Some payer

-- so each request has the route that it had
pub lasts : (ctx : Context) (route : ℕ → RouteKey → Option ℕ) (count : ℕ) (call : Call) → Widening ctx route → RouteLasts ctx (rerouted ctx route count) call
lasts ctx route count (Take from bytes) wide = λ e h payer opened is reads. wide e.id.number (route_key h) payer
lasts ctx route count (Submit text) wide = tt
lasts ctx route count Tick wide = tt
lasts ctx route count Stop wide = tt
lasts ctx route count Start wide = tt
lasts ctx route count (Revise change) wide = tt
lasts ctx route count (Adjudicate from bytes advice) wide = λ e h payer opened is reads. wide e.id.number (route_key h) payer

pub same_payer : (ctx : Context) (route : ℕ → RouteKey → Option ℕ) (count : ℕ) (e : Envelope) (h : RequestHeader) (o : Option ℕ) → ((payer : ℕ) → payer_for ctx e.id h ≡ Some payer → route e.id.number (route_key h) ≡ Some payer) → (payer_for ctx e.id h ≡ None → route e.id.number (route_key h) ≡ None) → payer_for ctx e.id h ≡ o → route e.id.number (route_key h) ≡ o
same_payer ctx route count e h None wide stays is = stays is
same_payer ctx route count e h (Some payer) wide stays is = wide payer is

again_alike : (ctx : Context) (route : ℕ → RouteKey → Option ℕ) (count : ℕ) (t : Table) (e : Envelope) (h : RequestHeader) (o : Option (List ℕ)) → route e.id.number (route_key h) ≡ payer_for ctx e.id h
    → requested_again (rerouted ctx route count) t e h o ≡ requested_again ctx t e h o
again_alike ctx route count t e h (Some answer) same = refl
again_alike ctx route count t e h None same = ap (λ (o : Option ℕ). record { table = t; routed = routed_by ctx e h o }) same

by_slot : (ctx : Context) (route : ℕ → RouteKey → Option ℕ) (count : ℕ) (t : Table) (e : Envelope) (h : RequestHeader) (o : Option Slot) → route e.id.number (route_key h) ≡ payer_for ctx e.id h
    → requested_by (rerouted ctx route count) t e h o ≡ requested_by ctx t e h o
by_slot ctx route count t e h (Some slot) same =
    ap (λ (r : Rattle.claim_model.specs.Table.Requested). cond (Rattle.std.specs.Prelude.bytes_eq slot.request e.payload) (Ok r) (Err Refusal.NumberReused)) (again_alike ctx route count t e h slot.answer same)
by_slot ctx route count t e h None same = ap (λ (o : Option ℕ). Ok (record { table = entered_where t e o; routed = routed_by ctx e h o })) same

by_header : (ctx : Context) (route : ℕ → RouteKey → Option ℕ) (count : ℕ) (t : Table) (e : Envelope) (o : Option RequestHeader)
    → ((h : RequestHeader) (payer : ℕ) → o ≡ Some h → payer_for ctx e.id h ≡ Some payer → route e.id.number (route_key h) ≡ Some payer)
    → ((h : RequestHeader) → o ≡ Some h → payer_for ctx e.id h ≡ None → route e.id.number (route_key h) ≡ None) → requested_readable (rerouted ctx route count) t e o ≡ requested_readable ctx t e o
by_header ctx route count t e None wide stays = refl
by_header ctx route count t e (Some h) wide stays = by_slot ctx route count t e h (slot_of e.id t.entries) (same_payer ctx route count e h (payer_for ctx e.id h) (λ payer. wide h payer refl) (stays h refl) refl)

by_kind : (ctx : Context) (route : ℕ → RouteKey → Option ℕ) (count : ℕ) (t : Table) (e : Envelope) (is : Bool)
    → ((h : RequestHeader) (payer : ℕ) → is ≡ true → readable ctx e.payload ≡ Some h → payer_for ctx e.id h ≡ Some payer → route e.id.number (route_key h) ≡ Some payer)
    → ((h : RequestHeader) → is ≡ true → readable ctx e.payload ≡ Some h → payer_for ctx e.id h ≡ None → route e.id.number (route_key h) ≡ None)
    → cond is (after_request e.id (cond is (requested_readable (rerouted ctx route count) t e (readable ctx e.payload)) (Err Refusal.Unreadable))) (after_response e.id (responded ctx t e))
    ≡ cond is (after_request e.id (cond is (requested_readable ctx t e (readable ctx e.payload)) (Err Refusal.Unreadable))) (after_response e.id (responded ctx t e))
by_kind ctx route count t e true wide stays = ap (after_request e.id) (by_header ctx route count t e (readable ctx e.payload) (λ h payer. wide h payer refl) (λ h. stays h refl))
by_kind ctx route count t e false wide stays = refl

takes : (ctx : Context) (route : ℕ → RouteKey → Option ℕ) (count : ℕ) (t : Table) (o : Result Envelope EnvelopeFault)
    → ((e : Envelope) (h : RequestHeader) (payer : ℕ) → o ≡ Ok e → is_request e ≡ true → readable ctx e.payload ≡ Some h → payer_for ctx e.id h ≡ Some payer → route e.id.number (route_key h) ≡ Some payer)
    → ((e : Envelope) (h : RequestHeader) → o ≡ Ok e → is_request e ≡ true → readable ctx e.payload ≡ Some h → payer_for ctx e.id h ≡ None → route e.id.number (route_key h) ≡ None)
    → switch_takes (rerouted ctx route count) t o ≡ switch_takes ctx t o
unfolding requested responded readable
takes ctx route count t (Err why) wide stays = refl
takes ctx route count t (Ok e) wide stays = by_kind ctx route count t e (is_request e) (λ h payer. wide e h payer refl) (λ h. stays e h refl)

pub switch_over : (ctx : Context) (route : ℕ → RouteKey → Option ℕ) (count : ℕ) (node : Power Table ℕ) (call : Call) → RouteLasts ctx (rerouted ctx route count) call → RejectionStays ctx (rerouted ctx route count) call
    → switch_step (rerouted ctx route count) node call ≡ switch_step ctx node call
switch_over ctx route count (AtRest cap) call wide stays = refl
switch_over ctx route count (Up t) (Submit text) wide stays = refl
switch_over ctx route count (Up t) Tick wide stays = refl
switch_over ctx route count (Up t) (Take from bytes) wide stays = takes ctx route count t (ctx.read_envelope bytes) wide stays
switch_over ctx route count (Up t) Stop wide stays = refl
switch_over ctx route count (Up t) Start wide stays = refl
switch_over ctx route count (Up t) (Revise change) wide stays = refl
switch_over ctx route count (Up t) (Adjudicate from bytes advice) wide stays = refl
