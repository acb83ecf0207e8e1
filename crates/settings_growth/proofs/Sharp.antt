-- Nothing weaker would do at a switch: where it makes its log under both settings, what it rejected for want of a route has none.
use Rattle.std.proofs.Common.{◌≡◌, ℕ, zero, suc, Bool, true, false, cond, List, [], ◌∷◌, drop, length, nat_lt, Option, Some, None, Result, Ok, Err, slice_get, refl, sym, ap, ◌∙◌, subst}
use Rattle.std.specs.Prelude.{bytes_eq}
use Rattle.std.specs.List.{AllByRecursion}
use Rattle.claim_model.specs.Words.{TxnId, RequestHeader, RouteKey, Envelope, EnvelopeFault, Answer}
use Rattle.claim_model.specs.Context.{Context}
use Rattle.claim_model.specs.Readable.{readable, route_key, payer_for, same_id, is_request}
use Rattle.claim_model.specs.declared.refusal.Refusal.{Refusal}
use Rattle.claim_model.specs.Table.{Table, Slot, slot_of, Requested, requested_again, entered_where, requested_by, requested_readable, requested, filled, Responded, responded_with, responded_by, responded_readable, responded}
use Rattle.claim_model.specs.Node.{Node, Pharmacy, Switch, Payer, Power, Up, AtRest, Sent, Call, Submit, Tick, Take, Stop, Start, Revise, OfPlan, OfRule, OfCap, Adjudicate, Outcome, Done, Refused, after_request, after_response, switch_takes, switch_step}
use Rattle.claim_model.specs.Settings.{WorldSettings, switches_of, opening}
use Rattle.claim_model.specs.Nodes.{AnyNode, OfSwitch, node_step, node_at}
use Rattle.claim_model.specs.Logs.{Logged, node_after, Makes}
use Rattle.claim_model.proofs.Lists.{all_append, all_cond, all_drop, all_map}
use Rattle.claim_model.proofs.Options.{same_some, same_ok, cond_ok, map_some}
use Rattle.claim_model.proofs.Tests.{bytes_same, id_same}
use Rattle.settings_growth.specs.Growth.{Grows, RejectionStays, RejectionsStay}
use Rattle.settings_growth.proofs.Rerouted.{rerouted, of_kind}
use Rattle.settings_growth.proofs.Switches.{lasts, switch_over}
use Rattle.settings_growth.proofs.Opening.{switch_there}

-- each slot has a request that has a route

abbrev IsRouted : Context → TxnId × Slot → Type 0
IsRouted ctx x = (h : RequestHeader) → readable ctx x.1.request ≡ Some h → payer_for ctx x.0 h ≡ None → ⊥

abbrev Routed : Context → Power Table ℕ → Type 0
Routed ctx (Up t) = AllByRecursion (IsRouted ctx) t.entries
Routed ctx (AtRest cap) = Unit {0}

slot_first : (ctx : Context) (b : Bool) (x : TxnId × Slot) (id : TxnId) (slot : Slot) (rest : Option Slot) (h : RequestHeader) → (b ≡ true → id ≡ x.0) → IsRouted ctx x
    → (rest ≡ Some slot → readable ctx slot.request ≡ Some h → payer_for ctx id h ≡ None → ⊥)
    → cond b (Some x.1) rest ≡ Some slot → readable ctx slot.request ≡ Some h → payer_for ctx id h ≡ None → ⊥
slot_first ctx true x id slot rest h same here later e r p = here h (ap (λ (s : Slot). readable ctx s.request) (same_some x.1 slot e) ∙ r) (ap (λ (i : TxnId). payer_for ctx i h) (sym (same refl)) ∙ p)
slot_first ctx false x id slot rest h same here later e r p = later e r p

slot_routed : (ctx : Context) (es : List (TxnId × Slot)) (id : TxnId) (slot : Slot) (h : RequestHeader) → AllByRecursion (IsRouted ctx) es → slot_of id es ≡ Some slot → readable ctx slot.request ≡ Some h → payer_for ctx id h ≡ None → ⊥
slot_routed ctx [] id slot h all e r p = absurd cc
slot_routed ctx (x ∷ es) id slot h all e r p = slot_first ctx (same_id id x.0) x id slot (slot_of id es) h (id_same id x.0) all.0 (slot_routed ctx es id slot h all.1) e r p

-- a request

is_some_payer : (ctx : Context) (id : TxnId) (h : RequestHeader) (payer : ℕ) (A : Type 0) → payer_for ctx id h ≡ Some payer → payer_for ctx id h ≡ None → A
is_some_payer ctx id h payer A e n = let wrong : ◌≡◌ {A = Option ℕ} (Some payer) None = sym e ∙ n in absurd cc

new_slot : (ctx : Context) (e : Envelope) (h : RequestHeader) (payer : ℕ) → readable ctx e.payload ≡ Some h → payer_for ctx e.id h ≡ Some payer → IsRouted ctx (e.id, record { request = e.payload; answer = None })
new_slot ctx e h payer reads is g again none = let same : g ≡ h = same_some g h (sym again ∙ reads) in is_some_payer ctx e.id h payer ⊥ is (ap (payer_for ctx e.id) (sym same) ∙ none)

entered_routed : (ctx : Context) (t : Table) (e : Envelope) (h : RequestHeader) (o : Option ℕ) → AllByRecursion (IsRouted ctx) t.entries → readable ctx e.payload ≡ Some h → payer_for ctx e.id h ≡ o → AllByRecursion (IsRouted ctx) (entered_where t e o).entries
entered_routed ctx t e h None all reads is = all
entered_routed ctx t e h (Some payer) all reads is =
    all_append (IsRouted ctx) (cond (nat_lt (length t.entries) t.cap) t.entries (drop 1 t.entries)) ((e.id, record { request = e.payload; answer = None }) ∷ [])
    (all_cond (IsRouted ctx) (nat_lt (length t.entries) t.cap) t.entries (drop 1 t.entries) all (all_drop (IsRouted ctx) 1 t.entries all))
    (new_slot ctx e h payer reads is, tt)

again_same : (ctx : Context) (t : Table) (e : Envelope) (h : RequestHeader) (o : Option (List ℕ)) → (requested_again ctx t e h o).table ≡ t
again_same ctx t e h (Some answer) = refl
again_same ctx t e h None = refl

asked_routed : (ctx : Context) (t : Table) (e : Envelope) (h : RequestHeader) (o : Option Slot) (r : Requested) → AllByRecursion (IsRouted ctx) t.entries → readable ctx e.payload ≡ Some h → requested_by ctx t e h o ≡ Ok r → AllByRecursion (IsRouted ctx) r.table.entries
asked_routed ctx t e h None r all reads ok = subst (λ (q : Requested). AllByRecursion (IsRouted ctx) q.table.entries) (same_ok _ r ok) (entered_routed ctx t e h (payer_for ctx e.id h) all reads refl)
asked_routed ctx t e h (Some s) r all reads ok =
    let p = cond_ok (bytes_eq s.request e.payload) (Ok (requested_again ctx t e h s.answer)) Refusal.NumberReused r ok in
    subst (λ (q : Requested). AllByRecursion (IsRouted ctx) q.table.entries) (same_ok _ r p.1) (subst (λ (u : Table). AllByRecursion (IsRouted ctx) u.entries) (sym (again_same ctx t e h s.answer)) all)

read_routed : (ctx : Context) (t : Table) (e : Envelope) (o : Option RequestHeader) (r : Requested) → AllByRecursion (IsRouted ctx) t.entries → readable ctx e.payload ≡ o → requested_readable ctx t e o ≡ Ok r → AllByRecursion (IsRouted ctx) r.table.entries
read_routed ctx t e None r all reads ok = absurd cc
read_routed ctx t e (Some h) r all reads ok = asked_routed ctx t e h (slot_of e.id t.entries) r all reads ok

request_routed : (ctx : Context) (t : Table) (e : Envelope) (r : Requested) → AllByRecursion (IsRouted ctx) t.entries → requested ctx t e ≡ Ok r → AllByRecursion (IsRouted ctx) r.table.entries
unfolding requested
request_routed ctx t e r all ok = read_routed ctx t e (readable ctx e.payload) r all refl (cond_ok (is_request e) (requested_readable ctx t e (readable ctx e.payload)) Refusal.Unreadable r ok).1

-- a response

filled_one : (ctx : Context) (id : TxnId) (answer : List ℕ) (b : Bool) (x : TxnId × Slot) → IsRouted ctx x → IsRouted ctx (cond b (x.0, record { request = x.1.request; answer = Some answer }) x)
filled_one ctx id answer true x routed = routed
filled_one ctx id answer false x routed = routed

filled_routed : (ctx : Context) (t : Table) (id : TxnId) (answer : List ℕ) → AllByRecursion (IsRouted ctx) t.entries → AllByRecursion (IsRouted ctx) (filled t id answer).entries
filled_routed ctx t id answer all =
    all_map (IsRouted ctx) (IsRouted ctx) (λ (x : TxnId × Slot). cond (same_id id x.0) (x.0, record { request = x.1.request; answer = Some answer }) x) (λ x. filled_one ctx id answer (same_id id x.0) x) t.entries all

with_routed : (ctx : Context) (t : Table) (e : Envelope) (o : Option (List ℕ)) (r : Responded) → AllByRecursion (IsRouted ctx) t.entries → responded_with ctx t e o ≡ Ok r → AllByRecursion (IsRouted ctx) r.table.entries
with_routed ctx t e None r all ok = subst (λ (q : Responded). AllByRecursion (IsRouted ctx) q.table.entries) (same_ok _ r ok) (filled_routed ctx t e.id e.payload all)
with_routed ctx t e (Some held) r all ok =
    let p = cond_ok (bytes_eq held e.payload) (Ok (record { table = t; bytes = ctx.envelope e })) Refusal.Differs r ok in
    subst (λ (q : Responded). AllByRecursion (IsRouted ctx) q.table.entries) (same_ok _ r p.1) all

by_routed : (ctx : Context) (t : Table) (e : Envelope) (o : Option Slot) (r : Responded) → AllByRecursion (IsRouted ctx) t.entries → responded_by ctx t e o ≡ Ok r → AllByRecursion (IsRouted ctx) r.table.entries
by_routed ctx t e None r all ok = absurd cc
by_routed ctx t e (Some s) r all ok = with_routed ctx t e s.answer r all ok

answer_routed : (ctx : Context) (t : Table) (e : Envelope) (o : Option Answer) (r : Responded) → AllByRecursion (IsRouted ctx) t.entries → responded_readable ctx t e o ≡ Ok r → AllByRecursion (IsRouted ctx) r.table.entries
answer_routed ctx t e None r all ok = absurd cc
answer_routed ctx t e (Some a) r all ok = by_routed ctx t e (slot_of e.id t.entries) r all ok

response_routed : (ctx : Context) (t : Table) (e : Envelope) (b : Bool) (r : Responded) → AllByRecursion (IsRouted ctx) t.entries → cond b (Err Refusal.Unreadable) (responded_readable ctx t e (ctx.read_answer e.payload)) ≡ Ok r → AllByRecursion (IsRouted ctx) r.table.entries
response_routed ctx t e true r all ok = absurd cc
response_routed ctx t e false r all ok = answer_routed ctx t e (ctx.read_answer e.payload) r all ok

-- every call

after_asked : (ctx : Context) (id : TxnId) (o : Result Requested Refusal) (next : Power Table ℕ) (sent : List Sent) → ((r : Requested) → o ≡ Ok r → AllByRecursion (IsRouted ctx) r.table.entries) → after_request id o ≡ Done next sent → Routed ctx next
after_asked ctx id (Err f) next sent each e = absurd cc
after_asked ctx id (Ok r) next sent each e = let same : Up r.table ≡ next = cc in subst (Routed ctx) same (each r refl)

after_answer : (ctx : Context) (id : TxnId) (o : Result Responded Refusal) (next : Power Table ℕ) (sent : List Sent) → ((r : Responded) → o ≡ Ok r → AllByRecursion (IsRouted ctx) r.table.entries) → after_response id o ≡ Done next sent → Routed ctx next
after_answer ctx id (Err f) next sent each e = absurd cc
after_answer ctx id (Ok r) next sent each e = let same : Up r.table ≡ next = cc in subst (Routed ctx) same (each r refl)

kind_routed : (ctx : Context) (t : Table) (v : Envelope) (b : Bool) (next : Power Table ℕ) (sent : List Sent) → AllByRecursion (IsRouted ctx) t.entries → cond b (after_request v.id (requested ctx t v)) (after_response v.id (responded ctx t v)) ≡ Done next sent → Routed ctx next
unfolding responded
kind_routed ctx t v true next sent all e = after_asked ctx v.id (requested ctx t v) next sent (λ r ok. request_routed ctx t v r all ok) e
kind_routed ctx t v false next sent all e = after_answer ctx v.id (responded ctx t v) next sent (λ r ok. response_routed ctx t v (is_request v) r all ok) e

packet_routed : (ctx : Context) (t : Table) (o : Result Envelope EnvelopeFault) (next : Power Table ℕ) (sent : List Sent) → AllByRecursion (IsRouted ctx) t.entries → switch_takes ctx t o ≡ Done next sent → Routed ctx next
packet_routed ctx t (Err f) next sent all e = absurd cc
packet_routed ctx t (Ok v) next sent all e = kind_routed ctx t v (is_request v) next sent all e

stays_routed : (ctx : Context) (node : Power Table ℕ) (call : Call) (next : Power Table ℕ) (sent : List Sent) → Routed ctx node → switch_step ctx node call ≡ Done next sent → Routed ctx next
stays_routed ctx (Up t) (Take from bytes) next sent all e = packet_routed ctx t (ctx.read_envelope bytes) next sent all e
stays_routed ctx (Up t) Stop next sent all e = let same : AtRest t.cap ≡ next = cc in subst (Routed ctx) same tt
stays_routed ctx (AtRest cap) Start next sent all e = let same : Up (record { cap = cap; entries = [] }) ≡ next = cc in subst (Routed ctx) same tt
stays_routed ctx (Up t) (Submit text) next sent all e = absurd cc
stays_routed ctx (Up t) Tick next sent all e = absurd cc
stays_routed ctx (Up t) Start next sent all e = absurd cc
stays_routed ctx (Up t) (Revise change) next sent all e = absurd cc
stays_routed ctx (Up t) (Adjudicate from bytes advice) next sent all e = absurd cc
stays_routed ctx (AtRest cap) (Submit text) next sent all e = absurd cc
stays_routed ctx (AtRest cap) Tick next sent all e = absurd cc
stays_routed ctx (AtRest cap) (Take from bytes) next sent all e = absurd cc
stays_routed ctx (AtRest cap) Stop next sent all e = absurd cc
stays_routed ctx (AtRest cap) (Revise (OfPlan change)) next sent all e = absurd cc
stays_routed ctx (AtRest cap) (Revise (OfRule rule)) next sent all e = absurd cc
stays_routed ctx (AtRest cap) (Revise (OfCap most)) next sent all e = let same : AtRest most ≡ next = cc in subst (Routed ctx) same tt
stays_routed ctx (AtRest cap) (Adjudicate from bytes advice) next sent all e = absurd cc

-- ---- a rejected request that has a route now is forwarded now

-- what is sent where there is no slot, by the route
sent_by : (ctx : Context) (t : Table) (e : Envelope) (h : RequestHeader) (o : Option ℕ) → Outcome (Power Table ℕ)
sent_by ctx t e h o = after_request e.id (Ok (record { table = entered_where t e o; routed = Rattle.claim_model.specs.Table.routed_by ctx e h o }))

goes_to_pharmacy : Node → Bool
goes_to_pharmacy (Pharmacy n) = true
goes_to_pharmacy (Switch n) = false
goes_to_pharmacy (Payer n) = false

first_to_pharmacy : List Sent → Bool
first_to_pharmacy [] = false
first_to_pharmacy (s ∷ more) = goes_to_pharmacy s.to

answers_pharmacy : Outcome (Power Table ℕ) → Bool
answers_pharmacy (Done next sent) = first_to_pharmacy sent
answers_pharmacy (Refused why) = false

two_ways : (ctx : Context) (t : Table) (e : Envelope) (h : RequestHeader) (payer : ℕ) (next after : Power Table ℕ) (sent : List Sent) → sent_by ctx t e h None ≡ Done next sent → sent_by ctx t e h (Some payer) ≡ Done after sent → ⊥
unfolding sent_by answers_pharmacy first_to_pharmacy goes_to_pharmacy
two_ways ctx t e h payer next after sent a b =
    let back : true ≡ first_to_pharmacy sent = ap answers_pharmacy a in
    let on : false ≡ first_to_pharmacy sent = ap answers_pharmacy b in
    let wrong : true ≡ false = back ∙ sym on in
    absurd cc

by_slot : (ctx : Context) (route : ℕ → RouteKey → Option ℕ) (count : ℕ) (t : Table) (e : Envelope) (h : RequestHeader) (payer : ℕ) (o : Option Slot) (next after : Power Table ℕ) (sent : List Sent) → slot_of e.id t.entries ≡ o → AllByRecursion (IsRouted ctx) t.entries
    → readable ctx e.payload ≡ Some h → payer_for ctx e.id h ≡ None → route e.id.number (route_key h) ≡ Some payer
    → after_request e.id (requested_by ctx t e h o) ≡ Done next sent → after_request e.id (requested_by (rerouted ctx route count) t e h o) ≡ Done after sent → ⊥
unfolding sent_by
by_slot ctx route count t e h payer None next after sent slot all reads none some a b =
    two_ways ctx t e h payer next after sent (sym (ap (sent_by ctx t e h) none) ∙ a) (sym (ap (sent_by ctx t e h) some) ∙ b)
by_slot ctx route count t e h payer (Some s) next after sent slot all reads none some a b = by_test (bytes_eq s.request e.payload) refl a
  where
    by_test : (same : Bool) → bytes_eq s.request e.payload ≡ same → after_request e.id (cond same (Ok (requested_again ctx t e h s.answer)) (Err Refusal.NumberReused)) ≡ Done next sent → ⊥
    by_test true same is = slot_routed ctx t.entries e.id s h all slot (ap (readable ctx) (bytes_same s.request e.payload same) ∙ reads) none
    by_test false same is = absurd cc

reads_alike : (ctx : Context) (route : ℕ → RouteKey → Option ℕ) (count : ℕ) (text : List ℕ) → readable (rerouted ctx route count) text ≡ readable ctx text
unfolding readable
reads_alike ctx route count text = refl

asks : (ctx : Context) (t : Table) (e : Envelope) (h : RequestHeader) → is_request e ≡ true → readable ctx e.payload ≡ Some h → switch_takes ctx t (Ok e) ≡ after_request e.id (requested_by ctx t e h (slot_of e.id t.entries))
unfolding requested
asks ctx t e h is reads =
    ap (λ (b : Bool). cond b (after_request e.id (cond b (requested_readable ctx t e (readable ctx e.payload)) (Err Refusal.Unreadable))) (after_response e.id (responded ctx t e))) is
    ∙ ap (λ (o : Option RequestHeader). after_request e.id (requested_readable ctx t e o)) reads

forwarded : (ctx : Context) (route : ℕ → RouteKey → Option ℕ) (count : ℕ) (t : Table) (o : Result Envelope EnvelopeFault) (e : Envelope) (h : RequestHeader) (payer : ℕ) (next after : Power Table ℕ) (sent : List Sent) → AllByRecursion (IsRouted ctx) t.entries → o ≡ Ok e → is_request e ≡ true → readable ctx e.payload ≡ Some h
    → payer_for ctx e.id h ≡ None → route e.id.number (route_key h) ≡ Some payer → switch_takes ctx t o ≡ Done next sent → switch_takes (rerouted ctx route count) t o ≡ Done after sent → ⊥
forwarded ctx route count t o e h payer next after sent all opened is reads none some a b =
    by_slot ctx route count t e h payer (slot_of e.id t.entries) next after sent refl all reads none some
    (sym (asks ctx t e h is reads) ∙ (ap (switch_takes ctx t) (sym opened) ∙ a))
    (sym (asks (rerouted ctx route count) t e h is (reads_alike ctx route count e.payload ∙ reads)) ∙ (ap (switch_takes (rerouted ctx route count) t) (sym opened) ∙ b))

by_route : (ctx : Context) (route : ℕ → RouteKey → Option ℕ) (count : ℕ) (t : Table) (e : Envelope) (h : RequestHeader) (bytes : List ℕ) (o : Option ℕ) (next after : Power Table ℕ) (sent : List Sent) → AllByRecursion (IsRouted ctx) t.entries → ctx.read_envelope bytes ≡ Ok e → is_request e ≡ true → readable ctx e.payload ≡ Some h
    → payer_for ctx e.id h ≡ None → route e.id.number (route_key h) ≡ o → switch_takes ctx t (ctx.read_envelope bytes) ≡ Done next sent → switch_takes (rerouted ctx route count) t (ctx.read_envelope bytes) ≡ Done after sent → route e.id.number (route_key h) ≡ None
by_route ctx route count t e h bytes None next after sent all opened is reads none some a b = some
by_route ctx route count t e h bytes (Some payer) next after sent all opened is reads none some a b =
    absurd (forwarded ctx route count t (ctx.read_envelope bytes) e h payer next after sent all opened is reads none some a b)

one_stays : (ctx : Context) (route : ℕ → RouteKey → Option ℕ) (count : ℕ) (node : Power Table ℕ) (call : Call) (next after : Power Table ℕ) (sent : List Sent) → Routed ctx node → switch_step ctx node call ≡ Done next sent → switch_step (rerouted ctx route count) node call ≡ Done after sent → RejectionStays ctx (rerouted ctx route count) call
one_stays ctx route count (Up t) (Take from bytes) next after sent all a b = λ e h opened is reads none. by_route ctx route count t e h bytes (route e.id.number (route_key h)) next after sent all opened is reads none refl a b
one_stays ctx route count (AtRest cap) (Take from bytes) next after sent all a b = absurd cc
one_stays ctx route count node (Submit text) next after sent all a b = tt
one_stays ctx route count node Tick next after sent all a b = tt
one_stays ctx route count node Stop next after sent all a b = tt
one_stays ctx route count node Start next after sent all a b = tt
one_stays ctx route count node (Revise change) next after sent all a b = tt
one_stays ctx route count node (Adjudicate from bytes advice) next after sent all a b = tt

-- ---- a whole log

same_after : (x y : Power Table ℕ) (sent other : List Sent) → ◌≡◌ {A = Outcome (Power Table ℕ)} (Done x sent) (Done y other) → x ≡ y
same_after x y sent other e = cc

all_stay : (ctx : Context) (route : ℕ → RouteKey → Option ℕ) (count : ℕ) (node : Power Table ℕ) (log : List Logged) → ((number : ℕ) (key : RouteKey) (payer : ℕ) → ctx.route number key ≡ Some payer → route number key ≡ Some payer) → Routed ctx node
    → Makes ctx (OfSwitch node) log → Makes (rerouted ctx route count) (OfSwitch node) log → AllByRecursion (λ (l : Logged). RejectionStays ctx (rerouted ctx route count) l.call) log
all_stay ctx route count node [] wide routed m n = tt
all_stay ctx route count node (l ∷ log) wide routed m n =
    let k = of_kind OfSwitch (switch_step ctx node l.call) (node_after (OfSwitch node) (node_step ctx (OfSwitch node) l.call)) l.sent m.0 in
    let j = of_kind OfSwitch (switch_step (rerouted ctx route count) node l.call) (node_after (OfSwitch node) (node_step (rerouted ctx route count) (OfSwitch node) l.call)) l.sent n.0 in
    let stays = one_stays ctx route count node l.call k.after j.after l.sent routed k.is j.is in
    let same : j.after ≡ k.after = same_after j.after k.after l.sent l.sent (sym j.is ∙ (switch_over ctx route count node l.call (lasts ctx route count l.call wide) stays ∙ k.is)) in (
      stays,
      all_stay ctx route count k.after log wide (stays_routed ctx node l.call k.after l.sent routed k.is)
          (subst (λ (x : AnyNode). Makes ctx x log) (sym k.same) m.1)
          (subst (λ (x : Power Table ℕ). Makes (rerouted ctx route count) (OfSwitch x) log) same (subst (λ (x : AnyNode). Makes (rerouted ctx route count) x log) (sym j.same) n.1)),
    )

opens_routed : (ctx : Context) (caps : List ℕ) (k : ℕ) (node : Power Table ℕ) → slice_get (switches_of caps) k ≡ Some node → Routed ctx node
opens_routed ctx [] k node e = absurd cc
opens_routed ctx (cap ∷ caps) zero node e = let same : Up (record { cap = cap; entries = [] }) ≡ node = cc in subst (Routed ctx) same tt
opens_routed ctx (cap ∷ caps) (suc k) node e = opens_routed ctx caps k node e

switch_routed : (ctx : Context) (s : WorldSettings) (n : ℕ) (node : Power Table ℕ) → node_at (opening s) (Switch n) ≡ Some (OfSwitch node) → Routed ctx node
switch_routed ctx s zero node e = absurd cc
switch_routed ctx s (suc k) node e =
    let m = map_some OfSwitch (slice_get (switches_of s.switches) k) (OfSwitch node) e in
    let same : m.0 ≡ node = same_switch m.0 node m.2 in
    subst (Routed ctx) same (opens_routed ctx s.switches k m.0 m.1)
  where
    same_switch : (x y : Power Table ℕ) → OfSwitch x ≡ OfSwitch y → x ≡ y
    same_switch x y q = cc

by_kind : (ctx : Context) (route : ℕ → RouteKey → Option ℕ) (count : ℕ) (s t : WorldSettings) (node : Node) (before after : AnyNode) (log : List Logged) → Grows ctx (rerouted ctx route count) s t → node_at (opening s) node ≡ Some before → node_at (opening t) node ≡ Some after
    → Makes ctx before log → Makes (rerouted ctx route count) after log → RejectionsStay ctx (rerouted ctx route count) node log
by_kind ctx route count s t (Pharmacy n) before after log g is there m k = tt
by_kind ctx route count s t (Payer n) before after log g is there m k = tt
by_kind ctx route count s t (Switch n) before after log g is there m k =
    let p = switch_there s t n before g.switches is in
    let e : ◌≡◌ {A = Option AnyNode} (Some after) (Some (OfSwitch p.node)) = sym there ∙ p.opens in
    let same : after ≡ OfSwitch p.node = same_some after (OfSwitch p.node) e in
    all_stay ctx route count p.node log g.widens.routes (switch_routed ctx s n p.node (is ∙ ap (λ (x : AnyNode). Some x) p.is))
    (subst (λ (x : AnyNode). Makes ctx x log) p.is m) (subst (λ (x : AnyNode). Makes (rerouted ctx route count) x log) same k)

pub have_to_stay : (ctx wider : Context) (s t : WorldSettings) (node : Node) (before after : AnyNode) (log : List Logged) → Grows ctx wider s t → node_at (opening s) node ≡ Some before → node_at (opening t) node ≡ Some after → Makes ctx before log → Makes wider after log
    → RejectionsStay ctx wider node log
have_to_stay ctx wider s t node before after log g is there m k =
    let e = g.widens.reading in
    subst (λ (x : Context). RejectionsStay ctx x node log) (sym e)
    (by_kind ctx wider.route wider.switches s t node before after log (subst (λ (x : Context). Grows ctx x s t) e g) is there m (subst (λ (x : Context). Makes x after log) e k))
