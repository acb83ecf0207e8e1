-- Every packet is addressed to a node that is there and that it is for.
use Rattle.std.proofs.Common.{◌≡◌, ◌<◌, ℕ, Bool, true, false, cond, List, [], ◌∷◌, map, length, Option, Some, None, Result, Ok, Err, refl, sym, ap, ◌∙◌, subst}
use Rattle.std.specs.Prelude.{bytes_eq, ⊤}
use Rattle.std.specs.List.{AllByRecursion}
use Rattle.claim_model.specs.Words.{Advice, TxnId, RequestHeader, Envelope, EnvelopeFault, Answer, Plan, PlanFault}
use Rattle.claim_model.specs.Context.{Context}
use Rattle.claim_model.specs.Laws.{Laws}
use Rattle.claim_model.specs.Readable.{readable, payer_for, rejection, answer_envelope, is_request}
use Rattle.claim_model.specs.Refusal.{Refusal}
use Rattle.claim_model.specs.Rows.{Book}
use Rattle.claim_model.specs.Book.{answered, unadvised}
use Rattle.claim_model.specs.Journal.{Journal, JournalAtRest, Sending, submitted, ticked, due, heard, stopped, started, is_rule, with_rule, ruled_anew}
use Rattle.claim_model.specs.Table.{Slot, Table, Back, Requested, slot_of, routed_by, requested_again, requested_by, requested_readable, requested, Responded, responded_with, responded_by, responded_readable, responded}
use Rattle.claim_model.specs.Node.{Node, Pharmacy, Switch, Payer, Power, Up, AtRest, Sent, Call, Submit, Tick, Take, Stop, Start, Revise, OfPlan, OfRule, OfCap, Adjudicate, Done, to_switch, pharmacy_takes, pharmacy_step, to_payer_or_back, after_request, after_response, switch_takes, switch_step, after_answer, payer_takes, advice_in, after_reprice, payer_step}
use Rattle.claim_model.specs.World.{World, Packet}
use Rattle.claim_model.specs.Settings.{WorldSettings}
use Rattle.claim_model.specs.Held.{journal_in, asked, decided}
use Rattle.claim_model.specs.Carried.{Carries, IsVouched}
use Rattle.claim_model.proofs.Lists.{all_map}
use Rattle.claim_model.proofs.Options.{same_ok, cond_ok, cond_ok_not}
use Rattle.claim_model.proofs.Journals.{submitted_enters, submitted_is, heard_is, ruled_same}
use Rattle.claim_model.proofs.Sound.{SoundSlot, SoundSwitch, Sound}
use Rattle.claim_model.proofs.Decided.{origin, decided_unrouted}
use Rattle.claim_model.proofs.PharmacyStep.{carries_reads, done_same, rule_taken, after_submit_done, after_hearing_done}
use Rattle.claim_model.proofs.SwitchStep.{request_says, slot_found}
use Rattle.claim_model.proofs.PayerStep.{after_answer_done, takes_parts, asked_first}
use Rattle.claim_model.proofs.Phases.{IsThere, Phases, HasSwitches, first_fits, switch_at_there, due_there, ticked_phases, started_phases, entered_phases, settled_phases}

-- from a switch that is there
abbrev pub FromSwitch : WorldSettings → Node → Type 0
FromSwitch given (Switch m) = IsThere m (length given.switches)
FromSwitch given (Pharmacy n) = ⊥
FromSwitch given (Payer n) = ⊥

-- a request that is routed to a payer
pub record RoutedTo (ctx : Context) (n : ℕ) (e : Envelope) : Type 0 where
  pub is_request_is : is_request e ≡ true
  pub header : RequestHeader
  pub reads : readable ctx e.payload ≡ Some header
  pub routed : payer_for ctx e.id header ≡ Some n

-- an answer to a pharmacy's own id
pub record AnswerFor (n : ℕ) (e : Envelope) : Type 0 where
  pub is_answer : is_request e ≡ false
  pub own : e.id.pharmacy ≡ n

abbrev pub IsFor : Context → WorldSettings → Node → Node → Envelope → Type 0
IsFor ctx given from (Pharmacy n) e = AnswerFor n e
IsFor ctx given from (Switch m) e = IsThere m (length given.switches)
IsFor ctx given from (Payer n) e = RoutedTo ctx n e × FromSwitch given from

abbrev pub IsForAll : Context → WorldSettings → Node → Node → List ℕ → Type 0
IsForAll ctx given from to bytes = (e : Envelope) → ctx.read_envelope bytes ≡ Ok e → IsFor ctx given from to e

abbrev pub Addressed : Context → WorldSettings → Packet → Type 0
Addressed ctx given p = IsForAll ctx given p.from p.to p.bytes

abbrev pub SentWell : Context → WorldSettings → Node → Sent → Type 0
SentWell ctx given node s = IsForAll ctx given node s.to s.bytes

-- a call on a node takes what is for that node
abbrev pub CallIsFor : Context → WorldSettings → Node → Call → Type 0
CallIsFor ctx given node (Take from bytes) = IsForAll ctx given from node bytes
CallIsFor ctx given node (Submit text) = ⊤
CallIsFor ctx given node Tick = ⊤
CallIsFor ctx given node Stop = ⊤
CallIsFor ctx given node Start = ⊤
CallIsFor ctx given node (Revise change) = ⊤
CallIsFor ctx given node (Adjudicate from bytes advice) = IsForAll ctx given from node bytes

-- pharmacies send to switches of their lists

abbrev pub PowerPhases : Power Journal JournalAtRest → Type 0
PowerPhases (Up j) = Phases j
PowerPhases (AtRest j) = ⊤

pub record PharmacySends (ctx : Context) (given : WorldSettings) (n : ℕ) (next : Power Journal JournalAtRest) (out : List Sent) : Type 0 where
  pub phases : PowerPhases next
  pub sends : AllByRecursion (SentWell ctx given (Pharmacy n)) out

sends_at : (ctx : Context) (given : WorldSettings) (n : ℕ) (a next : Power Journal JournalAtRest) (b out : List Sent) → a ≡ next → b ≡ out → PharmacySends ctx given n a b → PharmacySends ctx given n next out
sends_at ctx given n a next b out e f k = subst (λ y. PharmacySends ctx given n next y) f (subst (λ y. PharmacySends ctx given n y b) e k)

takes_phases : (ctx : Context) (given : WorldSettings) (n : ℕ) (j : Journal) (r : Result Envelope EnvelopeFault) (next : Power Journal JournalAtRest) (out : List Sent) → Phases j → pharmacy_takes ctx j r ≡ Done next out → PharmacySends ctx given n next out
takes_phases ctx given n j (Err f) next out p e = absurd cc
takes_phases ctx given n j (Ok env) next out p e =
    let d = after_hearing_done (heard ctx j env) next out e in
    let h = heard_is ctx j env d.0 d.1 in
    sends_at ctx given n (Up d.0) next [] out (sym d.2) (sym d.3) (record { phases = subst Phases (sym h.1) (settled_phases j env.id.number h.0 env.payload p); sends = tt })

pub pharmacy_sends : (ctx : Context) (given : WorldSettings) (n : ℕ) (s next : Power Journal JournalAtRest) (call : Call) (out : List Sent) → HasSwitches (journal_in s).rule (length given.switches)
    → HasSwitches (journal_in next).rule (length given.switches) → PowerPhases s
    → pharmacy_step ctx s call ≡ Done next out → PharmacySends ctx given n next out
unfolding stopped ticked ruled_anew
pharmacy_sends ctx given n (Up j) next (Submit text) out h g p e =
    let d = after_submit_done (submitted ctx j text) next out e in
    let f = submitted_enters ctx j text d.0 d.1 in
    let above = first_fits j.rule (length given.switches) h in
    let there : IsThere d.0.sent.switch (length given.switches) =
    subst (λ (q : Sending). IsThere q.switch (length given.switches)) (sym f.2) (switch_at_there j.rule (length given.switches) 0 h above) in
    sends_at ctx given n (Up d.0.journal) next (to_switch d.0.sent ∷ []) out (sym d.2) (sym d.3)
    (record { phases = subst Phases (sym (submitted_is ctx j text d.0 d.1)) (entered_phases j text above p); sends = (λ env r. there, tt) })
pharmacy_sends ctx given n (Up j) next Tick out h g p e =
    let d = done_same (Up (ticked j)) next (map to_switch (due ctx (ticked j))) out e in
    let phases : Phases (ticked j) = ticked_phases j h.some p in
    sends_at ctx given n (Up (ticked j)) next _ out d.0 d.1
    (record {
      phases = phases;
      sends = all_map (λ (x : Sending). IsThere x.switch (length given.switches)) (SentWell ctx given (Pharmacy n)) to_switch (λ x t env r. t) (due ctx (ticked j)) (due_there ctx (ticked j) (length given.switches) h phases);
    })
pharmacy_sends ctx given n (Up j) next (Take from bytes) out h g p e = takes_phases ctx given n j (ctx.read_envelope bytes) next out p e
pharmacy_sends ctx given n (Up j) next Stop out h g p e =
    let d = done_same (AtRest (stopped j)) next [] out e in sends_at ctx given n (AtRest (stopped j)) next [] out d.0 d.1 (record { phases = tt; sends = tt })
pharmacy_sends ctx given n (AtRest j) next Start out h g p e =
    let d = done_same (Up (started j)) next [] out e in
    sends_at ctx given n (Up (started j)) next [] out d.0 d.1 (record { phases = started_phases j h.some; sends = tt })
pharmacy_sends ctx given n (Up j) next Start out h g p e = absurd cc
pharmacy_sends ctx given n (Up j) next (Revise (OfPlan change)) out h g p e = absurd cc
pharmacy_sends ctx given n (Up j) next (Revise (OfRule rule)) out h g p e =
    let d = rule_taken (is_rule ctx.switches rule) (Up (ruled_anew rule j)) next [] out e in
    let some : 0 < length rule.nodes =
    subst (λ (q : JournalAtRest). 0 < length q.rule.nodes) (ruled_same rule j) (subst (λ y. 0 < length (journal_in y).rule.nodes) (sym d.1) g.some) in
    sends_at ctx given n (Up (ruled_anew rule j)) next [] out d.1 d.2 (record { phases = started_phases (with_rule rule (stopped j)) some; sends = tt })
pharmacy_sends ctx given n (Up j) next (Revise (OfCap most)) out h g p e = absurd cc
pharmacy_sends ctx given n (Up j) next (Adjudicate from bytes advice) out h g p e = absurd cc
pharmacy_sends ctx given n (AtRest j) next (Submit text) out h g p e = absurd cc
pharmacy_sends ctx given n (AtRest j) next Tick out h g p e = absurd cc
pharmacy_sends ctx given n (AtRest j) next (Take from bytes) out h g p e = absurd cc
pharmacy_sends ctx given n (AtRest j) next Stop out h g p e = absurd cc
pharmacy_sends ctx given n (AtRest j) next (Revise (OfPlan change)) out h g p e = absurd cc
pharmacy_sends ctx given n (AtRest j) next (Revise (OfRule rule)) out h g p e = absurd cc
pharmacy_sends ctx given n (AtRest j) next (Revise (OfCap most)) out h g p e = absurd cc
pharmacy_sends ctx given n (AtRest j) next (Adjudicate from bytes advice) out h g p e = absurd cc

-- switches send to the routed payer, or to the pharmacy of the id

-- an answer for the id of an envelope reads back
reply_reads : (ctx : Context) (given : WorldSettings) (w : World) (bytes : List ℕ) (c : Carries ctx w bytes) (a : List ℕ) → Laws ctx → Sound ctx given w → decided ctx w c.envelope.id ≡ Some a
    → ctx.read_envelope (ctx.envelope (answer_envelope c.envelope.id a)) ≡ Ok (answer_envelope c.envelope.id a)
reply_reads ctx given w bytes c a laws x d =
    laws.envelopes (answer_envelope c.envelope.id a)
    (record { pharmacy = c.fits.pharmacy; pharmacy_fits = c.fits.pharmacy_fits; number = c.fits.number; number_fits = c.fits.number_fits; payload = (origin ctx given w c.envelope.id a laws x d).0.spells.short })

reply_for : (ctx : Context) (given : WorldSettings) (w : World) (m : ℕ) (bytes : List ℕ) (c : Carries ctx w bytes) (a : List ℕ) → Laws ctx → Sound ctx given w → decided ctx w c.envelope.id ≡ Some a
    → SentWell ctx given (Switch m) (to_payer_or_back (Pharmacy c.envelope.id.pharmacy) (Back (ctx.envelope (answer_envelope c.envelope.id a))))
reply_for ctx given w m bytes c a laws x d e r =
    let same : answer_envelope c.envelope.id a ≡ e = same_ok _ e (sym (reply_reads ctx given w bytes c a laws x d) ∙ r) in
    subst (AnswerFor c.envelope.id.pharmacy) same (record { is_answer = refl; own = refl })

routed_for : (ctx : Context) (given : WorldSettings) (w : World) (m : ℕ) (bytes : List ℕ) (c : Carries ctx w bytes) (h : RequestHeader) (o : Option ℕ) → Laws ctx → Sound ctx given w → IsThere m (length given.switches)
    → is_request c.envelope ≡ true → asked w c.envelope.id ≡ Some c.envelope.payload → readable ctx c.envelope.payload ≡ Some h → payer_for ctx c.envelope.id h ≡ o
    → SentWell ctx given (Switch m) (to_payer_or_back (Pharmacy c.envelope.id.pharmacy) (routed_by ctx c.envelope h o))
routed_for ctx given w m bytes c h None laws x there is asks reads route = reply_for ctx given w m bytes c (rejection ctx h) laws x (decided_unrouted ctx w c.envelope.id c.envelope.payload h asks reads route)
routed_for ctx given w m bytes c h (Some n) laws x there is asks reads route = λ e r.
    let same : c.envelope ≡ e = same_ok _ e (sym (laws.envelopes c.envelope c.fits) ∙ r) in
    (subst (RoutedTo ctx n) same (record { is_request_is = is; header = h; reads = reads; routed = route }), there)

again_for : (ctx : Context) (given : WorldSettings) (w : World) (m : ℕ) (bytes : List ℕ) (c : Carries ctx w bytes) (t : Table) (h : RequestHeader) (o : Option (List ℕ)) → Laws ctx → Sound ctx given w → IsThere m (length given.switches)
    → is_request c.envelope ≡ true → asked w c.envelope.id ≡ Some c.envelope.payload → readable ctx c.envelope.payload ≡ Some h → ((a : List ℕ) → o ≡ Some a → decided ctx w c.envelope.id ≡ Some a)
    → SentWell ctx given (Switch m) (to_payer_or_back (Pharmacy c.envelope.id.pharmacy) (requested_again ctx t c.envelope h o).routed)
again_for ctx given w m bytes c t h (Some a) laws x there is asks reads d = reply_for ctx given w m bytes c a laws x (d a refl)
again_for ctx given w m bytes c t h None laws x there is asks reads d = routed_for ctx given w m bytes c h (payer_for ctx c.envelope.id h) laws x there is asks reads refl

abbrev pub RoutedWell : Context → WorldSettings → ℕ → TxnId → Requested → Type 0
RoutedWell ctx given m id r = SentWell ctx given (Switch m) (to_payer_or_back (Pharmacy id.pharmacy) r.routed)

slot_for : (ctx : Context) (given : WorldSettings) (w : World) (m : ℕ) (bytes : List ℕ) (c : Carries ctx w bytes) (t : Table) (h : RequestHeader) (o : Option Slot) (r : Requested) → Laws ctx → Sound ctx given w → IsThere m (length given.switches)
    → is_request c.envelope ≡ true → asked w c.envelope.id ≡ Some c.envelope.payload → readable ctx c.envelope.payload ≡ Some h → AllByRecursion (SoundSlot ctx w) t.entries → slot_of c.envelope.id t.entries ≡ o
    → requested_by ctx t c.envelope h o ≡ Ok r → RoutedWell ctx given m c.envelope.id r
slot_for ctx given w m bytes c t h None r laws x there is asks reads all at e =
    subst (RoutedWell ctx given m c.envelope.id) (same_ok _ r e) (routed_for ctx given w m bytes c h (payer_for ctx c.envelope.id h) laws x there is asks reads refl)
slot_for ctx given w m bytes c t h (Some s) r laws x there is asks reads all at e =
    let p = cond_ok (bytes_eq s.request c.envelope.payload) (Ok (requested_again ctx t c.envelope h s.answer)) Refusal.NumberReused r e in
    let f : SoundSlot ctx w (c.envelope.id, s) = slot_found (SoundSlot ctx w) c.envelope.id t.entries s all at in
    subst (RoutedWell ctx given m c.envelope.id) (same_ok _ r p.1) (again_for ctx given w m bytes c t h s.answer laws x there is asks reads f.answer)

readable_for : (ctx : Context) (given : WorldSettings) (w : World) (m : ℕ) (bytes : List ℕ) (c : Carries ctx w bytes) (t : Table) (o : Option RequestHeader) (r : Requested) → Laws ctx → Sound ctx given w → IsThere m (length given.switches)
    → is_request c.envelope ≡ true → asked w c.envelope.id ≡ Some c.envelope.payload → readable ctx c.envelope.payload ≡ o → AllByRecursion (SoundSlot ctx w) t.entries → requested_readable ctx t c.envelope o ≡ Ok r → RoutedWell ctx given m c.envelope.id r
readable_for ctx given w m bytes c t None r laws x there is asks reads all e = absurd cc
readable_for ctx given w m bytes c t (Some h) r laws x there is asks reads all e = slot_for ctx given w m bytes c t h (slot_of c.envelope.id t.entries) r laws x there is asks reads all refl e

requested_for : (ctx : Context) (given : WorldSettings) (w : World) (m : ℕ) (bytes : List ℕ) (c : Carries ctx w bytes) (t : Table) (r : Requested) → Laws ctx → Sound ctx given w → IsThere m (length given.switches)
    → AllByRecursion (SoundSlot ctx w) t.entries → requested ctx t c.envelope ≡ Ok r → RoutedWell ctx given m c.envelope.id r
unfolding requested
requested_for ctx given w m bytes c t r laws x there all e =
    let p = cond_ok (is_request c.envelope) (requested_readable ctx t c.envelope (readable ctx c.envelope.payload)) Refusal.Unreadable r e in
    readable_for ctx given w m bytes c t (readable ctx c.envelope.payload) r laws x there p.0 (request_says ctx w bytes c p.0) refl all p.1

-- what a switch passes on is the response as it came
with_same : (ctx : Context) (t : Table) (e : Envelope) (o : Option (List ℕ)) (r : Responded) → responded_with ctx t e o ≡ Ok r → r.bytes ≡ ctx.envelope e
with_same ctx t e None r h = ap (λ (q : Responded). q.bytes) (sym (same_ok _ r h))
with_same ctx t e (Some held) r h = let p = cond_ok (bytes_eq held e.payload) _ Refusal.Differs r h in ap (λ (q : Responded). q.bytes) (sym (same_ok _ r p.1))

by_same : (ctx : Context) (t : Table) (e : Envelope) (o : Option Slot) (r : Responded) → responded_by ctx t e o ≡ Ok r → r.bytes ≡ ctx.envelope e
by_same ctx t e None r h = absurd cc
by_same ctx t e (Some s) r h = with_same ctx t e s.answer r h

read_same : (ctx : Context) (t : Table) (e : Envelope) (o : Option Answer) (r : Responded) → responded_readable ctx t e o ≡ Ok r → r.bytes ≡ ctx.envelope e
read_same ctx t e None r h = absurd cc
read_same ctx t e (Some a) r h = by_same ctx t e (slot_of e.id t.entries) r h

responded_same : (ctx : Context) (t : Table) (e : Envelope) (r : Responded) → responded ctx t e ≡ Ok r → (is_request e ≡ false) × (r.bytes ≡ ctx.envelope e)
unfolding responded
responded_same ctx t e r h =
    let p = cond_ok_not (is_request e) (responded_readable ctx t e (ctx.read_answer e.payload)) Refusal.Unreadable r h in (p.0, read_same ctx t e (ctx.read_answer e.payload) r p.1)

response_for : (ctx : Context) (given : WorldSettings) (w : World) (m : ℕ) (bytes : List ℕ) (c : Carries ctx w bytes) (out : List ℕ) → Laws ctx → is_request c.envelope ≡ false → out ≡ ctx.envelope c.envelope
    → SentWell ctx given (Switch m) (record { to = Pharmacy c.envelope.id.pharmacy; bytes = out })
response_for ctx given w m bytes c out laws is same e r =
    let back : c.envelope ≡ e = same_ok _ e (sym (laws.envelopes c.envelope c.fits) ∙ (ap ctx.read_envelope (sym same) ∙ r)) in
    subst (AnswerFor c.envelope.id.pharmacy) back (record { is_answer = is; own = refl })

request_out : (ctx : Context) (given : WorldSettings) (m : ℕ) (id : TxnId) (r : Result Requested Refusal) (next : Power Table ℕ) (out : List Sent) → ((q : Requested) → r ≡ Ok q → RoutedWell ctx given m id q)
    → after_request id r ≡ Done next out → AllByRecursion (SentWell ctx given (Switch m)) out
request_out ctx given m id (Err f) next out g e = absurd cc
request_out ctx given m id (Ok q) next out g e =
    subst (AllByRecursion (SentWell ctx given (Switch m))) (done_same (Up q.table) next (to_payer_or_back (Pharmacy id.pharmacy) q.routed ∷ []) out e).1 (g q refl, tt)

response_out : (ctx : Context) (given : WorldSettings) (m : ℕ) (id : TxnId) (r : Result Responded Refusal) (next : Power Table ℕ) (out : List Sent) → ((q : Responded) → r ≡ Ok q → SentWell ctx given (Switch m) (record { to = Pharmacy id.pharmacy; bytes = q.bytes }))
    → after_response id r ≡ Done next out → AllByRecursion (SentWell ctx given (Switch m)) out
response_out ctx given m id (Err f) next out g e = absurd cc
response_out ctx given m id (Ok q) next out g e =
    subst (AllByRecursion (SentWell ctx given (Switch m))) (done_same (Up q.table) next (record { to = Pharmacy id.pharmacy; bytes = q.bytes } ∷ []) out e).1 (g q refl, tt)

taken_out : (ctx : Context) (given : WorldSettings) (w : World) (m : ℕ) (bytes : List ℕ) (c : Carries ctx w bytes) (t : Table) (next : Power Table ℕ) (out : List Sent) (b : Bool) → Laws ctx → Sound ctx given w → IsThere m (length given.switches)
    → AllByRecursion (SoundSlot ctx w) t.entries → cond b (after_request c.envelope.id (requested ctx t c.envelope)) (after_response c.envelope.id (responded ctx t c.envelope)) ≡ Done next out → AllByRecursion (SentWell ctx given (Switch m)) out
taken_out ctx given w m bytes c t next out true laws x there all e =
    request_out ctx given m c.envelope.id (requested ctx t c.envelope) next out (λ q h. requested_for ctx given w m bytes c t q laws x there all h) e
taken_out ctx given w m bytes c t next out false laws x there all e =
    response_out ctx given m c.envelope.id (responded ctx t c.envelope) next out (λ q h. let s = responded_same ctx t c.envelope q h in response_for ctx given w m bytes c q.bytes laws s.0 s.1) e

pub switch_sends : (ctx : Context) (given : WorldSettings) (w : World) (m : ℕ) (s next : Power Table ℕ) (call : Call) (out : List Sent) → Laws ctx → Sound ctx given w → IsThere m (length given.switches) → SoundSwitch ctx w s
    → IsVouched ctx w call → switch_step ctx s call ≡ Done next out → AllByRecursion (SentWell ctx given (Switch m)) out
switch_sends ctx given w m (Up t) next (Take from bytes) out laws x there all c e =
    taken_out ctx given w m bytes c t next out (is_request c.envelope) laws x there all (ap (switch_takes ctx t) (sym (carries_reads ctx w bytes laws c)) ∙ e)
switch_sends ctx given w m (Up t) next Stop out laws x there all c e = subst (AllByRecursion (SentWell ctx given (Switch m))) (done_same (AtRest t.cap) next [] out e).1 tt
switch_sends ctx given w m (AtRest cap) next Start out laws x there all c e = subst (AllByRecursion (SentWell ctx given (Switch m))) (done_same (Up (record { cap = cap; entries = [] })) next [] out e).1 tt
switch_sends ctx given w m (Up t) next (Submit text) out laws x there all c e = absurd cc
switch_sends ctx given w m (Up t) next Tick out laws x there all c e = absurd cc
switch_sends ctx given w m (Up t) next Start out laws x there all c e = absurd cc
switch_sends ctx given w m (Up t) next (Revise change) out laws x there all c e = absurd cc
switch_sends ctx given w m (Up t) next (Adjudicate from bytes advice) out laws x there all c e = absurd cc
switch_sends ctx given w m (AtRest cap) next (Submit text) out laws x there all c e = absurd cc
switch_sends ctx given w m (AtRest cap) next Tick out laws x there all c e = absurd cc
switch_sends ctx given w m (AtRest cap) next (Take from bytes) out laws x there all c e = absurd cc
switch_sends ctx given w m (AtRest cap) next Stop out laws x there all c e = absurd cc
switch_sends ctx given w m (AtRest cap) next (Revise (OfPlan change)) out laws x there all c e = absurd cc
switch_sends ctx given w m (AtRest cap) next (Revise (OfRule rule)) out laws x there all c e = absurd cc
switch_sends ctx given w m (AtRest cap) next (Revise (OfCap most)) out laws x there all c e = subst (AllByRecursion (SentWell ctx given (Switch m))) (done_same (AtRest most) next [] out e).1 tt
switch_sends ctx given w m (AtRest cap) next (Adjudicate from bytes advice) out laws x there all c e = absurd cc

-- payers answer the switch that asked

from_switch : (ctx : Context) (given : WorldSettings) (n : ℕ) (from : Node) (bytes : List ℕ) → FromSwitch given from → SentWell ctx given (Payer n) (record { to = from; bytes = bytes })
from_switch ctx given n (Switch m) bytes f e r = f
from_switch ctx given n (Pharmacy m) bytes f e r = absurd f
from_switch ctx given n (Payer m) bytes f e r = absurd f

repriced_out : (ctx : Context) (given : WorldSettings) (n : ℕ) (b : Book) (r : Result Plan PlanFault) (next : Power Book Book) (out : List Sent) → after_reprice b r ≡ Done next out → AllByRecursion (SentWell ctx given (Payer n)) out
repriced_out ctx given n b (Err f) next out e = absurd cc
repriced_out ctx given n b (Ok plan) next out e =
    subst (AllByRecursion (SentWell ctx given (Payer n))) (done_same (Up (record { payer = b.payer; settings = b.settings; plan = plan; rows = b.rows })) next [] out e).1 tt

adjudicated_out : (ctx : Context) (given : WorldSettings) (w : World) (n : ℕ) (b : Book) (advice : Advice) (from : Node) (bytes : List ℕ) (next : Power Book Book) (out : List Sent) → Laws ctx → Carries ctx w bytes
    → IsForAll ctx given from (Payer n) bytes → payer_takes ctx b advice from (ctx.read_envelope bytes) ≡ Done next out → AllByRecursion (SentWell ctx given (Payer n)) out
adjudicated_out ctx given w n b advice from bytes next out laws c for_it e =
    let r = carries_reads ctx w bytes laws c in
    let t = takes_parts (is_request c.envelope) (after_answer ctx from c.envelope.id (answered ctx b advice c.envelope.id c.envelope.payload)) next out (ap (payer_takes ctx b advice from) (sym r) ∙ e) in
    let d = after_answer_done ctx from c.envelope.id (answered ctx b advice c.envelope.id c.envelope.payload) next out t.1 in
    subst (AllByRecursion (SentWell ctx given (Payer n))) d.3 (from_switch ctx given n from (ctx.envelope (answer_envelope c.envelope.id d.0.bytes)) (for_it c.envelope r).1, tt)

pub payer_sends : (ctx : Context) (given : WorldSettings) (w : World) (n : ℕ) (s next : Power Book Book) (call : Call) (out : List Sent) → Laws ctx → IsVouched ctx w call → CallIsFor ctx given (Payer n) call
    → payer_step ctx s call ≡ Done next out → AllByRecursion (SentWell ctx given (Payer n)) out
payer_sends ctx given w n (Up b) next (Take from bytes) out laws c for_it e = adjudicated_out ctx given w n b unadvised from bytes next out laws c for_it e
payer_sends ctx given w n (Up b) next (Adjudicate from bytes advice) out laws c for_it e =
    adjudicated_out ctx given w n b (advice_in ctx advice) from bytes next out laws c for_it (asked_first b.settings.asks _ next out e).1
payer_sends ctx given w n (Up b) next Stop out laws c for_it e = subst (AllByRecursion (SentWell ctx given (Payer n))) (done_same (AtRest b) next [] out e).1 tt
payer_sends ctx given w n (Up b) next (Revise (OfPlan change)) out laws c for_it e = repriced_out ctx given n b (ctx.reprice b.plan change) next out e
payer_sends ctx given w n (Up b) next (Revise (OfRule rule)) out laws c for_it e = absurd cc
payer_sends ctx given w n (Up b) next (Revise (OfCap most)) out laws c for_it e = absurd cc
payer_sends ctx given w n (AtRest b) next Start out laws c for_it e = subst (AllByRecursion (SentWell ctx given (Payer n))) (done_same (Up b) next [] out e).1 tt
payer_sends ctx given w n (Up b) next (Submit text) out laws c for_it e = absurd cc
payer_sends ctx given w n (Up b) next Tick out laws c for_it e = absurd cc
payer_sends ctx given w n (Up b) next Start out laws c for_it e = absurd cc
payer_sends ctx given w n (AtRest b) next (Submit text) out laws c for_it e = absurd cc
payer_sends ctx given w n (AtRest b) next Tick out laws c for_it e = absurd cc
payer_sends ctx given w n (AtRest b) next (Take from bytes) out laws c for_it e = absurd cc
payer_sends ctx given w n (AtRest b) next Stop out laws c for_it e = absurd cc
payer_sends ctx given w n (AtRest b) next (Revise (OfPlan change)) out laws c for_it e = absurd cc
payer_sends ctx given w n (AtRest b) next (Revise (OfRule rule)) out laws c for_it e = absurd cc
payer_sends ctx given w n (AtRest b) next (Revise (OfCap most)) out laws c for_it e = absurd cc
payer_sends ctx given w n (AtRest b) next (Adjudicate from bytes advice) out laws c for_it e = absurd cc
