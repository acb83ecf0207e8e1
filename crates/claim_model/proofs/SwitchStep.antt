-- A switch's step keeps a world sound.
use Rattle.std.proofs.Common.{◌≡◌, ℕ, Bool, true, false, cond, List, [], ◌∷◌, drop, length, Option, Some, None, Result, Ok, Err, refl, sym, ap, ◌∙◌, subst, inl, inr}
use Rattle.std.specs.Prelude.{bytes_eq, nat_lt}
use Rattle.std.specs.List.{AllByRecursion}
use Rattle.claim_model.specs.Words.{TxnId, RequestHeader, Kind, Request, Response, Envelope, Answer}
use Rattle.claim_model.specs.Context.{Context}
use Rattle.claim_model.specs.Laws.{Laws}
use Rattle.claim_model.specs.Readable.{readable, payer_for, rejection, same_id, answer_envelope, is_request}
use Rattle.claim_model.specs.Refusal.{Refusal}
use Rattle.claim_model.specs.Numbered.{numbered}
use Rattle.claim_model.specs.Table.{Slot, Table, Routed, Forward, Back, Requested, slot_of, routed_by, requested_again, entered_where, requested_by, requested_readable, requested, Responded, responded_with, responded_by, responded_readable, responded}
use Rattle.claim_model.specs.Node.{Node, Power, Up, AtRest, Sent, Call, Submit, Tick, Take, Stop, Start, Revise, OfPlan, OfRule, OfCap, Adjudicate, Done, to_payer_or_back, after_request, after_response, switch_takes, switch_step}
use Rattle.claim_model.specs.World.{World, packet_from}
use Rattle.claim_model.specs.Settings.{WorldSettings}
use Rattle.claim_model.specs.Held.{asked, decided}
use Rattle.claim_model.specs.Carried.{Says, Carries, IsVouched}
use Rattle.claim_model.proofs.Lists.{find_cases, all_append, all_cond, all_drop, all_map}
use Rattle.claim_model.proofs.Options.{same_ok, cond_ok, cond_ok_not}
use Rattle.claim_model.proofs.Tests.{id_same}
use Rattle.claim_model.proofs.Sound.{SoundSlot, SoundSwitch, SoundPacket, Sound, Later, with_switch, switch_step_later, switch_later, carries_later, sound_switch}
use Rattle.claim_model.proofs.Decided.{origin, decided_unrouted}
use Rattle.claim_model.proofs.PharmacyStep.{carries_reads, Kept_sound, says_response, done_same}

says_request : (ctx : Context) (w : World) (id : TxnId) (payload : List ℕ) (k : Kind) → elim k [ Request ↦ true | Response ↦ false ] ≡ true → Says ctx w id payload k → asked w id ≡ Some payload
says_request ctx w id payload Request e s = s
says_request ctx w id payload Response e s = absurd cc

-- an envelope that is a request says what was asked
pub request_says : (ctx : Context) (w : World) (bytes : List ℕ) (c : Carries ctx w bytes) → is_request c.envelope ≡ true → asked w c.envelope.id ≡ Some c.envelope.payload
request_says ctx w bytes c e = says_request ctx w c.envelope.id c.envelope.payload c.envelope.kind e c.says

-- an envelope that is an answer says what was decided
pub response_says : (ctx : Context) (w : World) (bytes : List ℕ) (c : Carries ctx w bytes) → is_request c.envelope ≡ false → decided ctx w c.envelope.id ≡ Some c.envelope.payload
response_says ctx w bytes c e = says_response ctx w c.envelope.id c.envelope.payload c.envelope.kind e c.says

-- what was decided for the id of an envelope may be sent
pub carries_answer : (ctx : Context) (given : WorldSettings) (w : World) (bytes : List ℕ) (c : Carries ctx w bytes) (a : List ℕ) → Laws ctx → Sound ctx given w → decided ctx w c.envelope.id ≡ Some a
    → Carries ctx w (ctx.envelope (answer_envelope c.envelope.id a))
carries_answer ctx given w bytes c a laws x d =
    let o = origin ctx given w c.envelope.id a laws x d in
    record {
      envelope = answer_envelope c.envelope.id a;
      fits = record { pharmacy = c.fits.pharmacy; pharmacy_fits = c.fits.pharmacy_fits; number = c.fits.number; number_fits = c.fits.number_fits; payload = o.0.spells.short };
      spells = refl;
      says = d;
    }

-- a packet goes on as it is
carries_same : (ctx : Context) (w : World) (bytes : List ℕ) (c : Carries ctx w bytes) → Carries ctx w (ctx.envelope c.envelope)
carries_same ctx w bytes c = record { envelope = c.envelope; fits = c.fits; spells = refl; says = c.says }

abbrev pub routed_bytes : Routed → List ℕ
routed_bytes (Forward payer bytes) = bytes
routed_bytes (Back bytes) = bytes

-- the slot that is found is sound, and has the id
pub slot_found : (P : TxnId × Slot → Type 0) (id : TxnId) (es : List (TxnId × Slot)) (s : Slot) → AllByRecursion P es → slot_of id es ≡ Some s → P (id, s)
slot_found P id [] s all e = absurd cc
slot_found P id (x ∷ es) s all e =
    elim (find_cases (same_id id x.0) x.1 s (slot_of id es) e) [
      | inl h ↦ subst (λ y. P (id, y)) h.1 (subst (λ y. P (y, x.1)) (sym (id_same id x.0 h.0)) all.0)
      | inr h ↦ slot_found P id es s all.1 h.1
    ]

-- a table and what is sent, sound in a world
pub record SoundRequested (ctx : Context) (w : World) (r : Requested) : Type 0 where
  pub table : AllByRecursion (SoundSlot ctx w) r.table.entries
  pub sent : Carries ctx w (routed_bytes r.routed)

entered_sound : (ctx : Context) (w : World) (t : Table) (e : Envelope) (o : Option ℕ) → asked w e.id ≡ Some e.payload → AllByRecursion (SoundSlot ctx w) t.entries
    → AllByRecursion (SoundSlot ctx w) (entered_where t e o).entries
entered_sound ctx w t e None asks all = all
entered_sound ctx w t e (Some n) asks all =
    all_append (SoundSlot ctx w) _ _ (all_cond (SoundSlot ctx w) (nat_lt (length t.entries) t.cap) t.entries (drop 1 t.entries) all (all_drop (SoundSlot ctx w) 1 t.entries all))
    (record { asks = asks; answer = λ a h. absurd cc }, tt)

routed_carries : (ctx : Context) (given : WorldSettings) (w : World) (bytes : List ℕ) (c : Carries ctx w bytes) (h : RequestHeader) (o : Option ℕ) → Laws ctx → Sound ctx given w
    → asked w c.envelope.id ≡ Some c.envelope.payload → readable ctx c.envelope.payload ≡ Some h → payer_for ctx c.envelope.id h ≡ o → Carries ctx w (routed_bytes (routed_by ctx c.envelope h o))
routed_carries ctx given w bytes c h None laws x asks reads route = carries_answer ctx given w bytes c (rejection ctx h) laws x (decided_unrouted ctx w c.envelope.id c.envelope.payload h asks reads route)
routed_carries ctx given w bytes c h (Some n) laws x asks reads route = carries_same ctx w bytes c

again_sound : (ctx : Context) (given : WorldSettings) (w : World) (bytes : List ℕ) (c : Carries ctx w bytes) (t : Table) (h : RequestHeader) (o : Option (List ℕ)) → Laws ctx → Sound ctx given w
    → asked w c.envelope.id ≡ Some c.envelope.payload → readable ctx c.envelope.payload ≡ Some h → AllByRecursion (SoundSlot ctx w) t.entries
    → ((a : List ℕ) → o ≡ Some a → decided ctx w c.envelope.id ≡ Some a) → SoundRequested ctx w (requested_again ctx t c.envelope h o)
again_sound ctx given w bytes c t h (Some a) laws x asks reads all d = record { table = all; sent = carries_answer ctx given w bytes c a laws x (d a refl) }
again_sound ctx given w bytes c t h None laws x asks reads all d = record { table = all; sent = routed_carries ctx given w bytes c h (payer_for ctx c.envelope.id h) laws x asks reads refl }

by_slot_sound : (ctx : Context) (given : WorldSettings) (w : World) (bytes : List ℕ) (c : Carries ctx w bytes) (t : Table) (h : RequestHeader) (o : Option Slot) (r : Requested) → Laws ctx → Sound ctx given w
    → asked w c.envelope.id ≡ Some c.envelope.payload → readable ctx c.envelope.payload ≡ Some h → AllByRecursion (SoundSlot ctx w) t.entries → slot_of c.envelope.id t.entries ≡ o
    → requested_by ctx t c.envelope h o ≡ Ok r → SoundRequested ctx w r
by_slot_sound ctx given w bytes c t h None r laws x asks reads all is e =
    subst (SoundRequested ctx w) (same_ok _ r e)
    (record { table = entered_sound ctx w t c.envelope (payer_for ctx c.envelope.id h) asks all; sent = routed_carries ctx given w bytes c h (payer_for ctx c.envelope.id h) laws x asks reads refl })
by_slot_sound ctx given w bytes c t h (Some s) r laws x asks reads all is e =
    let p = cond_ok (bytes_eq s.request c.envelope.payload) (Ok (requested_again ctx t c.envelope h s.answer)) Refusal.NumberReused r e in
    let f : SoundSlot ctx w (c.envelope.id, s) = slot_found (SoundSlot ctx w) c.envelope.id t.entries s all is in
    subst (SoundRequested ctx w) (same_ok _ r p.1) (again_sound ctx given w bytes c t h s.answer laws x asks reads all f.answer)

readable_sound : (ctx : Context) (given : WorldSettings) (w : World) (bytes : List ℕ) (c : Carries ctx w bytes) (t : Table) (o : Option RequestHeader) (r : Requested) → Laws ctx → Sound ctx given w
    → asked w c.envelope.id ≡ Some c.envelope.payload → readable ctx c.envelope.payload ≡ o → AllByRecursion (SoundSlot ctx w) t.entries
    → requested_readable ctx t c.envelope o ≡ Ok r → SoundRequested ctx w r
readable_sound ctx given w bytes c t None r laws x asks reads all e = absurd cc
readable_sound ctx given w bytes c t (Some h) r laws x asks reads all e =
    by_slot_sound ctx given w bytes c t h (slot_of c.envelope.id t.entries) r laws x asks reads all refl e

requested_sound : (ctx : Context) (given : WorldSettings) (w : World) (bytes : List ℕ) (c : Carries ctx w bytes) (t : Table) (r : Requested) → Laws ctx → Sound ctx given w
    → AllByRecursion (SoundSlot ctx w) t.entries → requested ctx t c.envelope ≡ Ok r → SoundRequested ctx w r
unfolding requested
requested_sound ctx given w bytes c t r laws x all e =
    let p = cond_ok (is_request c.envelope) (requested_readable ctx t c.envelope (readable ctx c.envelope.payload)) Refusal.Unreadable r e in
    readable_sound ctx given w bytes c t (readable ctx c.envelope.payload) r laws x (request_says ctx w bytes c p.0) refl all p.1

-- responses

pub record SoundResponded (ctx : Context) (w : World) (r : Responded) : Type 0 where
  pub table : AllByRecursion (SoundSlot ctx w) r.table.entries
  pub sent : Carries ctx w r.bytes

filled_slot : (ctx : Context) (w : World) (id : TxnId) (a : List ℕ) → decided ctx w id ≡ Some a → (e : TxnId × Slot) → SoundSlot ctx w e
    → (b : Bool) → same_id id e.0 ≡ b → SoundSlot ctx w (cond b (e.0, record { request = e.1.request; answer = Some a }) e)
filled_slot ctx w id a d e s true is =
    record { asks = s.asks; answer = λ x h. subst (λ (y : TxnId). decided ctx w y ≡ Some x) (id_same id e.0 is) (d ∙ h) }
filled_slot ctx w id a d e s false is = s

with_sound : (ctx : Context) (w : World) (bytes : List ℕ) (c : Carries ctx w bytes) (t : Table) (o : Option (List ℕ)) (r : Responded)
    → decided ctx w c.envelope.id ≡ Some c.envelope.payload → AllByRecursion (SoundSlot ctx w) t.entries → responded_with ctx t c.envelope o ≡ Ok r → SoundResponded ctx w r
with_sound ctx w bytes c t None r d all e =
    subst (SoundResponded ctx w) (same_ok _ r e)
    (record { table = all_map (SoundSlot ctx w) (SoundSlot ctx w) _ (λ f s. filled_slot ctx w c.envelope.id c.envelope.payload d f s (same_id c.envelope.id f.0) refl) t.entries all; sent = carries_same ctx w bytes c })
with_sound ctx w bytes c t (Some held) r d all e =
    let p = cond_ok (bytes_eq held c.envelope.payload) (Ok (record { table = t; bytes = ctx.envelope c.envelope })) Refusal.Differs r e in
    subst (SoundResponded ctx w) (same_ok _ r p.1) (record { table = all; sent = carries_same ctx w bytes c })

by_sound : (ctx : Context) (w : World) (bytes : List ℕ) (c : Carries ctx w bytes) (t : Table) (o : Option Slot) (r : Responded)
    → decided ctx w c.envelope.id ≡ Some c.envelope.payload → AllByRecursion (SoundSlot ctx w) t.entries → responded_by ctx t c.envelope o ≡ Ok r → SoundResponded ctx w r
by_sound ctx w bytes c t None r d all e = absurd cc
by_sound ctx w bytes c t (Some s) r d all e = with_sound ctx w bytes c t s.answer r d all e

answer_sound : (ctx : Context) (w : World) (bytes : List ℕ) (c : Carries ctx w bytes) (t : Table) (o : Option Answer) (r : Responded)
    → decided ctx w c.envelope.id ≡ Some c.envelope.payload → AllByRecursion (SoundSlot ctx w) t.entries → responded_readable ctx t c.envelope o ≡ Ok r → SoundResponded ctx w r
answer_sound ctx w bytes c t None r d all e = absurd cc
answer_sound ctx w bytes c t (Some a) r d all e = by_sound ctx w bytes c t (slot_of c.envelope.id t.entries) r d all e

responded_sound : (ctx : Context) (w : World) (bytes : List ℕ) (c : Carries ctx w bytes) (t : Table) (r : Responded)
    → AllByRecursion (SoundSlot ctx w) t.entries → responded ctx t c.envelope ≡ Ok r → SoundResponded ctx w r
unfolding responded
responded_sound ctx w bytes c t r all e =
    let p = cond_ok_not (is_request c.envelope) (responded_readable ctx t c.envelope (ctx.read_answer c.envelope.payload)) Refusal.Unreadable r e in
    answer_sound ctx w bytes c t (ctx.read_answer c.envelope.payload) r (response_says ctx w bytes c p.0) all p.1

-- all calls

-- what a switch is after a call, and what it sent
pub record SoundTaken (ctx : Context) (w : World) (next : Power Table ℕ) (out : List Sent) : Type 0 where
  pub table : SoundSwitch ctx w next
  pub sent : AllByRecursion (λ (s : Sent). Carries ctx w s.bytes) out

routed_to : (ctx : Context) (w : World) (node : Node) (r : Routed) → Carries ctx w (routed_bytes r) → Carries ctx w (to_payer_or_back node r).bytes
routed_to ctx w node (Forward payer bytes) c = c
routed_to ctx w node (Back bytes) c = c

request_taken : (ctx : Context) (w : World) (id : TxnId) (r : Result Requested Refusal) (next : Power Table ℕ) (sent : List Sent) → ((q : Requested) → r ≡ Ok q → SoundRequested ctx w q)
    → after_request id r ≡ Done next sent → SoundTaken ctx w next sent
request_taken ctx w id (Err f) next sent s e = absurd cc
request_taken ctx w id (Ok q) next sent s e =
    let d = done_same (Up q.table) next (to_payer_or_back (Node.Pharmacy id.pharmacy) q.routed ∷ []) sent e in
    let x = s q refl in
    record { table = subst (SoundSwitch ctx w) d.0 x.table; sent = subst (AllByRecursion (λ (t : Sent). Carries ctx w t.bytes)) d.1 (routed_to ctx w (Node.Pharmacy id.pharmacy) q.routed x.sent, tt) }

response_taken : (ctx : Context) (w : World) (id : TxnId) (r : Result Responded Refusal) (next : Power Table ℕ) (sent : List Sent) → ((q : Responded) → r ≡ Ok q → SoundResponded ctx w q)
    → after_response id r ≡ Done next sent → SoundTaken ctx w next sent
response_taken ctx w id (Err f) next sent s e = absurd cc
response_taken ctx w id (Ok q) next sent s e =
    let d = done_same (Up q.table) next (record { to = Node.Pharmacy id.pharmacy; bytes = q.bytes } ∷ []) sent e in
    let x = s q refl in
    record { table = subst (SoundSwitch ctx w) d.0 x.table; sent = subst (AllByRecursion (λ (t : Sent). Carries ctx w t.bytes)) d.1 (x.sent, tt) }

taken_by : (ctx : Context) (given : WorldSettings) (w : World) (bytes : List ℕ) (c : Carries ctx w bytes) (t : Table) (next : Power Table ℕ) (sent : List Sent) (b : Bool) → Laws ctx → Sound ctx given w
    → AllByRecursion (SoundSlot ctx w) t.entries → cond b (after_request c.envelope.id (requested ctx t c.envelope)) (after_response c.envelope.id (responded ctx t c.envelope)) ≡ Done next sent → SoundTaken ctx w next sent
taken_by ctx given w bytes c t next sent true laws x all e =
    request_taken ctx w c.envelope.id (requested ctx t c.envelope) next sent (λ q h. requested_sound ctx given w bytes c t q laws x all h) e
taken_by ctx given w bytes c t next sent false laws x all e =
    response_taken ctx w c.envelope.id (responded ctx t c.envelope) next sent (λ q h. responded_sound ctx w bytes c t q all h) e

taken : (ctx : Context) (given : WorldSettings) (w : World) (s next : Power Table ℕ) (call : Call) (sent : List Sent) → Laws ctx → Sound ctx given w → SoundSwitch ctx w s → IsVouched ctx w call
    → switch_step ctx s call ≡ Done next sent → SoundTaken ctx w next sent
taken ctx given w (Up t) next (Take from bytes) sent laws x all c e =
    taken_by ctx given w bytes c t next sent (is_request c.envelope) laws x all (ap (switch_takes ctx t) (sym (carries_reads ctx w bytes laws c)) ∙ e)
taken ctx given w (Up t) next Stop sent laws x all c e =
    let d = done_same (AtRest t.cap) next [] sent e in
    record { table = subst (SoundSwitch ctx w) d.0 tt; sent = subst (AllByRecursion (λ (q : Sent). Carries ctx w q.bytes)) d.1 tt }
taken ctx given w (AtRest cap) next Start sent laws x all c e =
    let d = done_same (Up (record { cap = cap; entries = [] })) next [] sent e in
    record { table = subst (SoundSwitch ctx w) d.0 tt; sent = subst (AllByRecursion (λ (q : Sent). Carries ctx w q.bytes)) d.1 tt }
taken ctx given w (Up t) next (Submit text) sent laws x all c e = absurd cc
taken ctx given w (Up t) next Tick sent laws x all c e = absurd cc
taken ctx given w (Up t) next Start sent laws x all c e = absurd cc
taken ctx given w (Up t) next (Revise change) sent laws x all c e = absurd cc
taken ctx given w (Up t) next (Adjudicate from bytes advice) sent laws x all c e = absurd cc
taken ctx given w (AtRest cap) next (Submit text) sent laws x all c e = absurd cc
taken ctx given w (AtRest cap) next Tick sent laws x all c e = absurd cc
taken ctx given w (AtRest cap) next (Take from bytes) sent laws x all c e = absurd cc
taken ctx given w (AtRest cap) next Stop sent laws x all c e = absurd cc
taken ctx given w (AtRest cap) next (Revise (OfPlan change)) sent laws x all c e = absurd cc
taken ctx given w (AtRest cap) next (Revise (OfRule rule)) sent laws x all c e = absurd cc
taken ctx given w (AtRest cap) next (Revise (OfCap most)) sent laws x all c e =
    let d = done_same (AtRest most) next [] sent e in
    record { table = subst (SoundSwitch ctx w) d.0 tt; sent = subst (AllByRecursion (λ (q : Sent). Carries ctx w q.bytes)) d.1 tt }
taken ctx given w (AtRest cap) next (Adjudicate from bytes advice) sent laws x all c e = absurd cc

pub switch_sound : (ctx : Context) (given : WorldSettings) (w : World) (n : ℕ) (s next : Power Table ℕ) (call : Call) (sent : List Sent)
    → Laws ctx → Sound ctx given w → numbered w.switches n ≡ Some s → IsVouched ctx w call → switch_step ctx s call ≡ Done next sent
    → Kept_sound ctx given w (with_switch w n next sent)
switch_sound ctx given w n s next call sent laws x is c e =
    let v : World = with_switch w n next sent in
    let l : Later ctx w v = switch_step_later ctx w n next sent in
    let t : SoundTaken ctx w next sent = taken ctx given w s next call sent laws x (x.switches n s is) c e in
    record {
      sound =
          sound_switch ctx given w n s next sent x is (switch_later ctx w v l next t.table)
          (all_map (λ (q : Sent). Carries ctx w q.bytes) (SoundPacket ctx v) (packet_from (Node.Switch n)) (λ q h. carries_later ctx w v l q.bytes h) sent t.sent);
      later = l;
    }
