-- What a switch sends was sent to it, or is the fixed rejection.
use Rattle.std.proofs.Common.{◌≡◌, ℕ, Bool, true, false, cond, List, [], ◌∷◌, drop, length, nat_lt, Option, Some, None, Ok, Err, refl, sym, ap, ◌∙◌, subst}
use Rattle.std.specs.Prelude.{bytes_eq}
use Rattle.std.specs.List.{AllByRecursion}
use Rattle.claim_model.specs.Words.{TxnId, RequestHeader, Kind, Request, Response, Envelope, Answer}
use Rattle.claim_model.specs.Context.{Context}
use Rattle.claim_model.specs.Laws.{Laws}
use Rattle.claim_model.specs.declared.refusal.Refusal.{Refusal}
use Rattle.claim_model.specs.Readable.{readable, payer_for, same_id, is_request, answer_envelope}
use Rattle.claim_model.specs.Table.{Slot, Table, Routed, Requested, slot_of, entered_where, routed_by, requested_again, requested_by, requested_readable, requested, filled, responded_with, responded_by, responded_readable, responded}
use Rattle.claim_model.specs.Node.{Node, Pharmacy, Switch, Payer, Power, Up, AtRest, Sent, Call, Submit, Tick, Take, Stop, Start, Revise, OfPlan, OfRule, OfCap, Adjudicate, Done, to_payer_or_back, after_request, after_response, switch_takes, switch_step}
use Rattle.claim_model.specs.World.{World, Packet}
use Rattle.claim_model.proofs.Lists.{all_append, all_cond, all_drop, all_map}
use Rattle.claim_model.proofs.Options.{same_some}
use Rattle.claim_model.proofs.Tests.{id_same}
use Rattle.claim_model.proofs.PharmacyStep.{carries_reads, done_same}
use Rattle.claim_model.proofs.SwitchStep.{slot_found}
use Rattle.crash_safety.specs.Runs.{IsAmong}
use Rattle.crash_safety.specs.Explained.{packet, Answer as Heard_answer, Rejection as Heard_rejection}
use Rattle.crash_safety.proofs.Tracked.{TrackedFrom, SlotSource, TableSource, CallTracked, SentTracked}

-- ---- what switches send

-- what a switch is after a call, and what it sent
pub record SwitchTracked (ctx : Context) (packets : List Packet) (m : ℕ) (next : Power Table ℕ) (sent : List Sent) : Type 0 where
  pub table : TableSource ctx packets m next
  pub sends : AllByRecursion (SentTracked ctx packets (Switch m)) sent

-- a request
module _ (ctx : Context) (packets : List Packet) (m k : ℕ) (bytes : List ℕ) (e : Envelope) (among : IsAmong packets (packet (Pharmacy k) (Switch m) bytes)) (reads : ctx.read_envelope bytes ≡ Ok e) (spells : bytes ≡ ctx.envelope e)
    (asks : is_request e ≡ true) (own : e.id.pharmacy ≡ k) where
  RoutedTracked : Routed → Type 0
  RoutedTracked r = SentTracked ctx packets (Switch m) (to_payer_or_back (Pharmacy e.id.pharmacy) r)

  routed_tracked : (h : RequestHeader) (o : Option ℕ) → readable ctx e.payload ≡ Some h → payer_for ctx e.id h ≡ o → SentTracked ctx packets (Switch m) (to_payer_or_back (Pharmacy e.id.pharmacy) (routed_by ctx e h o))
  routed_tracked h None r route = Heard_rejection bytes e h (subst (λ (n : ℕ). IsAmong packets (packet (Pharmacy n) (Switch m) bytes)) (sym own) among) reads asks r route refl
  routed_tracked h (Some n) r route = (k, subst (λ (b : List ℕ). IsAmong packets (packet (Pharmacy k) (Switch m) b)) spells among)

  again_tracked : (t : Table) (h : RequestHeader) (o : Option (List ℕ)) → readable ctx e.payload ≡ Some h → ((a : List ℕ) → o ≡ Some a → (n : ℕ) × IsAmong packets (packet (Payer n) (Switch m) (ctx.envelope (answer_envelope e.id a))))
      → SentTracked ctx packets (Switch m) (to_payer_or_back (Pharmacy e.id.pharmacy) (requested_again ctx t e h o).routed)
  again_tracked t h (Some a) r f = let x = f a refl in Heard_answer x.0 x.1
  again_tracked t h None r f = routed_tracked h (payer_for ctx e.id h) r refl

  same_table : (t : Table) (h : RequestHeader) (o : Option (List ℕ)) → (requested_again ctx t e h o).table ≡ t
  same_table t h (Some a) = refl
  same_table t h None = refl

  entered_tracked : (t : Table) (o : Option ℕ) → AllByRecursion (SlotSource ctx packets m) t.entries → AllByRecursion (SlotSource ctx packets m) (entered_where t e o).entries
  entered_tracked t None all = all
  entered_tracked t (Some n) all =
      all_append (SlotSource ctx packets m) (cond (nat_lt (length t.entries) t.cap) t.entries (drop 1 t.entries)) ((e.id, record { request = e.payload; answer = None }) ∷ [])
      (all_cond (SlotSource ctx packets m) (nat_lt (length t.entries) t.cap) t.entries (drop 1 t.entries) all (all_drop (SlotSource ctx packets m) 1 t.entries all))
      (λ a h. absurd cc, tt)

  request_after : (t : Table) (r : Requested) (next : Power Table ℕ) (sent : List Sent) → AllByRecursion (SlotSource ctx packets m) r.table.entries → SentTracked ctx packets (Switch m) (to_payer_or_back (Pharmacy e.id.pharmacy) r.routed)
      → after_request e.id (Ok r) ≡ Done next sent → SwitchTracked ctx packets m next sent
  request_after t r next sent all x d =
      let f = done_same (Up r.table) next (to_payer_or_back (Pharmacy e.id.pharmacy) r.routed ∷ []) sent d in
      record { table = subst (TableSource ctx packets m) f.0 all; sends = subst (AllByRecursion (SentTracked ctx packets (Switch m))) f.1 (x, tt) }

  slot_tracked : (t : Table) (h : RequestHeader) (o : Option Slot) (next : Power Table ℕ) (sent : List Sent) → AllByRecursion (SlotSource ctx packets m) t.entries → readable ctx e.payload ≡ Some h → slot_of e.id t.entries ≡ o
      → after_request e.id (requested_by ctx t e h o) ≡ Done next sent → SwitchTracked ctx packets m next sent
  slot_tracked t h None next sent all r is d =
      request_after t (record { table = entered_where t e (payer_for ctx e.id h); routed = routed_by ctx e h (payer_for ctx e.id h) }) next sent (entered_tracked t (payer_for ctx e.id h) all) (routed_tracked h (payer_for ctx e.id h) r refl) d
  slot_tracked t h (Some slot) next sent all r is d = by_test (bytes_eq slot.request e.payload) d
    where
      by_test : (b : Bool) → after_request e.id (cond b (Ok (requested_again ctx t e h slot.answer)) (Err Refusal.NumberReused)) ≡ Done next sent → SwitchTracked ctx packets m next sent
      by_test false f = absurd cc
      by_test true f =
          request_after t (requested_again ctx t e h slot.answer) next sent (subst (λ (u : Table). AllByRecursion (SlotSource ctx packets m) u.entries) (sym (same_table t h slot.answer)) all)
          (again_tracked t h slot.answer r (slot_found (SlotSource ctx packets m) e.id t.entries slot all is)) f

  header_tracked : (t : Table) (o : Option RequestHeader) (next : Power Table ℕ) (sent : List Sent) → AllByRecursion (SlotSource ctx packets m) t.entries → readable ctx e.payload ≡ o
      → after_request e.id (requested_readable ctx t e o) ≡ Done next sent → SwitchTracked ctx packets m next sent
  header_tracked t None next sent all r d = absurd cc
  header_tracked t (Some h) next sent all r d = slot_tracked t h (slot_of e.id t.entries) next sent all r refl d

  request_tracked : (t : Table) (next : Power Table ℕ) (sent : List Sent) → AllByRecursion (SlotSource ctx packets m) t.entries → after_request e.id (requested ctx t e) ≡ Done next sent → SwitchTracked ctx packets m next sent
  unfolding requested
  request_tracked t next sent all d =
      header_tracked t (readable ctx e.payload) next sent all refl
      (sym (ap (λ (b : Bool). after_request e.id (cond b (requested_readable ctx t e (readable ctx e.payload)) (Err Refusal.Unreadable))) asks) ∙ d)

-- an answer
module _ (ctx : Context) (packets : List Packet) (m k : ℕ) (bytes : List ℕ) (e : Envelope) (among : IsAmong packets (packet (Payer k) (Switch m) bytes)) (spells : bytes ≡ ctx.envelope e) (answers_it : is_request e ≡ false) where
  as_answer : (f : Envelope) → is_request f ≡ false → f ≡ answer_envelope f.id f.payload
  as_answer f is = by_kind f.kind f.id f.payload is
    where
      by_kind : (kind : Kind) (id : TxnId) (payload : List ℕ) → elim kind [ Request ↦ true | Response ↦ false ] ≡ false → ◌≡◌ {A = Envelope} (record { kind = kind; id = id; payload = payload }) (answer_envelope id payload)
      by_kind Request id payload is = absurd cc
      by_kind Response id payload is = refl

  there : IsAmong packets (packet (Payer k) (Switch m) (ctx.envelope e))
  there = subst (λ (b : List ℕ). IsAmong packets (packet (Payer k) (Switch m) b)) spells among

  filled_one : (b : Bool) (x : TxnId × Slot) → same_id e.id x.0 ≡ b → SlotSource ctx packets m x → SlotSource ctx packets m (cond b (x.0, record { request = x.1.request; answer = Some e.payload }) x)
  filled_one false x is f = f
  filled_one true x is f = λ a h.
      let same : e.id ≡ x.0 = id_same e.id x.0 is in
      let pay : e.payload ≡ a = same_some e.payload a h in (
        k,
        subst (λ (b : List ℕ). IsAmong packets (packet (Payer k) (Switch m) b))
            (ap ctx.envelope (as_answer e answers_it) ∙ (ap (λ (id : TxnId). ctx.envelope (answer_envelope id e.payload)) same ∙ ap (λ (q : List ℕ). ctx.envelope (answer_envelope x.0 q)) pay)) there,
      )

  filled_tracked : (t : Table) → AllByRecursion (SlotSource ctx packets m) t.entries → AllByRecursion (SlotSource ctx packets m) (filled t e.id e.payload).entries
  filled_tracked t all =
      all_map (SlotSource ctx packets m) (SlotSource ctx packets m) (λ (x : TxnId × Slot). cond (same_id e.id x.0) (x.0, record { request = x.1.request; answer = Some e.payload }) x)
      (λ x f. filled_one (same_id e.id x.0) x refl f) t.entries all

  response_after : (t : Table) (next : Power Table ℕ) (sent : List Sent) → AllByRecursion (SlotSource ctx packets m) t.entries → after_response e.id (Ok (record { table = t; bytes = ctx.envelope e })) ≡ Done next sent → SwitchTracked ctx packets m next sent
  response_after t next sent all d =
      let out : Sent = record { to = Pharmacy e.id.pharmacy; bytes = ctx.envelope e } in
      let f = done_same (Up t) next (out ∷ []) sent d in
      let x : SentTracked ctx packets (Switch m) out = Heard_answer k there in
      record { table = subst (TableSource ctx packets m) f.0 all; sends = subst (AllByRecursion (SentTracked ctx packets (Switch m))) f.1 (x, tt) }

  with_tracked : (t : Table) (o : Option (List ℕ)) (next : Power Table ℕ) (sent : List Sent) → AllByRecursion (SlotSource ctx packets m) t.entries → after_response e.id (responded_with ctx t e o) ≡ Done next sent → SwitchTracked ctx packets m next sent
  with_tracked t None next sent all d = response_after (filled t e.id e.payload) next sent (filled_tracked t all) d
  with_tracked t (Some held) next sent all d = by_test (bytes_eq held e.payload) d
    where
      by_test : (b : Bool) → after_response e.id (cond b (Ok (record { table = t; bytes = ctx.envelope e })) (Err Refusal.Differs)) ≡ Done next sent → SwitchTracked ctx packets m next sent
      by_test false f = absurd cc
      by_test true f = response_after t next sent all f

  by_tracked : (t : Table) (o : Option Slot) (next : Power Table ℕ) (sent : List Sent) → AllByRecursion (SlotSource ctx packets m) t.entries → after_response e.id (responded_by ctx t e o) ≡ Done next sent → SwitchTracked ctx packets m next sent
  by_tracked t None next sent all d = absurd cc
  by_tracked t (Some slot) next sent all d = with_tracked t slot.answer next sent all d

  answer_tracked : (t : Table) (o : Option Answer) (next : Power Table ℕ) (sent : List Sent) → AllByRecursion (SlotSource ctx packets m) t.entries → after_response e.id (responded_readable ctx t e o) ≡ Done next sent → SwitchTracked ctx packets m next sent
  answer_tracked t None next sent all d = absurd cc
  answer_tracked t (Some a) next sent all d = by_tracked t (slot_of e.id t.entries) next sent all d

  response_tracked : (t : Table) (next : Power Table ℕ) (sent : List Sent) → AllByRecursion (SlotSource ctx packets m) t.entries → after_response e.id (responded ctx t e) ≡ Done next sent → SwitchTracked ctx packets m next sent
  unfolding responded
  response_tracked t next sent all d =
      answer_tracked t (ctx.read_answer e.payload) next sent all
      (sym (ap (λ (b : Bool). after_response e.id (cond b (Err Refusal.Unreadable) (responded_readable ctx t e (ctx.read_answer e.payload)))) answers_it) ∙ d)

true_false : (b : Bool) → b ≡ true → b ≡ false → ⊥
true_false true e f = cc
true_false false e f = cc

-- a packet that a switch takes is a pharmacy's request or a payer's answer
kind_tracked : (ctx : Context) (packets : List Packet) (m : ℕ) (from : Node) (bytes : List ℕ) (e : Envelope) (t : Table) (next : Power Table ℕ) (sent : List Sent) (b : Bool) → TrackedFrom ctx packets from (Switch m) bytes → ctx.read_envelope bytes ≡ Ok e → bytes ≡ ctx.envelope e
    → AllByRecursion (SlotSource ctx packets m) t.entries → is_request e ≡ b → cond b (after_request e.id (requested ctx t e)) (after_response e.id (responded ctx t e)) ≡ Done next sent → SwitchTracked ctx packets m next sent
kind_tracked ctx packets m (Switch k) bytes e t next sent b x reads spells all is d = absurd x
kind_tracked ctx packets m (Pharmacy k) bytes e t next sent true x reads spells all is d = request_tracked ctx packets m k bytes e x.0 reads spells is (x.2 e reads).1 t next sent all d
kind_tracked ctx packets m (Pharmacy k) bytes e t next sent false x reads spells all is d = absurd (true_false (is_request e) (x.2 e reads).0 is)
kind_tracked ctx packets m (Payer k) bytes e t next sent true x reads spells all is d = absurd (true_false (is_request e) is (x.2 e reads))
kind_tracked ctx packets m (Payer k) bytes e t next sent false x reads spells all is d = response_tracked ctx packets m k bytes e x.0 spells is t next sent all d

quiet_switch : (ctx : Context) (packets : List Packet) (m : ℕ) (a next : Power Table ℕ) (sent : List Sent) → TableSource ctx packets m a → Done a [] ≡ Done next sent → SwitchTracked ctx packets m next sent
quiet_switch ctx packets m a next sent table d =
    let f = done_same a next [] sent d in
    record { table = subst (TableSource ctx packets m) f.0 table; sends = subst (AllByRecursion (SentTracked ctx packets (Switch m))) f.1 tt }

pub switch_tracked : (ctx : Context) (w : World) (packets : List Packet) (m : ℕ) (x next : Power Table ℕ) (call : Call) (sent : List Sent) → Laws ctx → TableSource ctx packets m x → CallTracked ctx w packets (Switch m) call
    → switch_step ctx x call ≡ Done next sent → SwitchTracked ctx packets m next sent
switch_tracked ctx w packets m (Up t) next (Take from bytes) sent laws all c d =
    let reads = carries_reads ctx w bytes laws c.1 in
    kind_tracked ctx packets m from bytes c.1.envelope t next sent (is_request c.1.envelope) c.0 reads c.1.spells all refl (ap (switch_takes ctx t) (sym reads) ∙ d)
switch_tracked ctx w packets m (Up t) next Stop sent laws all c d = quiet_switch ctx packets m (AtRest t.cap) next sent tt d
switch_tracked ctx w packets m (AtRest cap) next Start sent laws all c d = quiet_switch ctx packets m (Up (record { cap = cap; entries = [] })) next sent tt d
switch_tracked ctx w packets m (Up t) next (Submit text) sent laws all c d = absurd cc
switch_tracked ctx w packets m (Up t) next Tick sent laws all c d = absurd cc
switch_tracked ctx w packets m (Up t) next Start sent laws all c d = absurd cc
switch_tracked ctx w packets m (Up t) next (Revise revision) sent laws all c d = absurd cc
switch_tracked ctx w packets m (Up t) next (Adjudicate from bytes advice) sent laws all c d = absurd cc
switch_tracked ctx w packets m (AtRest cap) next (Submit text) sent laws all c d = absurd cc
switch_tracked ctx w packets m (AtRest cap) next Tick sent laws all c d = absurd cc
switch_tracked ctx w packets m (AtRest cap) next (Take from bytes) sent laws all c d = absurd cc
switch_tracked ctx w packets m (AtRest cap) next Stop sent laws all c d = absurd cc
switch_tracked ctx w packets m (AtRest cap) next (Revise (OfPlan change)) sent laws all c d = absurd cc
switch_tracked ctx w packets m (AtRest cap) next (Revise (OfRule rule)) sent laws all c d = absurd cc
switch_tracked ctx w packets m (AtRest cap) next (Revise (OfCap most)) sent laws all c d = quiet_switch ctx packets m (AtRest most) next sent tt d
switch_tracked ctx w packets m (AtRest cap) next (Adjudicate from bytes advice) sent laws all c d = absurd cc
