-- The stages of a recovery at a switch: it is up, and it answers the request or passes it on.
use Rattle.std.proofs.Common.{◌≡◌, ℕ, ◌≤◌, true, List, [], length, Option, Some, None, Ok, Err, refl, sym, ap, ◌∙◌, subst, arith}
use Rattle.std.specs.Prelude.{bytes_eq}
use Rattle.std.specs.List.{AllByRecursion}
use Rattle.std.proofs.lemmas.Bool.{cond-true}
use Rattle.claim_model.specs.Words.{TxnId, RequestHeader}
use Rattle.claim_model.specs.Context.{Context}
use Rattle.claim_model.specs.Laws.{IsEnvelope}
use Rattle.claim_model.specs.Readable.{readable, longest, payer_for, rejection, request_envelope, answer_envelope, is_request}
use Rattle.claim_model.specs.declared.refusal.Refusal.{Refusal}
use Rattle.claim_model.specs.Numbered.{numbered}
use Rattle.claim_model.specs.Journal.{JournalAtRest, Kept}
use Rattle.claim_model.specs.Table.{Slot, Table, Forward, Back, slot_of, entered_where, Requested, requested, requested_by, requested_readable, requested_again, routed_by}
use Rattle.claim_model.specs.Node.{Switch, Power, Up, AtRest}
use Rattle.claim_model.specs.World.{World, Packet, Event, Starting}
use Rattle.claim_model.specs.Limits.{most_entries}
use Rattle.claim_model.specs.Settings.{WorldSettings}
use Rattle.claim_model.specs.Held.{journal_at, asked, decided}
use Rattle.claim_model.specs.Promises.{Reached}
use Rattle.claim_model.proofs.Lists.{numbered_put, numbered_within}
use Rattle.claim_model.proofs.Options.{then_some, same_some}
use Rattle.claim_model.proofs.Tests.{readable_parts, bytes_self}
use Rattle.claim_model.proofs.Given.{pharmacy_given}
use Rattle.claim_model.proofs.Sound.{SoundSlot, Sound, Later, with_switch}
use Rattle.claim_model.proofs.Decided.{decided_unrouted}
use Rattle.claim_model.proofs.SwitchStep.{slot_found}
use Rattle.claim_model.proofs.Held.{journal_sound}
use Rattle.claim_model.proofs.Runs.{run_sound, reached_sound}
use Rattle.claim_recovery.specs.Recovered.{IsOpen}
use Rattle.claim_recovery.proofs.Paths.{Path, path_none, path_start, packet_stays}
use Rattle.claim_recovery.proofs.Forward.{start_switch, entered_stands}
use Rattle.claim_recovery.proofs.Unchanged.{Same, same_self, same_switch, open_asked}

-- ---- what is known of an open entry

pub record IsKnown (ctx : Context) (w : World) (id : TxnId) (request : List ℕ) : Type 0 where
  pub fits : IsEnvelope (request_envelope id request)
  pub header : RequestHeader
  pub reads : readable ctx request ≡ Some header
  pub asks : asked w id ≡ Some request

pub open_known : (ctx : Context) (given : WorldSettings) (w : World) (id : TxnId) (request : List ℕ) → Reached ctx given w → IsOpen w id request → IsKnown ctx w id request
open_known ctx given w id request r o =
    let x : Sound ctx given w = reached_sound ctx given w r in
    let e : Kept = record { request = request; answer = None } in
    let j = then_some (λ (q : JournalAtRest). numbered q.entries id.number) (journal_at w id.pharmacy) e o in
    let sj = journal_sound ctx given w id.pharmacy j.0 x j.1 in
    let se = sj.entries id.number e j.2 in
    let g = pharmacy_given ctx given id.pharmacy j.0.settings r.accepts sj.settings in
    let b = numbered_within j.0.entries id.number e j.2 in
    let cap : j.0.settings.cap ≤ most_entries = g.2.cap in
    let room : length j.0.entries ≤ j.0.settings.cap = sj.room in
    record {
      fits = record { pharmacy = g.0; pharmacy_fits = omega (arith, g.1); number = b.0; number_fits = omega (arith, b.1, cap, room); payload = (readable_parts ctx request se.header se.reads).0 };
      header = se.header;
      reads = se.reads;
      asks = open_asked w id request o;
    }

-- an answer of the same id fits too
pub reply_fits : (id : TxnId) (request answer : List ℕ) → IsEnvelope (request_envelope id request) → length answer ≤ longest → IsEnvelope (answer_envelope id answer)
reply_fits id request answer f short = record { pharmacy = f.pharmacy; pharmacy_fits = f.pharmacy_fits; number = f.number; number_fits = f.number_fits; payload = short }

-- what was decided stays on a path
pub later_by : (ctx : Context) (given : WorldSettings) (may : Event → Type 0) (w v : World) (t d s : ℕ) → Reached ctx given w → Path ctx may w v t d s → Later ctx w v
later_by ctx given may w v t d s r p = subst (Later ctx w) p.leads (run_sound ctx given w p.events r.laws r.accepts (reached_sound ctx given w r)).later

-- ---- the switch is up

-- where the switches are as they were, a switch that was up is up
pub up_on : (w v : World) (m : ℕ) (t : Table) → v.switches ≡ w.switches → numbered w.switches m ≡ Some (Up t) → numbered v.switches m ≡ Some (Up t)
up_on w v m t same up = ap (λ (ss : List (Power Table ℕ)). numbered ss m) same ∙ up

pub record SwitchUp (ctx : Context) (may : Event → Type 0) (w : World) (m : ℕ) : Type 0 where
  pub world : World
  pub starts : ℕ
  pub few : starts ≤ 1
  pub path : Path ctx may w world 0 0 starts
  pub same : (n : ℕ) → Same n w world
  pub pharmacies : world.pharmacies ≡ w.pharmacies
  pub table : Table
  pub up : numbered world.switches m ≡ Some (Up table)
  pub packets : (k : ℕ) (p : Packet) → numbered w.packets k ≡ Some p → numbered world.packets k ≡ Some p

abbrev pub switch_is_up : (ctx : Context) (may : Event → Type 0) (w : World) (m : ℕ) (t : Table) → numbered w.switches m ≡ Some (Up t) → SwitchUp ctx may w m
switch_is_up ctx may w m t is =
    record { world = w; starts = 0; few = omega arith; path = path_none ctx may w; same = λ n. same_self n w; pharmacies = refl; table = t; up = is; packets = λ k p e. e }

pub switch_up : (ctx : Context) (may : Event → Type 0) (w : World) (m : ℕ) (s : Power Table ℕ) → may (Starting (Switch m)) → numbered w.switches m ≡ Some s → SwitchUp ctx may w m
switch_up ctx may w m (Up t) ok is = switch_is_up ctx may w m t is
switch_up ctx may w m (AtRest cap) ok is =
    let t : Table = record { cap = cap; entries = [] } in
    let v : World = with_switch w m (Up t) [] in
    record {
      world = v;
      starts = 1;
      few = omega arith;
      path = path_start ctx may w v (Switch m) [] ok (start_switch ctx w m cap is);
      same = λ n. same_switch n w m (Up t) [];
      pharmacies = refl;
      table = t;
      up = numbered_put w.switches m (AtRest cap) (Up t) is;
      packets = λ k p e. packet_stays w.packets (Switch m) [] k p e;
    }

-- ---- the request at the switch

-- the switch answers with what was decided, or passes the request on and keeps it in its table
pub data Goes (ctx : Context) (w : World) (id : TxnId) (request : List ℕ) (h : RequestHeader) (r : Requested) : Type 0 where
  Replies : (a : List ℕ) → decided ctx w id ≡ Some a → r.routed ≡ Back (ctx.envelope (answer_envelope id a)) → Goes ctx w id request h r
  Passes : (p : ℕ) → payer_for ctx id h ≡ Some p → r.routed ≡ Forward p (ctx.envelope (request_envelope id request)) → (slot : Slot) → slot_of id r.table.entries ≡ Some slot → slot.answer ≡ None → Goes ctx w id request h r

-- a request that waits in a table
pub record Waits_in (id : TxnId) (t : Table) : Type 0 where
  pub slot : Slot
  pub stands : slot_of id t.entries ≡ Some slot
  pub waits : slot.answer ≡ None

routed_goes : (ctx : Context) (w : World) (id : TxnId) (request : List ℕ) (h : RequestHeader) (t : Table) (o : Option ℕ) → asked w id ≡ Some request → readable ctx request ≡ Some h → payer_for ctx id h ≡ o
    → ((p : ℕ) → o ≡ Some p → Waits_in id t) → Goes ctx w id request h (record { table = t; routed = routed_by ctx (request_envelope id request) h o })
routed_goes ctx w id request h t None asks reads route there = Replies (rejection ctx h) (decided_unrouted ctx w id request h asks reads route) refl
routed_goes ctx w id request h t (Some p) asks reads route there = let x = there p refl in Passes p route refl x.slot x.stands x.waits

fresh_there : (t : Table) (id : TxnId) (request : List ℕ) (o : Option ℕ) → slot_of id t.entries ≡ None → (p : ℕ) → o ≡ Some p → Waits_in id (entered_where t (request_envelope id request) o)
fresh_there t id request None none p e = absurd cc
fresh_there t id request (Some q) none p e =
    let slot : Slot = record { request = request; answer = None } in record { slot = slot; stands = entered_stands t id slot none; waits = refl }

fresh_goes : (ctx : Context) (w : World) (id : TxnId) (request : List ℕ) (h : RequestHeader) (t : Table) (o : Option ℕ) → asked w id ≡ Some request → readable ctx request ≡ Some h → payer_for ctx id h ≡ o → slot_of id t.entries ≡ None
    → Goes ctx w id request h (record { table = entered_where t (request_envelope id request) o; routed = routed_by ctx (request_envelope id request) h o })
fresh_goes ctx w id request h t o asks reads route none = routed_goes ctx w id request h (entered_where t (request_envelope id request) o) o asks reads route (fresh_there t id request o none)

again_goes : (ctx : Context) (w : World) (id : TxnId) (request : List ℕ) (h : RequestHeader) (t : Table) (slot : Slot) (o : Option (List ℕ)) → asked w id ≡ Some request → readable ctx request ≡ Some h → slot_of id t.entries ≡ Some slot → slot.answer ≡ o
    → ((a : List ℕ) → o ≡ Some a → decided ctx w id ≡ Some a) → Goes ctx w id request h (requested_again ctx t (request_envelope id request) h o)
again_goes ctx w id request h t slot (Some a) asks reads stands is d = Replies a (d a refl) refl
again_goes ctx w id request h t slot None asks reads stands is d =
    routed_goes ctx w id request h t (payer_for ctx id h) asks reads refl (λ p e. record { slot = slot; stands = stands; waits = is })

-- what the switch makes of the request
pub record Handled (ctx : Context) (w : World) (id : TxnId) (request : List ℕ) (h : RequestHeader) (t : Table) : Type 0 where
  pub result : Requested
  pub is : requested ctx t (request_envelope id request) ≡ Ok result
  pub goes : Goes ctx w id request h result

handled_by : (ctx : Context) (w : World) (id : TxnId) (request : List ℕ) (h : RequestHeader) (t : Table) (o : Option Slot) → asked w id ≡ Some request → readable ctx request ≡ Some h → AllByRecursion (SoundSlot ctx w) t.entries
    → slot_of id t.entries ≡ o → (r : Requested) × (requested_by ctx t (request_envelope id request) h o ≡ Ok r) × Goes ctx w id request h r
handled_by ctx w id request h t None asks reads sound is = (
  record { table = entered_where t (request_envelope id request) (payer_for ctx id h); routed = routed_by ctx (request_envelope id request) h (payer_for ctx id h) },
  refl,
  fresh_goes ctx w id request h t (payer_for ctx id h) asks reads refl is,
)
handled_by ctx w id request h t (Some slot) asks reads sound is =
    let s : SoundSlot ctx w (id, slot) = slot_found (SoundSlot ctx w) id t.entries slot sound is in
    let same : slot.request ≡ request = same_some _ _ (sym s.asks ∙ asks) in
    let test : bytes_eq slot.request request ≡ true = subst (λ (x : List ℕ). bytes_eq slot.request x ≡ true) same (bytes_self slot.request) in (
      requested_again ctx t (request_envelope id request) h slot.answer,
      cond-true (bytes_eq slot.request request) (Ok (requested_again ctx t (request_envelope id request) h slot.answer)) (Err Refusal.NumberReused) test,
      again_goes ctx w id request h t slot slot.answer asks reads is refl s.answer,
    )

pub handled : (ctx : Context) (w : World) (id : TxnId) (request : List ℕ) (h : RequestHeader) (t : Table) → asked w id ≡ Some request → readable ctx request ≡ Some h → AllByRecursion (SoundSlot ctx w) t.entries → Handled ctx w id request h t
unfolding requested
handled ctx w id request h t asks reads sound =
    let b = handled_by ctx w id request h t (slot_of id t.entries) asks reads sound refl in
    record {
      result = b.0;
      is =
          cond-true (is_request (request_envelope id request)) (requested_readable ctx t (request_envelope id request) (readable ctx request)) (Err Refusal.Unreadable) refl
          ∙ (ap (requested_readable ctx t (request_envelope id request)) reads ∙ b.1);
      goes = b.2;
    }
