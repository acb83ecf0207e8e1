-- What is heard by a journal as it is kept, and what is submitted to one.
use Rattle.std.proofs.Common.{◌≡◌, ℕ, ◌+◌, ◌-◌, ◌<◌, Bool, true, false, cond, not, ◌&&◌, List, [], ◌∷◌, ◌++◌, length, set, Option, Some, None, Result, Ok, Err, refl, sym, ap, ◌∙◌, subst}
use Rattle.std.specs.Prelude.{◌≢◌}
use Rattle.std.specs.List.{slice_get}
use Rattle.bin_routes.specs.Table.{RouteMaps}
use Rattle.claim_model.specs.Words.{Envelope}
use Rattle.claim_model.specs.Bytes.{bytes_with}
use Rattle.claim_model.specs.Readable.{is_request}
use Rattle.claim_model.specs.declared.refusal.Refusal.{Refusal}
use Rattle.claim_model.specs.declared.refusal.Refusal.TheVariants.{Unreadable}
use Rattle.claim_model.specs.Refusal.{IsRefused}
use Rattle.claim_model.specs.Journal.{PharmacySettings, RetryRule, Journal, Entry, State, Waits, Has, Sending, heard, settle_by, submitted, submit_fault}
use Rattle.pharmacy_journal.specs.Refusing.{IsCause}
use Rattle.pharmacy_journal.specs.Reading.{header_of, settles_with}
use Rattle.pharmacy_journal.specs.Transactions.{Submission}
use Rattle.pharmacy_journal.specs.Timetable.{Rounds}
use Rattle.pharmacy_journal.specs.Sendings.{packet_of}
use Rattle.pharmacy_journal.specs.Entries.{entry_of, kept_of, IsUp}
use Rattle.pharmacy_journal.specs.Hearing.{state_after, settled_at, IsAnsweredBy}
use Rattle.pharmacy_journal.specs.declared.slot.Slot.{Slot}
use Rattle.pharmacy_journal.specs.declared.slot.Slot.TheVariants.{Waiting, Settled}
use Rattle.pharmacy_journal.proofs.Entering.{phase-at, entries_of-at, entries_of-settled}
use Rattle.pharmacy_journal.proofs.Standing.{seen}
use Rattle.pharmacy_journal.proofs.Hearings.{refused_at, heard_settles}

same_request : (slot : Slot) (p : Option ℕ) → (kept_of slot).request ≡ (entry_of slot p).request
same_request (Waiting t) p = refl
same_request (Settled t) p = refl

-- a refusal of an entry
pub hear_refused : (routes : RouteMaps) (number : ℕ) (s : PharmacySettings) (rule : RetryRule) (t : Rounds) (slots : List Slot) (e : Envelope) (place : ℕ) (slot : Slot) (o : Option Refusal) → IsUp number s rule t slots → e.id.pharmacy ≡ number → 0 < e.id.number → place ≡ e.id.number - 1 → slice_get slots place ≡ Some slot →
    ((p : Option ℕ) → IsRefused o (state_after (kept_of slot).request (entry_of slot p).state e)) → IsRefused o (heard (bytes_with routes) (seen number s rule t slots) e)
hear_refused routes number s rule t slots e place slot o up mine some is at h =
    let p = phase-at slots t.phases place slot up.phases at in
    let entry = entries_of-at slots t.phases place slot p.0 at p.1 in
    refused_at routes (seen number s rule t slots) e place (entry_of slot p.0) o mine some is entry
    (subst (λ (request : List ℕ). IsRefused o (state_after request (entry_of slot p.0).state e)) (same_request slot p.0) (h p.0))

-- what is not refused as unreadable has an answer that fits the entry's request
pub hear_known : (routes : RouteMaps) (number : ℕ) (s : PharmacySettings) (rule : RetryRule) (t : Rounds) (slots : List Slot) (e : Envelope) (place : ℕ) (slot : Slot) → IsUp number s rule t slots → e.id.pharmacy ≡ number → 0 < e.id.number → place ≡ e.id.number - 1 → slice_get slots place ≡ Some slot →
    heard (bytes_with routes) (seen number s rule t slots) e ≢ Err Unreadable → (not (is_request e) && settles_with (kept_of slot).request e.payload) ≡ true
hear_known routes number s rule t slots e place slot up mine some is at h = by (not (is_request e) && settles_with (kept_of slot).request e.payload) refl
  where
    by : (b : Bool) → (not (is_request e) && settles_with (kept_of slot).request e.payload) ≡ b → (not (is_request e) && settles_with (kept_of slot).request e.payload) ≡ true
    by true fits = fits
    by false fits = absurd (h (hear_refused routes number s rule t slots e place slot (Some Unreadable) up mine some is at (λ p. ap (λ (b : Bool). cond b (settle_by e.payload (entry_of slot p).state) (Err Unreadable)) fits)))

-- an answer
pub hear_settles : (routes : RouteMaps) (number : ℕ) (s : PharmacySettings) (rule : RetryRule) (t t' : Rounds) (slots slots' : List Slot) (e : Envelope) (place : ℕ) (slot : Slot) (answer : List ℕ) → IsUp number s rule t slots → e.id.pharmacy ≡ number → 0 < e.id.number → place ≡ e.id.number - 1 → slice_get slots place ≡ Some slot →
    t' ≡ record { rule = t.rule; phases = set t.phases place None } → slots' ≡ settled_at slots place answer → IsAnsweredBy slot answer → answer ≡ e.payload → ((p : Option ℕ) → state_after (kept_of slot).request (entry_of slot p).state e ≡ Ok (Has e.payload)) →
    heard (bytes_with routes) (seen number s rule t slots) e ≡ Ok (seen number s rule t' slots')
hear_settles routes number s rule t t' slots slots' e place slot answer up mine some is at turned kept opens same h =
    let p = phase-at slots t.phases place slot up.phases at in
    let entry = entries_of-at slots t.phases place slot p.0 at p.1 in
    let state : state_after (entry_of slot p.0).request (entry_of slot p.0).state e ≡ Ok (Has answer) =
    ap (λ (request : List ℕ). state_after request (entry_of slot p.0).state e) (sym (same_request slot p.0)) ∙ h p.0 ∙ ap (λ (a : List ℕ). let r : Result State Refusal = Ok (Has a) in r) (sym same) in
    rw (turned, kept)
    (heard_settles routes (seen number s rule t slots) e place (entry_of slot p.0) answer mine some is entry state
    ∙ ap (λ (es : List Entry). let r : Result Journal Refusal = Ok (record { number = number; settings = s; rule = rule; entries = es }) in r) (sym (entries_of-settled slots t.phases place slot p.0 answer at p.1 opens)))

-- ---- submitting

-- the first cause is why the model refuses
pub cause_refuses : (routes : RouteMaps) (j : Journal) (text : List ℕ) (o : Option Refusal) → IsCause o (submit_fault j text (header_of text)) → IsRefused o (submitted (bytes_with routes) j text)
unfolding submitted
cause_refuses routes j text None h = tt
cause_refuses routes j text (Some fault) h = rw h refl

-- without one, the request is entered and sent
pub submitted_is : (routes : RouteMaps) (j j' : Journal) (text : List ℕ) (t : Submission) (n : ℕ) (sent : Sending) → submit_fault j text (header_of text) ≡ None → t ≡ record { id = record { pharmacy = j.number; number = length j.entries + 1 }; request = text } →
    n ≡ t.id.number → sent ≡ packet_of j t.id.number 0 t.request → j' ≡ record { number = j.number; settings = j.settings; rule = j.rule; entries = j.entries ++ record { request = t.request; state = Waits 0 } ∷ [] } →
    submitted (bytes_with routes) j text ≡ Ok (record { journal = j'; number = n; sent = sent })
unfolding submitted
submitted_is routes j j' text t n sent none is_t is_n is_sent is_j = rw (is_j, is_sent, is_n, is_t, none) refl
