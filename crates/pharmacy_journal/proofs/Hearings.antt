-- What an envelope does to a journal.
use Rattle.std.proofs.Common.{◌≡◌, ℕ, zero, suc, ◌-◌, ◌<◌, ◌≤◌, Bool, true, false, cond, not, ◌&&◌, List, length, set, Option, Some, None, Result, Ok, Err, refl, sym, ap, ◌∙◌, arith, subst, ⊎_elim}
use Rattle.std.specs.Prelude.{OnOk}
use Rattle.std.specs.List.{slice_get}
use Rattle.std.proofs.lemmas.Bool.{ne_eqb, eq-eqb, cases_lt, and_parts}
use Rattle.std.proofs.lemmas.Option.{slice_get_past}
use Rattle.envelope.specs.Envelope.{Opened}
use Rattle.envelope.specs.declared.opening.Kind.{Kind}
use Rattle.envelope.specs.declared.opening.Kind.TheVariants.{Request, Answer}
use Rattle.bin_routes.specs.Table.{RouteMaps}
use Rattle.claim_model.specs.Words.{Envelope}
use Rattle.claim_model.specs.Bytes.{bytes_with}
use Rattle.claim_model.specs.Readable.{is_request}
use Rattle.claim_model.specs.Numbered.{numbered, renumbered}
use Rattle.claim_model.specs.declared.refusal.Refusal.{Refusal}
use Rattle.claim_model.specs.declared.refusal.Refusal.TheVariants.{NotMine, NoSuchNumber, Unreadable}
use Rattle.claim_model.specs.Journal.{Journal, Entry, State, Has, heard, settle_with, settle_by}
use Rattle.claim_model.specs.Refusal.{IsRefused}
use Rattle.pharmacy_journal.specs.Reading.{settles_with}
use Rattle.pharmacy_journal.specs.Entries.{is_waiting}
use Rattle.pharmacy_journal.specs.Hearing.{envelope_seen, answers, IsAnsweredBy, state_after, state_by}
use Rattle.pharmacy_journal.specs.declared.slot.Slot.{Slot}
use Rattle.pharmacy_journal.specs.declared.slot.Slot.TheVariants.{Waiting, Settled}

with_kind : (request : List ℕ) (state : State) (payload : List ℕ) (k : Kind) (e : Envelope) → e.kind ≡ k → e.payload ≡ payload → (k ≡ Answer → state_after request state e ≡ state_by request state payload) × (k ≡ Request → state_after request state e ≡ Err Unreadable)
with_kind request state payload Request e is p = (λ x. absurd cc, λ _. rw is refl)
with_kind request state payload Answer e is p = (λ _. rw (is, p) refl, λ x. absurd cc)

-- an envelope of kind 2
pub state_after-answer : (request : List ℕ) (state : State) (o : Opened) → o.kind ≡ Answer → state_after request state (envelope_seen o) ≡ state_by request state o.payload
state_after-answer request state o e = (with_kind request state o.payload o.kind (envelope_seen o) refl refl).0 e

-- of kind 1
pub state_after-request : (request : List ℕ) (state : State) (o : Opened) → o.kind ≡ Request → state_after request state (envelope_seen o) ≡ Err Unreadable
state_after-request request state o e = (with_kind request state o.payload o.kind (envelope_seen o) refl refl).1 e

-- of another pharmacy
pub not_mine : (routes : RouteMaps) (j : Journal) (e : Envelope) → (e.id.pharmacy ≡ j.number → ⊥) → heard (bytes_with routes) j e ≡ Err NotMine
unfolding heard
not_mine routes j e other = rw (ne_eqb _ _ other) refl

numbered-past : {A : Type 0} (xs : List A) (n : ℕ) → ((0 < n) × (n ≤ length xs) → ⊥) → numbered xs n ≡ None
numbered-past xs zero h = refl
numbered-past xs (suc k) h = slice_get_past xs k (⊎_elim (λ (lt : k < length xs). absurd (h (omega arith, omega arith))) (λ (ge : length xs ≤ k). ge) (cases_lt k (length xs)))

-- of a number that is not there
pub no_such_number : (routes : RouteMaps) (j : Journal) (e : Envelope) → e.id.pharmacy ≡ j.number → ((0 < e.id.number) × (e.id.number ≤ length j.entries) → ⊥) → heard (bytes_with routes) j e ≡ Err NoSuchNumber
unfolding heard
no_such_number routes j e mine past = rw (eq-eqb _ _ mine, numbered-past j.entries e.id.number past) refl

pub number_of : {A : Type 0} (xs : List A) (n place : ℕ) → 0 < n → place ≡ n - 1 → numbered xs n ≡ slice_get xs place
number_of xs zero place lt e = absurd (omega (arith, lt))
number_of xs (suc k) place lt e = let same : place ≡ k = omega (arith, e) in rw same refl

heard_one : (b : Bool) (j : Journal) (n : ℕ) (e : Entry) (state : Result State Refusal) → cond b (settle_with j n e state) (Err Unreadable) ≡ settle_with j n e (cond b state (Err Unreadable))
heard_one true j n e state = refl
heard_one false j n e state = refl

-- of an entry
pub heard_is : (routes : RouteMaps) (j : Journal) (e : Envelope) (place : ℕ) (entry : Entry) → e.id.pharmacy ≡ j.number → 0 < e.id.number → place ≡ e.id.number - 1 → slice_get j.entries place ≡ Some entry →
    heard (bytes_with routes) j e ≡ settle_with j e.id.number entry (state_after entry.request entry.state e)
unfolding heard
heard_is routes j e place entry mine some is at =
    rw (eq-eqb _ _ mine, number_of j.entries e.id.number place some is, at) (heard_one (not (is_request e) && settles_with entry.request e.payload) j e.id.number entry (settle_by e.payload entry.state))

refused_with : (j : Journal) (n : ℕ) (e : Entry) (o : Option Refusal) (state : Result State Refusal) → IsRefused o state → IsRefused o (settle_with j n e state)
refused_with j n e None state h = tt
refused_with j n e (Some fault) state h = rw h refl

-- the refusals of an entry are those of the journal
pub refused_at : (routes : RouteMaps) (j : Journal) (e : Envelope) (place : ℕ) (entry : Entry) (o : Option Refusal) → e.id.pharmacy ≡ j.number → 0 < e.id.number → place ≡ e.id.number - 1 → slice_get j.entries place ≡ Some entry →
    IsRefused o (state_after entry.request entry.state e) → IsRefused o (heard (bytes_with routes) j e)
refused_at routes j e place entry o mine some is at h = subst (IsRefused o) (sym (heard_is routes j e place entry mine some is at)) (refused_with j e.id.number entry o (state_after entry.request entry.state e) h)

renumbered_place : (es : List Entry) (n place : ℕ) (x : Entry) → 0 < n → place ≡ n - 1 → renumbered es n x ≡ set es place x
renumbered_place es zero place x lt e = absurd (omega (arith, lt))
renumbered_place es (suc k) place x lt e = let same : place ≡ k = omega (arith, e) in rw same refl

-- the journal with the answer
pub heard_settles : (routes : RouteMaps) (j : Journal) (e : Envelope) (place : ℕ) (entry : Entry) (answer : List ℕ) → e.id.pharmacy ≡ j.number → 0 < e.id.number → place ≡ e.id.number - 1 → slice_get j.entries place ≡ Some entry →
    state_after entry.request entry.state e ≡ Ok (Has answer) → heard (bytes_with routes) j e ≡ Ok (record { number = j.number; settings = j.settings; rule = j.rule; entries = set j.entries place (record { request = entry.request; state = Has answer }) })
heard_settles routes j e place entry answer mine some is at ok =
    heard_is routes j e place entry mine some is at
    ∙ ap (settle_with j e.id.number entry) ok
    ∙ ap (λ (es : List Entry). let k : Journal = record { number = j.number; settings = j.settings; rule = j.rule; entries = es } in let r : Result Journal Refusal = Ok k in r) (renumbered_place j.entries e.id.number place _ some is)

-- an entry that waits is open to an answer that fits its request
pub opened_by : {A E : Type 0} (slot : Slot) (o : Opened) (r : Result A E) → answers slot o ≡ true → OnOk r (is_waiting slot ≡ true) → OnOk r (IsAnsweredBy slot o.payload)
opened_by (Waiting t) o (Ok x) fits waits = (and_parts (not (is_request (envelope_seen o))) (settles_with t.request o.payload) fits).1
opened_by (Settled t) o (Ok x) fits waits = absurd cc
opened_by slot o (Err e) fits waits = tt
