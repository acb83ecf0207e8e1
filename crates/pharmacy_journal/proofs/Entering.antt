-- The entries of a journal, as they are kept and as they are seen.
use Rattle.std.proofs.Common.{◌≡◌, ℕ, zero, suc, ◌+◌, ◌≤◌, Bool, true, false, List, [], ◌∷◌, ◌++◌, length, map, set, Option, Some, None, option_map, is_some, refl, sym, ap, ◌∙◌, arith, subst}
use Rattle.std.specs.List.{slice_get}
use Rattle.std.proofs.lemmas.List.{length-map}
use Rattle.std.proofs.lemmas.Option.{slice_get-map}
use Rattle.claim_model.specs.Words.{TxnId}
use Rattle.claim_model.specs.Journal.{PharmacySettings, Entry, Has, ticked_state}
use Rattle.pharmacy_journal.specs.Retry.{Rule, phases_of, next_phase, is_due}
use Rattle.pharmacy_journal.specs.Places.{places_from}
use Rattle.pharmacy_journal.specs.Entries.{entry_of, entries_of, is_waiting, IsEntry, AreEntries}
use Rattle.pharmacy_journal.specs.Sendings.{is_due_entry}
use Rattle.pharmacy_journal.specs.Hearing.{settled_slot, settled_at, IsAnsweredBy}
use Rattle.pharmacy_journal.specs.declared.slot.Slot.{Slot}
use Rattle.pharmacy_journal.specs.declared.slot.Slot.TheVariants.{Waiting, Settled}

pub length-entries_of : (slots : List Slot) (phases : List (Option ℕ)) → length (entries_of slots phases) ≡ length slots
length-entries_of [] phases = refl
length-entries_of (slot ∷ slots) [] = ap suc (length-entries_of slots [])
length-entries_of (slot ∷ slots) (phase ∷ phases) = ap suc (length-entries_of slots phases)

-- there are as many phases as entries
pub length-phases : (slots : List Slot) (phases : List (Option ℕ)) → map is_waiting slots ≡ map is_some phases → length phases ≡ length slots
length-phases slots phases e = sym (length-map phases is_some) ∙ ap length (sym e) ∙ length-map slots is_waiting

pub entries_of-push : (slots : List Slot) (phases : List (Option ℕ)) (slot : Slot) (phase : Option ℕ) → length phases ≡ length slots → entries_of (slots ++ slot ∷ []) (phases ++ phase ∷ []) ≡ entries_of slots phases ++ entry_of slot phase ∷ []
entries_of-push [] [] slot phase e = refl
entries_of-push [] (p ∷ phases) slot phase e = absurd cc
entries_of-push (s ∷ slots) [] slot phase e = absurd cc
entries_of-push (s ∷ slots) (p ∷ phases) slot phase e = ap (λ es. entry_of s p ∷ es) (entries_of-push slots phases slot phase (omega (arith, e)))

pub AreEntries-push : (s : PharmacySettings) (pharmacy n : ℕ) (slots : List Slot) (slot : Slot) → AreEntries s pharmacy n slots → IsEntry s (record { pharmacy = pharmacy; number = n + length slots }) slot → AreEntries s pharmacy n (slots ++ slot ∷ [])
AreEntries-push s pharmacy n [] slot all one =
    let e : n + 0 ≡ n = omega arith in
    (subst (λ (n : ℕ). IsEntry s (record { pharmacy = pharmacy; number = n }) slot) e one, tt)
AreEntries-push s pharmacy n (x ∷ slots) slot all one =
    let e : n + suc (length slots) ≡ n + 1 + length slots = omega arith in
    (all.0, AreEntries-push s pharmacy (n + 1) slots slot all.1 (subst (λ (n : ℕ). IsEntry s (record { pharmacy = pharmacy; number = n }) slot) e one))

pub AreEntries-at : (s : PharmacySettings) (pharmacy n : ℕ) (slots : List Slot) (k : ℕ) (slot : Slot) → AreEntries s pharmacy n slots → slice_get slots k ≡ Some slot → IsEntry s (record { pharmacy = pharmacy; number = n + k }) slot
AreEntries-at s pharmacy n [] k slot all is = absurd cc
AreEntries-at s pharmacy n (x ∷ slots) zero slot all is =
    let e : n ≡ n + 0 = omega arith in
    let same : x ≡ slot = cc in
    subst (λ (n : ℕ). IsEntry s (record { pharmacy = pharmacy; number = n }) slot) e (subst (IsEntry s (record { pharmacy = pharmacy; number = n })) same all.0)
AreEntries-at s pharmacy n (x ∷ slots) (suc k) slot all is =
    let e : n + 1 + k ≡ n + suc k = omega arith in
    subst (λ (n : ℕ). IsEntry s (record { pharmacy = pharmacy; number = n }) slot) e (AreEntries-at s pharmacy (n + 1) slots k slot all.1 is)

some_at : (o : Option (Option ℕ)) (b : Bool) → Some b ≡ option_map is_some o → (p : Option ℕ) × (o ≡ Some p) × (b ≡ is_some p)
some_at None b e = absurd cc
some_at (Some p) b e = (p, refl, cc)

-- an entry has a phase exactly where it waits
pub phase-at : (slots : List Slot) (phases : List (Option ℕ)) (k : ℕ) (slot : Slot) → map is_waiting slots ≡ map is_some phases → slice_get slots k ≡ Some slot → (p : Option ℕ) × (slice_get phases k ≡ Some p) × (is_waiting slot ≡ is_some p)
phase-at slots phases k slot e is =
    some_at (slice_get phases k) (is_waiting slot)
    (ap (option_map is_waiting) (sym is) ∙ sym (slice_get-map is_waiting slots k) ∙ ap (λ bs. slice_get bs k) e ∙ slice_get-map is_some phases k)

pub entries_of-at : (slots : List Slot) (phases : List (Option ℕ)) (k : ℕ) (slot : Slot) (p : Option ℕ) → slice_get slots k ≡ Some slot → slice_get phases k ≡ Some p → slice_get (entries_of slots phases) k ≡ Some (entry_of slot p)
entries_of-at [] phases k slot p is at = absurd cc
entries_of-at (s ∷ slots) [] k slot p is at = absurd cc
entries_of-at (s ∷ slots) (q ∷ phases) zero slot p is at =
    let a : s ≡ slot = cc in let b : q ≡ p = cc in ap (λ (s : Slot). Some (entry_of s q)) a ∙ ap (λ (q : Option ℕ). Some (entry_of slot q)) b
entries_of-at (s ∷ slots) (q ∷ phases) (suc k) slot p is at = entries_of-at slots phases k slot p is at

-- ---- settling

pub length-settled_at : (slots : List Slot) (k : ℕ) (answer : List ℕ) → length (settled_at slots k answer) ≡ length slots
length-settled_at [] k answer = refl
length-settled_at (s ∷ slots) zero answer = refl
length-settled_at (s ∷ slots) (suc k) answer = ap suc (length-settled_at slots k answer)

settled_state : (slot : Slot) (answer : List ℕ) (p q : Option ℕ) → IsAnsweredBy slot answer → entry_of (settled_slot slot answer) q ≡ record { request = (entry_of slot p).request; state = Has answer }
settled_state (Waiting t) answer p q h = refl
settled_state (Settled t) answer p q h = absurd h

-- the entries after one was settled
pub entries_of-settled : (slots : List Slot) (phases : List (Option ℕ)) (k : ℕ) (slot : Slot) (p : Option ℕ) (answer : List ℕ) → slice_get slots k ≡ Some slot → slice_get phases k ≡ Some p → IsAnsweredBy slot answer →
    entries_of (settled_at slots k answer) (set phases k None) ≡ set (entries_of slots phases) k (record { request = (entry_of slot p).request; state = Has answer })
entries_of-settled [] phases k slot p answer is at h = absurd cc
entries_of-settled (s ∷ slots) [] k slot p answer is at h = absurd cc
entries_of-settled (s ∷ slots) (q ∷ phases) zero slot p answer is at h =
    let a : s ≡ slot = cc in let b : q ≡ p = cc in
    rw a (ap (λ (e : Entry). e ∷ entries_of slots phases) (settled_state slot answer p None h))
entries_of-settled (s ∷ slots) (q ∷ phases) (suc k) slot p answer is at h = ap (λ es. entry_of s q ∷ es) (entries_of-settled slots phases k slot p answer is at h)

settled_waits_not : (slot : Slot) (answer : List ℕ) → is_waiting (settled_slot slot answer) ≡ false
settled_waits_not (Waiting t) answer = refl
settled_waits_not (Settled t) answer = refl

pub waiting-settled_at : (slots : List Slot) (phases : List (Option ℕ)) (k : ℕ) (answer : List ℕ) → map is_waiting slots ≡ map is_some phases → map is_waiting (settled_at slots k answer) ≡ map is_some (set phases k None)
waiting-settled_at [] [] k answer e = refl
waiting-settled_at [] (p ∷ phases) k answer e = absurd cc
waiting-settled_at (s ∷ slots) [] k answer e = absurd cc
waiting-settled_at (s ∷ slots) (p ∷ phases) zero answer e =
    let rest : map is_waiting slots ≡ map is_some phases = cc in
    rw (settled_waits_not s answer) (ap (λ bs. false ∷ bs) rest)
waiting-settled_at (s ∷ slots) (p ∷ phases) (suc k) answer e =
    let first : is_waiting s ≡ is_some p = cc in
    let rest : map is_waiting slots ≡ map is_some phases = cc in
    rw first (ap (λ bs. is_some p ∷ bs) (waiting-settled_at slots phases k answer rest))

settled_entry : (s : PharmacySettings) (id : TxnId) (slot : Slot) (answer : List ℕ) → IsEntry s id slot → IsAnsweredBy slot answer → length answer ≤ 32768 → IsEntry s id (settled_slot slot answer)
settled_entry s id (Waiting t) answer e h short = (e.0, e.1, h, short)
settled_entry s id (Settled t) answer e h short = absurd h

pub AreEntries-settled : (s : PharmacySettings) (pharmacy n : ℕ) (slots : List Slot) (k : ℕ) (slot : Slot) (answer : List ℕ) → AreEntries s pharmacy n slots → slice_get slots k ≡ Some slot → IsAnsweredBy slot answer → length answer ≤ 32768 → AreEntries s pharmacy n (settled_at slots k answer)
AreEntries-settled s pharmacy n [] k slot answer all is h short = tt
AreEntries-settled s pharmacy n (x ∷ slots) zero slot answer all is h short =
    let same : slot ≡ x = cc in
    (settled_entry s _ x answer all.0 (subst (λ (x : Slot). IsAnsweredBy x answer) same h) short, all.1)
AreEntries-settled s pharmacy n (x ∷ slots) (suc k) slot answer all is h short = (all.0, AreEntries-settled s pharmacy (n + 1) slots k slot answer all.1 is h short)

-- a slot is written where it stood
pub set-settled_at : (slots : List Slot) (k : ℕ) (slot new : Slot) (answer : List ℕ) → slice_get slots k ≡ Some slot → new ≡ settled_slot slot answer → set slots k new ≡ settled_at slots k answer
set-settled_at [] k slot new answer is e = refl
set-settled_at (x ∷ slots) zero slot new answer is e = let same : slot ≡ x = cc in rw (e, same) refl
set-settled_at (x ∷ slots) (suc k) slot new answer is e = ap (λ xs. x ∷ xs) (set-settled_at slots k slot new answer is e)

-- ---- a tick

pub is_some-next : (f : ℕ → ℕ) (phases : List (Option ℕ)) → map is_some (map (option_map f) phases) ≡ map is_some phases
is_some-next f [] = refl
is_some-next f (None ∷ phases) = ap (λ bs. false ∷ bs) (is_some-next f phases)
is_some-next f (Some p ∷ phases) = ap (λ bs. true ∷ bs) (is_some-next f phases)

abbrev ticked_entry : ℕ → Entry → Entry
ticked_entry phases e = record { request = e.request; state = ticked_state phases e.state }

ticked_one : (r : Rule) (slot : Slot) (p : Option ℕ) → is_waiting slot ≡ is_some p → entry_of slot (option_map (next_phase r) p) ≡ ticked_entry (phases_of r) (entry_of slot p)
ticked_one r (Waiting t) None e = absurd cc
ticked_one r (Waiting t) (Some p) e = refl
ticked_one r (Settled t) None e = refl
ticked_one r (Settled t) (Some p) e = absurd cc

pub entries_of-ticked : (r : Rule) (slots : List Slot) (phases : List (Option ℕ)) → map is_waiting slots ≡ map is_some phases → entries_of slots (map (option_map (next_phase r)) phases) ≡ map (ticked_entry (phases_of r)) (entries_of slots phases)
entries_of-ticked r [] phases e = refl
entries_of-ticked r (s ∷ slots) [] e = absurd cc
entries_of-ticked r (s ∷ slots) (p ∷ phases) e =
    let first : is_waiting s ≡ is_some p = cc in
    let rest : map is_waiting slots ≡ map is_some phases = cc in
    rw (ticked_one r s p first, entries_of-ticked r slots phases rest) refl

due_one : (r : Rule) (slot : Slot) (p : Option ℕ) → is_waiting slot ≡ is_some p → is_due r p ≡ is_due_entry r.again (entry_of slot p)
due_one r (Waiting t) None e = absurd cc
due_one r (Waiting t) (Some p) e = refl
due_one r (Settled t) None e = refl
due_one r (Settled t) (Some p) e = absurd cc

-- what is due by its phase is due as an entry
pub due-entries_of : (r : Rule) (n : ℕ) (slots : List Slot) (phases : List (Option ℕ)) → map is_waiting slots ≡ map is_some phases → places_from (is_due r) n phases ≡ places_from (is_due_entry r.again) n (entries_of slots phases)
due-entries_of r n [] [] e = refl
due-entries_of r n [] (p ∷ phases) e = absurd cc
due-entries_of r n (s ∷ slots) [] e = absurd cc
due-entries_of r n (s ∷ slots) (p ∷ phases) e =
    let first : is_waiting s ≡ is_some p = cc in
    let rest : map is_waiting slots ≡ map is_some phases = cc in
    rw (due_one r s p first, due-entries_of r (n + 1) slots phases rest) refl
