-- A journal of which no entry is open: how a timetable sees it, and what a tick makes of it.
use Rattle.std.proofs.Common.{◌≡◌, ℕ, zero, suc, ◌+◌, ◌*◌, ◌%◌, ◌<◌, Bool, true, false, not, ◌&&◌, ◌||◌, eqb, List, [], ◌∷◌, map, Option, Some, None, option_map, is_some, refl, sym, ap, ◌∙◌, arith, ⊎_elim}
use Rattle.std.specs.Prelude.{is_none}
use Rattle.std.specs.List.{AllByRecursion, filter, list_all, list_any}
use Rattle.std.proofs.Math.Nat.{mod-lt}
use Rattle.std.proofs.lemmas.Bool.{cases_Bool, eq-eqb}
use Rattle.claim_model.specs.Context.{Context}
use Rattle.claim_model.specs.Journal.{Journal, Entry, State, Waits, Has, ticked, ticked_state, circle, due, due_from, due_by}
use Rattle.pharmacy_journal.specs.Retry.{Rule}
use Rattle.pharmacy_journal.specs.Places.{places_from}
use Rattle.pharmacy_journal.specs.Timetable.{IsKept, IsLead, in_bucket, is_open, has_open, have_open, bucket_at}
use Rattle.pharmacy_journal.specs.Entries.{entry_of, entries_of, is_waiting}
use Rattle.pharmacy_journal.specs.Idle.{is_settled, is_idle}
use Rattle.pharmacy_journal.specs.declared.slot.Slot.{Slot}
use Rattle.pharmacy_journal.specs.declared.slot.Slot.TheVariants.{Waiting, Settled}

both_of : (a b : Bool) → (a && b) ≡ true → (a ≡ true) × (b ≡ true)
both_of true b e = (refl, e)
both_of false b e = absurd cc

none_of : (a b : Bool) → (a || b) ≡ false → (a ≡ false) × (b ≡ false)
none_of true b e = absurd cc
none_of false b e = (refl, e)

-- ---- a tick

settled_waits_on : (phases : ℕ) (state : State) → is_settled state ≡ true → ticked_state phases state ≡ state
settled_waits_on phases (Waits phase) e = absurd cc
settled_waits_on phases (Has answer) e = refl

same_entries : (phases : ℕ) (es : List Entry) → list_all (λ (e : Entry). is_settled e.state) es ≡ true → map (λ (e : Entry). let x : Entry = record { request = e.request; state = ticked_state phases e.state } in x) es ≡ es
same_entries phases [] h = refl
same_entries phases (e ∷ es) h =
    let both = both_of (is_settled e.state) (list_all (λ (e : Entry). is_settled e.state) es) h in
    rw (settled_waits_on phases e.state both.0, same_entries phases es both.1) refl

-- it is left as it is
pub idle_ticks : (j : Journal) → is_idle j ≡ true → ticked j ≡ j
unfolding ticked
idle_ticks j idle =
    ap (λ (es : List Entry). let x : Journal = record { number = j.number; settings = j.settings; rule = j.rule; entries = es } in x) (same_entries (circle j.rule) j.entries idle)

settled_is_not_due : (ctx : Context) (j : Journal) (number : ℕ) (request : List ℕ) (state : State) → is_settled state ≡ true → due_by ctx j number request state ≡ []
settled_is_not_due ctx j number request (Waits phase) e = absurd cc
settled_is_not_due ctx j number request (Has answer) e = refl

none_due : (ctx : Context) (j : Journal) (number : ℕ) (es : List Entry) → list_all (λ (e : Entry). is_settled e.state) es ≡ true → due_from ctx j number es ≡ []
none_due ctx j number [] h = refl
none_due ctx j number (e ∷ es) h =
    let both = both_of (is_settled e.state) (list_all (λ (e : Entry). is_settled e.state) es) h in
    rw (settled_is_not_due ctx j number e.request e.state both.0) (none_due ctx j (number + 1) es both.1)

-- and sends nothing
pub idle_sends : (ctx : Context) (j : Journal) → is_idle j ≡ true → due ctx j ≡ []
unfolding due
idle_sends ctx j idle = none_due ctx j 1 j.entries idle

-- ---- by phases

settled_one : (slot : Slot) (p : Option ℕ) → is_waiting slot ≡ is_some p → is_none p ≡ is_settled (entry_of slot p).state
settled_one (Waiting t) None e = absurd cc
settled_one (Waiting t) (Some p) e = refl
settled_one (Settled t) None e = refl
settled_one (Settled t) (Some p) e = absurd cc

-- the entries are settled where they have no phase
pub idle_by_phases : (slots : List Slot) (phases : List (Option ℕ)) → map is_waiting slots ≡ map is_some phases → list_all is_none phases ≡ list_all (λ (e : Entry). is_settled e.state) (entries_of slots phases)
idle_by_phases [] [] e = refl
idle_by_phases [] (p ∷ phases) e = absurd cc
idle_by_phases (s ∷ slots) [] e = absurd cc
idle_by_phases (s ∷ slots) (p ∷ phases) e =
    let first : is_waiting s ≡ is_some p = cc in
    let rest : map is_waiting slots ≡ map is_some phases = cc in
    rw (settled_one s p first, idle_by_phases slots phases rest) refl

-- ---- by leads

-- an entry has a phase where it has a lead
pub quiet_by_leads : (f : ℕ → ℕ) (leads : List (Option ℕ)) → list_all is_none (map (option_map f) leads) ≡ list_all is_none leads
quiet_by_leads f [] = refl
quiet_by_leads f (None ∷ leads) = quiet_by_leads f leads
quiet_by_leads f (Some lead ∷ leads) = refl

-- without leads no place is open
closed_at : (leads : List (Option ℕ)) (k : ℕ) → list_all is_none leads ≡ true → is_open leads k ≡ false
closed_at [] k e = refl
closed_at (None ∷ leads) zero e = refl
closed_at (None ∷ leads) (suc k) e = closed_at leads k e
closed_at (Some lead ∷ leads) k e = absurd cc

closed_all : (leads : List (Option ℕ)) (ks : List ℕ) → list_all is_none leads ≡ true → has_open leads ks ≡ false
closed_all leads [] e = refl
closed_all leads (k ∷ ks) e = rw (closed_at leads k e) (closed_all leads ks e)

closed_buckets : (leads : List (Option ℕ)) (buckets : List (List ℕ)) → list_all is_none leads ≡ true → have_open leads buckets ≡ false
closed_buckets leads [] e = refl
closed_buckets leads (ks ∷ buckets) e = rw (closed_all leads ks e) (closed_buckets leads buckets e)

-- a bucket of which no place is open
filter_none : (passes : ℕ → Bool) (ks : List ℕ) → list_any passes ks ≡ false → filter passes ks ≡ []
filter_none passes [] e = refl
filter_none passes (k ∷ ks) e =
    let none = none_of (passes k) (list_any passes ks) e in
    rw none.0 (filter_none passes ks none.1)

none_at : (leads : List (Option ℕ)) (buckets : List (List ℕ)) (b : ℕ) → have_open leads buckets ≡ false → has_open leads (bucket_at buckets b) ≡ false
none_at leads [] b e = refl
none_at leads (ks ∷ buckets) zero e = (none_of (has_open leads ks) (have_open leads buckets) e).0
none_at leads (ks ∷ buckets) (suc b) e = none_at leads buckets b (none_of (has_open leads ks) (have_open leads buckets) e).1

some_wait : (again tries nodes lead : ℕ) → lead < again * tries * nodes → 0 < again
some_wait zero tries nodes lead lt = absurd (omega (arith, lt))
some_wait (suc again) tries nodes lead lt = omega arith

-- an entry stands in the bucket of its lead, so without open places there is no lead
no_lead : (r : Rule) (n : ℕ) (leads : List (Option ℕ)) → AllByRecursion (IsLead r) leads → ((b : ℕ) → b < r.again → places_from (in_bucket r b) n leads ≡ []) → list_all is_none leads ≡ true
no_lead r n [] on h = refl
no_lead r n (None ∷ leads) on h = no_lead r (n + 1) leads on.1 h
no_lead r n (Some lead ∷ leads) on h =
    let b = lead % r.again in
    let mine : eqb b b ≡ true = eq-eqb b b refl in
    let here : n ∷ places_from (in_bucket r b) (n + 1) leads ≡ [] = rw mine at (h b (mod-lt lead (some_wait r.again r.tries r.nodes lead on.0))) in
    absurd cc

-- no bucket has an open place exactly where there is no lead
pub quiet_by_buckets : (r : Rule) (leads : List (Option ℕ)) (buckets : List (List ℕ)) → IsKept r leads buckets → not (have_open leads buckets) ≡ list_all is_none leads
quiet_by_buckets r leads buckets kept =
    ⊎_elim
    (λ (some : have_open leads buckets ≡ true). rw some (sym (⊎_elim
    (λ (all : list_all is_none leads ≡ true). absurd (let e : true ≡ false = sym some ∙ closed_buckets leads buckets all in cc))
    (λ (e : list_all is_none leads ≡ false). e)
    (cases_Bool (list_all is_none leads)))))
    (λ (none : have_open leads buckets ≡ false).
    rw none (sym (no_lead r 0 leads kept.on_circle (λ b lt. sym (kept.by_lead b lt) ∙ filter_none (is_open leads) (bucket_at buckets b) (none_at leads buckets b none)))))
    (cases_Bool (have_open leads buckets))
