-- What a timetable keeps, when entries come, go and wait.
use Rattle.std.proofs.Common.{◌≡◌, ℕ, ◌+◌, ◌<◌, ◌%◌, eqb, List, [], ◌∷◌, ◌++◌, length, map, set, get_or, Option, Some, None, option_map, refl, sym, ap, ◌∙◌, arith, subst, ⊎_elim, length-set, length-append, zero-add}
use Rattle.std.specs.List.{AllByRecursion, filter}
use Rattle.std.proofs.Math.Nat.{mod-add-mod}
use Rattle.std.proofs.lemmas.Bool.{cases_eq, eq-eqb, ne_eqb}
use Rattle.std.proofs.lemmas.List.Elements.{filter-append, filter_agree}
use Rattle.std.proofs.lemmas.List.{length-map, get_or-set_same, get_or-set_other, get_or-map, set-get_or, map-set}
use Rattle.pharmacy_journal.specs.Retry.{Rule, Dial, phases_of, next_phase, phase_at, turned, is_due}
use Rattle.pharmacy_journal.specs.Places.{places_from}
use Rattle.pharmacy_journal.specs.Timetable.{Rounds, IsKept, IsLead, in_bucket, is_open, seen_phases}
use Rattle.claim_model.proofs.Lists.{all_weaker}
use Rattle.pharmacy_journal.proofs.PlaceLemmas.{but, places_from-push, places_from-push_other, places_from-unset, places_from-map, places_from-same}
use Rattle.pharmacy_journal.proofs.OpenPlaces.{filter-unset, filter-entered, is_open-last, is_open-map}

-- an entry goes on by one phase with the clock
pub phase_at-turned : (d : Dial) (lead : ℕ) → phase_at (turned d) lead ≡ next_phase d.rule (phase_at d lead)
phase_at-turned d lead =
    let n = phases_of d.rule in
    let a : ((d.clock + 1) % n + lead) % n ≡ (d.clock + 1 + lead) % n = mod-add-mod (d.clock + 1) n lead in
    let b : ((d.clock + lead) % n + 1) % n ≡ (d.clock + lead + 1) % n = mod-add-mod (d.clock + lead) n 1 in
    let c : d.clock + 1 + lead ≡ d.clock + lead + 1 = omega arith in
    a ∙ ap (λ k. k % n) c ∙ sym b

option_phase-turned : (d : Dial) (lead : Option ℕ) → option_map (phase_at (turned d)) lead ≡ option_map (next_phase d.rule) (option_map (phase_at d) lead)
option_phase-turned d None = refl
option_phase-turned d (Some lead) = ap (λ (k : ℕ). Some k) (phase_at-turned d lead)

-- and so do all
pub seen_phases-turned : (d : Dial) (leads : List (Option ℕ)) → seen_phases (turned d) leads ≡ map (option_map (next_phase d.rule)) (seen_phases d leads)
seen_phases-turned d [] = refl
seen_phases-turned d (lead ∷ leads) = rw (option_phase-turned d lead, seen_phases-turned d leads) refl

is_due-bucket : (d : Dial) (b : ℕ) → ((lead : ℕ) → is_due d.rule (Some (phase_at (turned d) lead)) ≡ eqb (lead % d.rule.again) b) → (lead : Option ℕ) → is_due d.rule (option_map (phase_at (turned d)) lead) ≡ in_bucket d.rule b lead
is_due-bucket d b due None = refl
is_due-bucket d b due (Some lead) = due lead

-- the bucket of the next tick has the entries that are due
pub due_next-bucket : (d : Dial) (b : ℕ) (leads : List (Option ℕ)) → ((lead : ℕ) → is_due d.rule (Some (phase_at (turned d) lead)) ≡ eqb (lead % d.rule.again) b) → places_from (is_due d.rule) 0 (map (option_map (next_phase d.rule)) (seen_phases d leads)) ≡ places_from (in_bucket d.rule b) 0 leads
due_next-bucket d b leads due =
    ap (places_from (is_due d.rule) 0) (sym (seen_phases-turned d leads))
    ∙ places_from-map (option_map (phase_at (turned d))) (is_due d.rule) 0 leads
    ∙ places_from-same (λ lead. is_due d.rule (option_map (phase_at (turned d)) lead)) (in_bucket d.rule b) (is_due-bucket d b due) 0 leads

-- the phase of an entry after the next tick
pub next_phase-at : (d : Dial) (leads : List (Option ℕ)) (place lead : ℕ) → place < length leads → get_or leads place None ≡ Some lead → get_or (map (option_map (next_phase d.rule)) (seen_phases d leads)) place None ≡ Some (phase_at (turned d) lead)
next_phase-at d leads place lead lt is =
    ap (λ xs. get_or xs place None) (sym (seen_phases-turned d leads))
    ∙ get_or-map (option_map (phase_at (turned d))) leads place None None lt
    ∙ ap (option_map (phase_at (turned d))) is

pub next_phase-at_none : (d : Dial) (leads : List (Option ℕ)) (place : ℕ) → place < length leads → get_or leads place None ≡ None → get_or (map (option_map (next_phase d.rule)) (seen_phases d leads)) place None ≡ None
next_phase-at_none d leads place lt is =
    ap (λ xs. get_or xs place None) (sym (seen_phases-turned d leads))
    ∙ get_or-map (option_map (phase_at (turned d))) leads place None None lt
    ∙ ap (option_map (phase_at (turned d))) is

-- a settled entry has no phase already
pub seen_phases-settled : (d : Dial) (leads : List (Option ℕ)) (place : ℕ) → place < length leads → get_or leads place None ≡ None → set (seen_phases d leads) place None ≡ seen_phases d leads
seen_phases-settled d leads place lt is =
    let e : get_or (seen_phases d leads) place None ≡ None = get_or-map (option_map (phase_at d)) leads place None None lt ∙ ap (option_map (phase_at d)) is in
    ap (set (seen_phases d leads) place) (sym e) ∙ set-get_or (seen_phases d leads) place None

pub seen_phases-set : (d : Dial) (leads : List (Option ℕ)) (place : ℕ) → seen_phases d (set leads place None) ≡ set (seen_phases d leads) place None
seen_phases-set d leads place = map-set (option_map (phase_at d)) leads place None

AllByRecursion-push : {A : Type 0} (P : A → Type 0) (xs : List A) (y : A) → AllByRecursion P xs → P y → AllByRecursion P (xs ++ y ∷ [])
AllByRecursion-push P [] y h p = (p, tt)
AllByRecursion-push P (x ∷ xs) y h p = (h.0, AllByRecursion-push P xs y h.1 p)

AllByRecursion-set : {A : Type 0} (P : A → Type 0) (xs : List A) (i : ℕ) (y : A) → AllByRecursion P xs → P y → AllByRecursion P (set xs i y)
AllByRecursion-set P [] i y h p = tt
AllByRecursion-set P (x ∷ xs) Prim.Native.Nat.zero y h p = (p, h.1)
AllByRecursion-set P (x ∷ xs) (Prim.Native.Nat.suc i) y h p = (h.0, AllByRecursion-set P xs i y h.1 p)

-- places that were there are there when an entry comes
in_longer : (leads : List (Option ℕ)) (lead : Option ℕ) (ks : List ℕ) → AllByRecursion (λ k. k < length leads) ks → AllByRecursion (λ k. k < length (leads ++ lead ∷ [])) ks
in_longer leads lead ks h = all_weaker (λ k. k < length leads) (λ k. k < length (leads ++ lead ∷ [])) (λ k lt. omega (arith, lt, length-append leads (lead ∷ []))) ks h

-- one settled entry more
pub IsKept-settled : (r : Rule) (leads leads' : List (Option ℕ)) (buckets : List (List ℕ)) → IsKept r leads buckets → leads' ≡ leads ++ None ∷ [] → IsKept r leads' buckets
IsKept-settled r leads leads' buckets k e = rw e (record {
  on_circle = AllByRecursion-push (IsLead r) leads None k.on_circle tt;
  as_many = k.as_many;
  in_range = λ b lt. in_longer leads None _ (k.in_range b lt);
  by_lead = λ b lt. filter-entered leads None _ (k.in_range b lt) ∙ k.by_lead b lt ∙ sym (places_from-push_other (in_bucket r b) 0 leads None refl);
})

-- one open entry more
pub IsKept-open : (r : Rule) (leads leads' : List (Option ℕ)) (buckets buckets' : List (List ℕ)) (lead b : ℕ) → IsKept r leads buckets → lead < phases_of r → b ≡ lead % r.again → b < r.again → leads' ≡ leads ++ Some lead ∷ [] →
    buckets' ≡ set buckets b (get_or buckets b [] ++ length leads ∷ []) → IsKept r leads' buckets'
IsKept-open r leads leads' buckets buckets' lead b k on_circle is_b lt e f =
    let inside : b < length buckets = omega (arith, k.as_many) in
    let here : get_or buckets' b [] ≡ get_or buckets b [] ++ length leads ∷ [] = ap (λ ks. get_or ks b []) f ∙ get_or-set_same buckets b _ [] inside in
    let there : (a : ℕ) → (a ≡ b → ⊥) → get_or buckets' a [] ≡ get_or buckets a [] = λ a other. ap (λ ks. get_or ks a []) f ∙ get_or-set_other buckets b a _ [] other in
    let mine : AllByRecursion (λ n. n < length (leads ++ Some lead ∷ [])) (get_or buckets b [] ++ length leads ∷ []) =
    AllByRecursion-push (λ n. n < length (leads ++ Some lead ∷ [])) (get_or buckets b []) (length leads) (in_longer leads (Some lead) _ (k.in_range b lt)) (omega (arith, length-append leads (Some lead ∷ []))) in
    let there_open : filter (is_open (leads ++ Some lead ∷ [])) (length leads ∷ []) ≡ length leads ∷ [] = rw (is_open-last leads lead) refl in
    let kept_here : filter (is_open (leads ++ Some lead ∷ [])) (get_or buckets b [] ++ length leads ∷ []) ≡ places_from (in_bucket r b) 0 (leads ++ Some lead ∷ []) =
    filter-append (is_open (leads ++ Some lead ∷ [])) (get_or buckets b []) (length leads ∷ [])
    ∙ ap (λ ks. filter (is_open (leads ++ Some lead ∷ [])) (get_or buckets b []) ++ ks) there_open
    ∙ ap (λ ks. ks ++ length leads ∷ []) (filter-entered leads (Some lead) _ (k.in_range b lt) ∙ k.by_lead b lt)
    ∙ ap (λ n. places_from (in_bucket r b) 0 leads ++ n ∷ []) (sym (zero-add (length leads)))
    ∙ sym (places_from-push (in_bucket r b) 0 leads (Some lead) (eq-eqb _ _ (sym is_b))) in
    rw e (record {
      on_circle = AllByRecursion-push (IsLead r) leads (Some lead) k.on_circle on_circle;
      as_many = ap length f ∙ length-set buckets b _ ∙ k.as_many;
      in_range = λ a below. ⊎_elim
          (λ (same : a ≡ b). subst (λ n. AllByRecursion (λ k. k < length (leads ++ Some lead ∷ [])) (get_or buckets' n [])) (sym same) (rw here mine))
          (λ (other : a ≡ b → ⊥). rw (there a other) (in_longer leads (Some lead) _ (k.in_range a below)))
          (cases_eq a b);
      by_lead = λ a below. ⊎_elim
          (λ (same : a ≡ b). subst (λ n. filter (is_open (leads ++ Some lead ∷ [])) (get_or buckets' n []) ≡ places_from (in_bucket r n) 0 (leads ++ Some lead ∷ [])) (sym same) (rw here kept_here))
          (λ (other : a ≡ b → ⊥).
          ap (filter (is_open (leads ++ Some lead ∷ []))) (there a other)
          ∙ filter-entered leads (Some lead) _ (k.in_range a below)
          ∙ k.by_lead a below
          ∙ sym (places_from-push_other (in_bucket r a) 0 leads (Some lead) (ne_eqb _ _ (λ e. other (sym e ∙ sym is_b)))))
          (cases_eq a b);
    })

-- an entry is settled: of its place is left a hole at most
pub IsKept-unset : (r : Rule) (leads : List (Option ℕ)) (buckets buckets' : List (List ℕ)) (place : ℕ) → IsKept r leads buckets → place < length leads → length buckets' ≡ length buckets →
    ((b : ℕ) → filter (is_open (set leads place None)) (get_or buckets' b []) ≡ filter (is_open (set leads place None)) (get_or buckets b [])) →
    ((b n : ℕ) → AllByRecursion (λ k. k < n) (get_or buckets b []) → AllByRecursion (λ k. k < n) (get_or buckets' b [])) → IsKept r (set leads place None) buckets'
IsKept-unset r leads buckets buckets' place k inside as_many same in_range =
    let long : length (set leads place None) ≡ length leads = length-set leads place None in
    record {
      on_circle = AllByRecursion-set (IsLead r) leads place None k.on_circle tt;
      as_many = as_many ∙ k.as_many;
      in_range = λ b lt. rw long (in_range b (length leads) (k.in_range b lt));
      by_lead = λ b lt.
          same b
          ∙ filter-unset leads place (get_or buckets b [])
          ∙ ap (filter (but place)) (k.by_lead b lt)
          ∙ ap (λ n. filter (but n) (places_from (in_bucket r b) 0 leads)) (sym (zero-add place))
          ∙ sym (places_from-unset (in_bucket r b) 0 leads place None inside refl);
    }

-- a place of an entry is one of a lead
pub inside-place : (d : Dial) (leads : List (Option ℕ)) (t : Rounds) (place : ℕ) → (let seen : Rounds = record { rule = d.rule; phases = seen_phases d leads } in seen ≡ t) → place < length t.phases → place < length leads
inside-place d leads t place e lt =
    let same : length t.phases ≡ length leads = ap (λ (t : Rounds). length t.phases) (sym e) ∙ length-map leads (option_map (phase_at d)) in
    omega (arith, same)

-- the open places of a bucket, by the phases
pub open_by_phase : (d : Dial) (leads : List (Option ℕ)) (ks : List ℕ) → filter (is_open (seen_phases d leads)) ks ≡ filter (is_open leads) ks
open_by_phase d leads ks = filter_agree (is_open (seen_phases d leads)) (is_open leads) (is_open-map (phase_at d) leads) ks

-- a bucket that was changed, and what holds of every bucket alike
pub each-set : {A : Type 0} (P : A → A → Type 0) → ((x : A) → P x x) → (xs : List A) (b : ℕ) (y d : A) → b < length xs → P (get_or xs b d) y → (a : ℕ) → P (get_or xs a d) (get_or (set xs b y) a d)
each-set P same xs b y d lt p a =
    ⊎_elim
    (λ (e : a ≡ b). subst (λ n. P (get_or xs n d) (get_or (set xs b y) n d)) (sym e) (rw (get_or-set_same xs b y d lt) p))
    (λ (other : a ≡ b → ⊥). rw (get_or-set_other xs b a y d other) (same (get_or xs a d)))
    (cases_eq a b)
