-- Phases stay on their circle, so that every retry goes to a switch of the pharmacy's list.
use Rattle.std.proofs.Common.{◌≡◌, ℕ, zero, suc, ◌+◌, ◌-◌, ◌*◌, ◌/◌, ◌%◌, ◌<◌, ◌≤◌, Bool, true, false, not, ◌==◌, ◌&&◌, cond, List, [], ◌∷◌, map, length, Option, Some, None, slice_get, slice_set, sym, subst, arith, inl, inr, ltb-true}
use Rattle.std.specs.Prelude.{⊤, ◌⊎◌, nat_le}
use Rattle.std.specs.List.{AllByRecursion, list_all}
use Rattle.std.proofs.Math.Nat.{div-lt_iff_lt-mul, mod-lt, mul_comm, mul-pos, div-zero, zero-mul}
use Rattle.std.proofs.lemmas.Option.{get_or_from_slice_get}
use Rattle.std.proofs.lemmas.Bool.{and_parts, not-false}
use Rattle.claim_model.specs.Context.{Context}
use Rattle.claim_model.specs.Numbered.{numbered, renumbered}
use Rattle.claim_model.specs.Journal.{PharmacySettings, RetryRule, opening_rule, State, Waits, Has, Entry, Journal, JournalAtRest, Kept, Sending, circle, switch_at, sending, ticked_state, ticked, due_by, due_from, due, started_state, started, is_rounds, have_switches, most_nodes, is_rule}
use Rattle.claim_model.specs.Settings.{is_empty, is_switch, has_nodes, WorldSettings, Accepts}
use Rattle.claim_model.proofs.Lists.{get_exists, all_append, all_map}
use Rattle.claim_model.proofs.Journals.{entered_journal, settled_journal}
use Rattle.claim_model.proofs.Given.{passed}

pub record IsThere (m count : ℕ) : Type 0 where
  pub above : 0 < m
  pub within : m ≤ count

abbrev pub PhaseFits : RetryRule → State → Type 0
PhaseFits s (Waits phase) = phase / (s.again * s.tries) < length s.nodes
PhaseFits s (Has answer) = ⊤

abbrev pub Phases : Journal → Type 0
Phases j = AllByRecursion (λ (e : Entry). PhaseFits j.rule e.state) j.entries

-- what a rule says of its switches
pub record HasSwitches (s : RetryRule) (count : ℕ) : Type 0 where
  pub some : 0 < length s.nodes
  pub each : list_all (is_switch count) s.nodes ≡ true

list_all_slice : {A : Type 0} (p : A → Bool) (xs : List A) (k : ℕ) (a : A) → list_all p xs ≡ true → slice_get xs k ≡ Some a → p a ≡ true
list_all_slice p [] k a h e = absurd cc
list_all_slice p (x ∷ xs) zero a h e = let same : x ≡ a = cc in subst (λ y. p y ≡ true) same (and_parts (p x) (list_all p xs) h).0
list_all_slice p (x ∷ xs) (suc k) a h e = list_all_slice p xs k a (and_parts (p x) (list_all p xs) h).1 e

pub list_all_numbered : {A : Type 0} (p : A → Bool) (xs : List A) (n : ℕ) (a : A) → list_all p xs ≡ true → numbered xs n ≡ Some a → p a ≡ true
list_all_numbered p xs zero a h e = absurd cc
list_all_numbered p xs (suc k) a h e = list_all_slice p xs k a h e

not_empty : {A : Type 0} (xs : List A) → not (is_empty xs) ≡ true → 0 < length xs
not_empty [] h = absurd (Rattle.std.proofs.lemmas.Bool.false≢true h)
not_empty (x ∷ xs) h = omega arith

-- a rule whose list passes the test
switches_had : (r : RetryRule) (count : ℕ) → have_switches count r.nodes ≡ true → HasSwitches r count
switches_had r count e =
    let h = and_parts (not (is_empty r.nodes)) (list_all (is_switch count) r.nodes) e in
    record { some = not_empty r.nodes h.0; each = h.1 }

opening_switches : (ctx : Context) (given : WorldSettings) (n : ℕ) (s : PharmacySettings) → Accepts ctx given → numbered given.pharmacies n ≡ Some s → HasSwitches (opening_rule s) (length given.switches)
opening_switches ctx given n s accepts e =
    let p = passed given accepts.no_fault in
    let all : list_all (has_nodes (length given.switches)) given.pharmacies ≡ true = not-false _ p.nodes in
    switches_had (opening_rule s) (length given.switches) (list_all_numbered (has_nodes (length given.switches)) given.pharmacies n s all e)

-- a pharmacy goes by the rule that it was opened with, or by one that it took
abbrev pub HasRule : Context → JournalAtRest → Type 0
HasRule ctx j = (j.rule ≡ opening_rule j.settings) ⊎ (is_rule ctx.switches j.rule ≡ true)

-- so its switches are there
pub has_switches : (ctx : Context) (given : WorldSettings) (n : ℕ) (j : JournalAtRest) → Accepts ctx given → numbered given.pharmacies n ≡ Some j.settings → HasRule ctx j → HasSwitches j.rule (length given.switches)
has_switches ctx given n j accepts e (inl as_opened) = subst (λ (r : RetryRule). HasSwitches r (length given.switches)) (sym as_opened) (opening_switches ctx given n j.settings accepts e)
has_switches ctx given n j accepts e (inr taken) =
    let a = and_parts (is_rounds j.rule.again) (is_rounds j.rule.tries && (have_switches ctx.switches j.rule.nodes && nat_le (length j.rule.nodes) most_nodes)) taken in
    let b = and_parts (is_rounds j.rule.tries) (have_switches ctx.switches j.rule.nodes && nat_le (length j.rule.nodes) most_nodes) a.1 in
    let c = and_parts (have_switches ctx.switches j.rule.nodes) (nat_le (length j.rule.nodes) most_nodes) b.1 in
    subst (HasSwitches j.rule) accepts.switches (switches_had j.rule ctx.switches c.0)

switch_there : (count m : ℕ) → is_switch count m ≡ true → IsThere m count
switch_there count zero h = absurd (Rattle.std.proofs.lemmas.Bool.false≢true h)
switch_there count (suc k) h = let l : k < count = ltb-true k count h in record { above = omega arith; within = omega (arith, l) }

-- a phase below the circle is at a place of the list; where there are no turns it is at the first
turn_fits : (turns nodes phase : ℕ) → 0 < nodes → (0 < turns → phase < turns * nodes) → phase / turns < nodes
turn_fits zero nodes phase some fits = let z : phase / 0 ≡ 0 = div-zero phase in omega (arith, z, some)
turn_fits (suc k) nodes phase some fits =
    let above : 0 < suc k = omega arith in
    let flipped : phase < nodes * suc k = subst (λ (x : ℕ). phase < x) (mul_comm (suc k) nodes) (fits above) in
    (div-lt_iff_lt-mul above).1 flipped

-- an entry whose phase fits goes to a switch that is there
pub switch_at_there : (s : RetryRule) (count phase : ℕ) → HasSwitches s count → phase / (s.again * s.tries) < length s.nodes → IsThere (switch_at s phase) count
switch_at_there s count phase h i =
    let x = get_exists s.nodes (phase / (s.again * s.tries)) i in
    let at : switch_at s phase ≡ x.0 = get_or_from_slice_get s.nodes (phase / (s.again * s.tries)) x.0 0 x.1 in
    subst (λ (m : ℕ). IsThere m count) (sym at) (switch_there count x.0 (list_all_slice (is_switch count) s.nodes (phase / (s.again * s.tries)) x.0 h.each x.1))

-- the beginning of the circle fits
pub first_fits : (s : RetryRule) (count : ℕ) → HasSwitches s count → 0 / (s.again * s.tries) < length s.nodes
first_fits s count h = turn_fits (s.again * s.tries) (length s.nodes) 0 h.some (λ above. mul-pos above h.some)

-- what a tick sends goes to switches that are there

due_by_there : (ctx : Context) (j : Journal) (count number : ℕ) (request : List ℕ) (s : State) → HasSwitches j.rule count → PhaseFits j.rule s → AllByRecursion (λ (x : Sending). IsThere x.switch count) (due_by ctx j number request s)
due_by_there ctx j count number request (Has answer) h f = tt
due_by_there ctx j count number request (Waits phase) h f = by_test ((phase % j.rule.again) == 0)
  where
    by_test : (b : Bool) → AllByRecursion (λ (x : Sending). IsThere x.switch count) (cond b (sending ctx j number phase request ∷ []) [])
    by_test true = (switch_at_there j.rule count phase h f, tt)
    by_test false = tt

due_from_there : (ctx : Context) (j : Journal) (count number : ℕ) (es : List Entry) → HasSwitches j.rule count → AllByRecursion (λ (e : Entry). PhaseFits j.rule e.state) es → AllByRecursion (λ (x : Sending). IsThere x.switch count) (due_from ctx j number es)
due_from_there ctx j count number [] h f = tt
due_from_there ctx j count number (e ∷ es) h f =
    all_append (λ (x : Sending). IsThere x.switch count) (due_by ctx j number e.request e.state) (due_from ctx j (number + 1) es) (due_by_there ctx j count number e.request e.state h f.0) (due_from_there ctx j count (number + 1) es h f.1)

pub due_there : (ctx : Context) (j : Journal) (count : ℕ) → HasSwitches j.rule count → Phases j → AllByRecursion (λ (x : Sending). IsThere x.switch count) (due ctx j)
unfolding due
due_there ctx j count h f = due_from_there ctx j count 1 j.entries h f

-- calls keep phases

ticked_fits : (s : RetryRule) (state : State) → 0 < length s.nodes → PhaseFits s state → PhaseFits s (ticked_state (circle s) state)
ticked_fits s (Waits phase) h f = turn_fits (s.again * s.tries) (length s.nodes) ((phase + 1) % circle s) h (λ above. mod-lt (phase + 1) (mul-pos above h))
ticked_fits s (Has answer) h f = tt

pub ticked_phases : (j : Journal) → 0 < length j.rule.nodes → Phases j → Phases (ticked j)
unfolding ticked
ticked_phases j h f = all_map (λ (e : Entry). PhaseFits j.rule e.state) (λ (e : Entry). PhaseFits j.rule e.state) _ (λ e g. ticked_fits j.rule e.state h g) j.entries f

-- where a list has turns, the waiting before the circle's beginning is below the circle
below_circle : (s : RetryRule) → 0 < length s.nodes → 0 < s.again * s.tries → circle s - s.again < circle s
below_circle s some above =
    let again : 0 < s.again = again_above s.again s.tries above in
    let whole : 0 < circle s = mul-pos above some in
    omega (arith, again, whole)
  where
    again_above : (a t : ℕ) → 0 < a * t → 0 < a
    again_above zero t h = let z : 0 * t ≡ 0 = zero-mul t in omega (arith, z, h)
    again_above (suc a) t h = omega arith

started_fits : (s : RetryRule) (o : Option (List ℕ)) → 0 < length s.nodes → PhaseFits s (started_state (circle s - s.again) o)
started_fits s None h = turn_fits (s.again * s.tries) (length s.nodes) (circle s - s.again) h (below_circle s h)
started_fits s (Some answer) h = tt

started_all : (s : RetryRule) (ks : List Kept) → 0 < length s.nodes → AllByRecursion (λ (e : Entry). PhaseFits s e.state) (map (λ (k : Kept). record { request = k.request; state = started_state (circle s - s.again) k.answer }) ks)
started_all s [] h = tt
started_all s (k ∷ ks) h = (started_fits s k.answer h, started_all s ks h)

pub started_phases : (j : JournalAtRest) → 0 < length j.rule.nodes → Phases (started j)
unfolding started
started_phases j h = started_all j.rule j.entries h

pub entered_phases : (j : Journal) (text : List ℕ) → 0 / (j.rule.again * j.rule.tries) < length j.rule.nodes → Phases j → Phases (entered_journal j text)
entered_phases j text h f = all_append (λ (e : Entry). PhaseFits j.rule e.state) j.entries _ f (h, tt)

all_set : {A : Type 0} (P : A → Type 0) (xs : List A) (k : ℕ) (a : A) → P a → AllByRecursion P xs → AllByRecursion P (slice_set xs k a)
all_set P [] k a h all = tt
all_set P (x ∷ xs) zero a h all = (h, all.1)
all_set P (x ∷ xs) (suc k) a h all = (all.0, all_set P xs k a h all.1)

all_renumbered : {A : Type 0} (P : A → Type 0) (xs : List A) (n : ℕ) (a : A) → P a → AllByRecursion P xs → AllByRecursion P (renumbered xs n a)
all_renumbered P xs zero a h all = all
all_renumbered P xs (suc k) a h all = all_set P xs k a h all

pub settled_phases : (j : Journal) (number : ℕ) (e : Entry) (answer : List ℕ) → Phases j → Phases (settled_journal j number e (Has answer))
settled_phases j number e answer f = all_renumbered (λ (x : Entry). PhaseFits j.rule x.state) j.entries number (record { request = e.request; state = Has answer }) tt f
