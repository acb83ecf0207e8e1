-- Phases on the circle of retries: when an open entry is sent, and to which switch.
use Rattle.std.proofs.Common.{◌≡◌, ℕ, zero, suc, ◌+◌, ◌-◌, ◌*◌, ◌/◌, ◌%◌, ◌<◌, ◌≤◌, Bool, true, false, ◌==◌, cond, List, [], ◌∷◌, ◌++◌, length, Some, slice_get, refl, sym, ap, ◌∙◌, subst, arith, ltb-true, ltb-false}
use Rattle.std.specs.Prelude.{nat_lt, slice_index}
use Rattle.std.proofs.Math.Nat.{mul_left_comm, mod-eq_of_lt, mod-add-mod, mod-mod_of_dvd, dvd-mul_right, mul_assoc, mul_comm, mul-mod_right, add-mod_left, mod-lt, mod-add-div, mul-suc, mul-div_cancel, mul-pos, div-lt_iff_lt-mul, mul-lt-mul_of_pos_right}
use Rattle.std.proofs.lemmas.Option.{get_or_from_slice_get}
use Rattle.claim_model.specs.Context.{Context}
use Rattle.claim_model.specs.Numbered.{numbered}
use Rattle.claim_model.specs.Journal.{RetryRule, Waits, Entry, Journal, Sending, circle, switch_at, sending, due_by, due_from, due}
use Rattle.claim_model.proofs.Tests.{nat_self}

-- ---- what a tick sends

get_beyond : {A : Type 0} (xs ys : List A) (k : ℕ) (a : A) → slice_get ys k ≡ Some a → slice_get (xs ++ ys) (length xs + k) ≡ Some a
get_beyond [] ys k a h = let e : 0 + k ≡ k = omega arith in subst (λ (m : ℕ). slice_get ys m ≡ Some a) (sym e) h
get_beyond (x ∷ xs) ys k a h = let e : length (x ∷ xs) + k ≡ suc (length xs + k) = omega arith in subst (λ (m : ℕ). slice_get (x ∷ xs ++ ys) m ≡ Some a) (sym e) (get_beyond xs ys k a h)

pub numbered_beyond : {A : Type 0} (xs ys : List A) (k : ℕ) (a : A) → slice_get ys k ≡ Some a → numbered (xs ++ ys) (length xs + k + 1) ≡ Some a
numbered_beyond xs ys k a h = let e : length xs + k + 1 ≡ suc (length xs + k) = omega arith in subst (λ (m : ℕ). numbered (xs ++ ys) m ≡ Some a) (sym e) (get_beyond xs ys k a h)

-- an entry whose phase is a multiple of again is among what is sent
pub record IsSent (ctx : Context) (j : Journal) (number phase : ℕ) (request : List ℕ) (out : List Sending) : Type 0 where
  pub place : ℕ
  pub stands : slice_get out place ≡ Some (sending ctx j number phase request)

first_sent : (ctx : Context) (j : Journal) (number phase : ℕ) (request : List ℕ) (more : List Sending) → phase % j.rule.again ≡ 0 → IsSent ctx j number phase request (due_by ctx j number request (Waits phase) ++ more)
first_sent ctx j number phase request more z = go ((phase % j.rule.again) == 0) (subst (λ (x : ℕ). (x == 0) ≡ true) (sym z) (nat_self 0))
  where
    go : (b : Bool) → b ≡ true → IsSent ctx j number phase request (cond b (sending ctx j number phase request ∷ []) [] ++ more)
    go true e = record { place = 0; stands = refl }
    go false e = absurd (Rattle.std.proofs.lemmas.Bool.false≢true e)

due_sent : (ctx : Context) (j : Journal) (number k phase : ℕ) (request : List ℕ) (es : List Entry) → slice_get es k ≡ Some (record { request = request; state = Waits phase }) → phase % j.rule.again ≡ 0
    → IsSent ctx j (number + k) phase request (due_from ctx j number es)
due_sent ctx j number k phase request [] h z = absurd cc
due_sent ctx j number zero phase request (e ∷ es) h z =
    let same : e ≡ record { request = request; state = Waits phase } = cc in
    let n : number + 0 ≡ number = omega arith in
    subst (λ (m : ℕ). IsSent ctx j m phase request (due_from ctx j number (e ∷ es))) (sym n)
    (subst (λ (x : Entry). IsSent ctx j number phase request (due_by ctx j number x.request x.state ++ due_from ctx j (number + 1) es)) (sym same)
    (first_sent ctx j number phase request (due_from ctx j (number + 1) es) z))
due_sent ctx j number (suc k) phase request (e ∷ es) h z =
    let r = due_sent ctx j (number + 1) k phase request es h z in
    let n : number + 1 + k ≡ number + suc k = omega arith in
    record {
      place = length (due_by ctx j number e.request e.state) + r.place;
      stands = get_beyond (due_by ctx j number e.request e.state) (due_from ctx j (number + 1) es) r.place _ r.stands ∙ ap (λ (m : ℕ). Some (sending ctx j m phase request)) n;
    }

pub due_has : (ctx : Context) (j : Journal) (number phase : ℕ) (request : List ℕ) → numbered j.entries number ≡ Some (record { request = request; state = Waits phase }) → phase % j.rule.again ≡ 0 → IsSent ctx j number phase request (due ctx j)
unfolding due
due_has ctx j zero phase request h z = absurd cc
due_has ctx j (suc k) phase request h z =
    let n : 1 + k ≡ suc k = omega arith in
    subst (λ (m : ℕ). IsSent ctx j m phase request (due_from ctx j 1 j.entries)) n (due_sent ctx j 1 k phase request j.entries h z)

-- ---- the circle

-- a phase that is at a place of the list is below the circle
pub phase_below : (s : RetryRule) (phase : ℕ) → 0 < s.again → 0 < s.tries → phase / (s.again * s.tries) < length s.nodes → phase < circle s
phase_below s phase again tries fits =
    subst (λ (x : ℕ). phase < x) (mul_comm (length s.nodes) (s.again * s.tries)) ((div-lt_iff_lt-mul (mul-pos again tries)).0 fits)

pub phase_next : (phase t c : ℕ) → ((phase + t) % c + 1) % c ≡ (phase + suc t) % c
phase_next phase t c = let e : phase + t + 1 ≡ phase + suc t = omega arith in mod-add-mod (phase + t) c 1 ∙ ap (λ (x : ℕ). x % c) e

pub phase_here : (phase c : ℕ) → phase < c → (phase + 0) % c ≡ phase
phase_here phase c below = let e : phase + 0 ≡ phase = omega arith in ap (λ (x : ℕ). x % c) e ∙ mod-eq_of_lt below

-- ticks until the next multiple of again, after at least one
pub record NextTime (s : RetryRule) (phase : ℕ) : Type 0 where
  pub ticks : ℕ
  pub few : suc ticks ≤ s.again
  pub due_then : (phase + suc ticks) % circle s % s.again ≡ 0

pub next_time : (s : RetryRule) (phase : ℕ) → 0 < s.again → NextTime s phase
next_time s phase again =
    let a : ℕ = s.again in
    let r : ℕ = phase % a in
    let q : ℕ = phase / a in
    let below : r < a = mod-lt phase again in
    let split : r + a * q ≡ phase = mod-add-div phase a in
    let up : a * suc q ≡ a * q + a = mul-suc a q in
    let sum : phase + suc (a - suc r) ≡ a * suc q = omega (arith, below, split, up) in
    let whole : s.again * s.tries * length s.nodes ≡ a * (s.tries * length s.nodes) = mul_assoc s.again s.tries (length s.nodes) in
    record {
      ticks = a - suc r;
      few = omega (arith, below);
      due_then =
          ap (λ (x : ℕ). x % circle s % a) sum
          ∙ (ap (λ (x : ℕ). a * suc q % x % a) whole
          ∙ (mod-mod_of_dvd a (a * suc q) (dvd-mul_right a (s.tries * length s.nodes)) ∙ mul-mod_right a (suc q)));
    }

-- ticks until the turn of a place of the list
pub record Turn (s : RetryRule) (phase place : ℕ) : Type 0 where
  pub ticks : ℕ
  pub few : suc ticks ≤ circle s
  pub there : (phase + suc ticks) % circle s ≡ place * (s.again * s.tries)

turn_by : (phase target c : ℕ) → phase < c → target < c → (b : Bool) → nat_lt phase target ≡ b → (t : ℕ) × (suc t ≤ c) × ((phase + suc t) % c ≡ target)
turn_by phase target c below inside true is =
    let before : phase < target = ltb-true phase target is in
    let sum : phase + suc (target - suc phase) ≡ target = omega (arith, before) in
    (target - suc phase, omega (arith, before, inside), ap (λ (x : ℕ). x % c) sum ∙ mod-eq_of_lt inside)
turn_by phase target c below inside false is =
    let after : target ≤ phase = ltb-false phase target is in
    let sum : phase + suc (c - suc phase + target) ≡ c + target = omega (arith, below) in
    (c - suc phase + target, omega (arith, below, after), ap (λ (x : ℕ). x % c) sum ∙ (add-mod_left c target ∙ mod-eq_of_lt inside))

pub turn : (s : RetryRule) (phase place : ℕ) → 0 < s.again → 0 < s.tries → phase < circle s → place < length s.nodes → Turn s phase place
turn s phase place again tries below in_list =
    let b : ℕ = s.again * s.tries in
    let inside : place * b < circle s = subst (λ (x : ℕ). place * b < x) (mul_comm (length s.nodes) b) (mul-lt-mul_of_pos_right in_list (mul-pos again tries)) in
    let t = turn_by phase (place * b) (circle s) below inside (nat_lt phase (place * b)) refl in
    record { ticks = t.0; few = t.1; there = t.2 }

-- at its turn the entry is due, and goes to the switch of that place
pub turn_due : (s : RetryRule) (place : ℕ) → place * (s.again * s.tries) % s.again ≡ 0
turn_due s place =
    let e : place * (s.again * s.tries) ≡ s.again * (place * s.tries) = mul_left_comm place s.again s.tries in
    ap (λ (x : ℕ). x % s.again) e ∙ mul-mod_right s.again (place * s.tries)

pub turn_switch : (s : RetryRule) (place m : ℕ) → 0 < s.again → 0 < s.tries → slice_get s.nodes place ≡ Some m → switch_at s (place * (s.again * s.tries)) ≡ m
turn_switch s place m again tries is =
    ap (λ (x : ℕ). slice_index s.nodes x) (mul-div_cancel place (mul-pos again tries)) ∙ get_or_from_slice_get s.nodes place m 0 is
