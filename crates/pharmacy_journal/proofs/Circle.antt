-- Going round the circle of phases.
use Rattle.std.proofs.Common.{◌≡◌, ℕ, ◌+◌, ◌-◌, ◌%◌, ◌<◌, ◌≤◌, eqb, sym, ap, ◌∙◌, arith, ⊎_elim}
use Rattle.std.proofs.Math.Nat.{mod-eq_of_lt, add-mod_right, mod-add-mod, mod-mod_of_dvd, dvd-mul_right, dvd-mul_right_of_dvd, add-mod-mod}
use Rattle.std.proofs.lemmas.Bool.{cases_eq, cases_lt, eq-eqb, ne_eqb}
use Rattle.pharmacy_journal.specs.Retry.{Rule, phases_of}

-- a phase that the clock has not reached
pub ahead : (clock phase circle : ℕ) → clock ≤ phase → phase < circle → (clock + (phase - clock)) % circle ≡ phase
ahead clock phase circle le lt = let e : clock + (phase - clock) ≡ phase = omega arith in rw e (mod-eq_of_lt lt)

-- a phase that it passed
pub behind : (clock phase circle : ℕ) → phase < clock → clock < circle → (clock + (phase + (circle - clock))) % circle ≡ phase
behind clock phase circle lt below =
    let e : clock + (phase + (circle - clock)) ≡ phase + circle = omega arith in
    rw e (add-mod_right phase circle ∙ mod-eq_of_lt (omega arith))

-- the remainder of a phase
pub round_on_circle : (r : Rule) (n : ℕ) → (n % phases_of r) % r.again ≡ n % r.again
round_on_circle r n = mod-mod_of_dvd r.again n (dvd-mul_right_of_dvd r.again (dvd-mul_right r.again r.tries) r.nodes)

wraps : (past rest again : ℕ) → past < again → rest < again → again ≤ past + rest → (past + rest) % again ≡ past + rest - again
wraps past rest again p q ge =
    let e : past + rest ≡ (past + rest - again) + again = omega arith in
    ap (λ n. n % again) e ∙ add-mod_right (past + rest - again) again ∙ mod-eq_of_lt (omega arith)

both : (a b c d : ℕ) → (a ≡ b → c ≡ d) → (c ≡ d → a ≡ b) → eqb a b ≡ eqb c d
both a b c d f g =
    ⊎_elim (λ e. eq-eqb a b e ∙ sym (eq-eqb c d (f e))) (λ n. ne_eqb a b n ∙ sym (ne_eqb c d (λ e. n (g e)))) (cases_eq a b)

-- what is left to a whole round, where nothing has passed
pub whole_round_from_start : (past rest again : ℕ) → past ≡ 0 → rest < again → eqb ((past + rest) % again) 0 ≡ eqb rest 0
whole_round_from_start past rest again e q =
    let s : (past + rest) % again ≡ rest = (let z : past + rest ≡ rest = omega arith in rw z (mod-eq_of_lt q)) in
    ap (λ n. eqb n 0) s

-- and where some has
pub whole_round : (past rest again : ℕ) → 0 < past → past < again → rest < again → eqb ((past + rest) % again) 0 ≡ eqb rest (again - past)
whole_round past rest again z p q =
    ⊎_elim
    (λ lt. let s : (past + rest) % again ≡ past + rest = mod-eq_of_lt lt in
    both _ _ _ _ (λ e. absurd (omega (arith, s, e))) (λ e. absurd (omega (arith, e))))
    (λ ge. let s : (past + rest) % again ≡ past + rest - again = wraps past rest again p q ge in
    both _ _ _ _ (λ e. omega (arith, s, e)) (λ e. omega (arith, s, e)))
    (cases_lt (past + rest) again)

-- the remainder of a phase that the clock reaches by the next tick
pub next_remainder : (r : Rule) (clock lead : ℕ) → (((clock + 1) % phases_of r + lead) % phases_of r) % r.again ≡ ((clock + 1) % r.again + lead % r.again) % r.again
next_remainder r clock lead =
    let a : (((clock + 1) % phases_of r + lead) % phases_of r) % r.again ≡ ((clock + 1) % phases_of r + lead) % r.again = round_on_circle r ((clock + 1) % phases_of r + lead) in
    let b : ((clock + 1) % phases_of r + lead) % r.again ≡ (((clock + 1) % phases_of r) % r.again + lead) % r.again = sym (mod-add-mod ((clock + 1) % phases_of r) r.again lead) in
    let c : (((clock + 1) % phases_of r) % r.again + lead) % r.again ≡ ((clock + 1) % r.again + lead) % r.again = ap (λ n. (n + lead) % r.again) (round_on_circle r (clock + 1)) in
    let d : ((clock + 1) % r.again + lead) % r.again ≡ ((clock + 1) % r.again + lead % r.again) % r.again = sym (add-mod-mod ((clock + 1) % r.again) lead r.again) in
    a ∙ b ∙ c ∙ d

-- the next phase of a lead, where it does not come round the circle, and where it does
pub goes_on : (clock lead circle : ℕ) → clock + 1 + lead < circle → ((clock + 1) % circle + lead) % circle ≡ clock + 1 + lead
goes_on clock lead circle lt = mod-add-mod (clock + 1) circle lead ∙ mod-eq_of_lt lt

pub comes_round : (clock lead circle : ℕ) → clock < circle → lead < circle → circle ≤ clock + 1 + lead → ((clock + 1) % circle + lead) % circle ≡ clock + 1 + lead - circle
comes_round clock lead circle c l ge =
    let e : clock + 1 + lead ≡ (clock + 1 + lead - circle) + circle = omega (arith, ge) in
    mod-add-mod (clock + 1) circle lead ∙ ap (λ n. n % circle) e ∙ add-mod_right (clock + 1 + lead - circle) circle ∙ mod-eq_of_lt (omega (arith, c, l, ge))
