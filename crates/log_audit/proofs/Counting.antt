-- Sums as loops make them.
use Rattle.std.proofs.Common.{◌≡◌, ℕ, ◌+◌, ◌-◌, ◌^◌, ◌<◌, ◌≤◌, min, List, [], length, drop, sym, ap, ◌∙◌, arith}
use Rattle.std.proofs.lemmas.List.{drop_all}
use Rattle.log_audit.specs.Ledger.{in_cents}

cents_of_all : (cents : ℕ) → cents < 2 ^ 64 → cents ≡ min (cents + 0) (2 ^ 64 - 1)
cents_of_all cents lt = omega arith

pub cents_are_all : {A : Type 0} (left : List A → ℕ) (cents whole : ℕ) (xs : List A) (i : ℕ) → length xs ≤ i → left [] ≡ 0 → cents < 2 ^ 64 → in_cents (cents + left (drop i xs)) ≡ whole → cents ≡ whole
cents_are_all {A} left cents whole xs i le none lt so_far =
    cents_of_all cents lt ∙ (sym (ap (λ (n : ℕ). in_cents (cents + n)) (ap left (drop_all i xs le) ∙ none)) ∙ so_far)
