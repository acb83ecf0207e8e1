-- Plans with other counts of products, and the products of plans one after another.
use Rattle.std.proofs.Common.{◌≡◌, ℕ, zero, suc, ◌<◌, Bool, true, false, ◌&&◌, ◌==◌, List, [], ◌∷◌, length, drop, refl, sym, ap, arith}
use Rattle.std.specs.Prelude.{bytes_eq, slice_get, IfSome}
use Rattle.log_growth.specs.Compared.{same_prices}

never : (b rest : Bool) → rest ≡ false → (b && rest) ≡ false
never true rest e = e
never false rest e = refl

pub other_counts : (old new : List (List ℕ × ℕ)) → (length old ≡ length new → ⊥) → same_prices old new ≡ false
other_counts [] [] d = absurd (d refl)
other_counts [] (q ∷ new) d = refl
other_counts (p ∷ old) [] d = refl
other_counts (p ∷ old) (q ∷ new) d = never (bytes_eq p.0 q.0 && (p.1 == q.1)) (same_prices old new) (other_counts old new (λ e. d (ap suc e)))

-- what is known of the two products at a place
abbrev pub Compares : Bool → List (List ℕ × ℕ) → List (List ℕ × ℕ) → ℕ → Type 0
Compares same old new place = IfSome (slice_get old place) (λ p. IfSome (slice_get new place) (λ q. same ≡ (bytes_eq p.0 q.0 && (p.1 == q.1))))

pub at_place : (place : ℕ) (old new : List (List ℕ × ℕ)) (same : Bool) → place < length old → place < length new → Compares same old new place
    → same_prices (drop place old) (drop place new) ≡ (same && same_prices (drop (suc place) old) (drop (suc place) new))
at_place zero [] new same h g c = absurd (omega arith)
at_place zero (p ∷ old) [] same h g c = absurd (omega arith)
at_place zero (p ∷ old) (q ∷ new) same h g c = ap (λ (t : Bool). t && same_prices old new) (sym c)
at_place (suc place) [] new same h g c = absurd (omega arith)
at_place (suc place) (p ∷ old) [] same h g c = absurd (omega arith)
at_place (suc place) (p ∷ old) (q ∷ new) same h g c = at_place place old new same (omega arith) (omega arith) c
