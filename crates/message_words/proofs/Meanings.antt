-- Meanings of values.
use Rattle.std.proofs.Common.{◌≡◌, ◌≢◌, ℕ, Bool, true, false, ◌&&◌, nat_eq, List, [], ◌∷◌, length, None, Some, refl, ap, ◌∙◌, if◌then◌else◌}
use Rattle.claim_profile.specs.declared.transaction.TransactionCode.TheVariants.{Billing, Reversal}
use Rattle.claim_profile.specs.Transaction.{transaction_code}

and_false : (b : Bool) → (b && false) ≡ false
and_false true = refl
and_false false = refl

and_and_false : (a b : Bool) → (a && (b && false)) ≡ false
and_and_false a b = ap (λ c. a && c) (and_false b) ∙ and_false a

neither : {A : Type 0} (a b : Bool) (x y n : A) → a ≡ false → b ≡ false → (if a then x else (if b then y else n)) ≡ n
neither a b x y n p q = (λ i. if p i then x else (if q i then y else n))

-- a value that has not two bytes is no transaction code
pub no_code : (value : List ℕ) → length value ≢ 2 → transaction_code value ≡ None
unfolding transaction_code
no_code [] other = refl
no_code (a ∷ []) other = neither (nat_eq a 66 && false) (nat_eq a 66 && false) (Some Billing) (Some Reversal) None (and_false (nat_eq a 66)) (and_false (nat_eq a 66))
no_code (a ∷ b ∷ []) other = absurd (other refl)
no_code (a ∷ b ∷ c ∷ rest) other =
    neither (nat_eq a 66 && (nat_eq b 49 && false)) (nat_eq a 66 && (nat_eq b 50 && false)) (Some Billing) (Some Reversal) None (and_and_false (nat_eq a 66) (nat_eq b 49)) (and_and_false (nat_eq a 66) (nat_eq b 50))
