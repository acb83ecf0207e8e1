-- Numbers of switches are read from their bytes.
use Rattle.std.proofs.Common.{◌≡◌, ℕ, ◌+◌, ◌*◌, ◌/◌, ◌%◌, List, [], ◌∷◌, refl, ap, ◌∙◌, arith}
use Rattle.std.proofs.Math.Nat.{mod-add-div}
use Rattle.pharmacy_journal.specs.Ruling.{bytes_of, numbers_in}

whole : (n : ℕ) → n / 256 * 256 + n % 256 ≡ n
whole n = let e : n % 256 + 256 * (n / 256) ≡ n = mod-add-div n 256 in omega (arith, e)

pub read_back : (numbers : List ℕ) → numbers_in (bytes_of numbers) ≡ numbers
read_back [] = refl
read_back (n ∷ more) = ap (λ (k : ℕ). k ∷ numbers_in (bytes_of more)) (whole n) ∙ ap (λ (ks : List ℕ). n ∷ ks) (read_back more)
