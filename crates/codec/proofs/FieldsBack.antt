-- What was put is taken.
use Rattle.std.proofs.Common.{◌≡◌, ℕ, suc, ◌<◌, ◌≤◌, ◌^◌, false, List, ◌∷◌, ◌++◌, length, nat_lt, Some, refl, arith, length-append}
use Rattle.std.proofs.lemmas.Bool.Decides.{nat_tests}
use Rattle.std.proofs.lemmas.Nat.{from_be_bytes-to_be_bytes_2, from_be_bytes-to_be_bytes_4, from_be_bytes-to_be_bytes_8}
use Rattle.std.proofs.lemmas.List.{take_at, drop_at}
use Rattle.std.specs.Int.{w16, w32, w64, to_be_bytes}
use Rattle.codec.specs.Fields.{bytes_at, u8_at, u16_at, u32_at, u64_at}

pub not_less : (m n : ℕ) → n ≤ m → nat_lt m n ≡ false
not_less m n h = grind (arith, nat_tests)

pub bytes_at-put : (count : ℕ) (bytes rest : List ℕ) → length bytes ≡ count → bytes_at count (bytes ++ rest) ≡ Some (bytes, rest)
unfolding bytes_at
bytes_at-put count bytes rest h = rw (not_less (length (bytes ++ rest)) count (omega (arith, length-append bytes rest)), take_at bytes rest count h, drop_at bytes rest count h) refl

pub u8_at-put : (n : ℕ) (rest : List ℕ) → u8_at (n ∷ rest) ≡ Some (n, rest)
unfolding u8_at
u8_at-put n rest = refl

pub u16_at-put : (n : ℕ) (rest : List ℕ) → n < 2 ^ 16 → u16_at (to_be_bytes w16 n ++ rest) ≡ Some (n, rest)
unfolding u16_at
u16_at-put n rest small = rw (not_short (length rest), from_be_bytes-to_be_bytes_2 n small) refl
  where
    not_short : (m : ℕ) → nat_lt (suc (suc m)) 2 ≡ false
    not_short m = grind (arith, nat_tests)

pub u32_at-put : (n : ℕ) (rest : List ℕ) → n < 2 ^ 32 → u32_at (to_be_bytes w32 n ++ rest) ≡ Some (n, rest)
unfolding u32_at
u32_at-put n rest small = rw (not_short (length rest), from_be_bytes-to_be_bytes_4 n small) refl
  where
    not_short : (m : ℕ) → nat_lt (suc (suc (suc (suc m)))) 4 ≡ false
    not_short m = grind (arith, nat_tests)

pub u64_at-put : (n : ℕ) (rest : List ℕ) → n < 2 ^ 64 → u64_at (to_be_bytes w64 n ++ rest) ≡ Some (n, rest)
unfolding u64_at
u64_at-put n rest small = rw (not_short (length rest), from_be_bytes-to_be_bytes_8 n small) refl
  where
    not_short : (m : ℕ) → nat_lt (suc (suc (suc (suc (suc (suc (suc (suc m)))))))) 8 ≡ false
    not_short m = grind (arith, nat_tests)
