-- What was taken is what stands there.
use Rattle.std.proofs.Common.{◌≡◌, ℕ, ◌+◌, ◌<◌, ◌≤◌, ◌^◌, Bool, true, false, cond, List, [], ◌∷◌, ◌++◌, length, take, drop, nat_lt, Option, Some, None, refl, sym, ◌∙◌, ap, subst, arith, inl, inr}
use Rattle.std.proofs.lemmas.Bool.{cases_lt}
use Rattle.std.proofs.lemmas.Bool.Decides.{nat_tests}
use Rattle.std.proofs.lemmas.List.{take-append-drop, get_or-drop, get_or-take, length-take-le, get_or_past}
use Rattle.std.proofs.lemmas.Option.{some_pair_parts}
use Rattle.std.proofs.lemmas.Nat.{be_bytes_2, be_bytes_4, be_bytes_8}
use Rattle.std.specs.Int.{w16, w32, w64, to_be_bytes, from_be_bytes}
use Rattle.codec.specs.Fields.{u8_at, u16_at, u32_at, u64_at}
use Rattle.codec.specs.Laws.{AreBytes, IsTaken}

pub drop_bytes : (n : ℕ) (xs : List ℕ) → AreBytes xs → AreBytes (drop n xs)
drop_bytes n xs are = record { below = λ i. rw (get_or-drop n xs i 0) (are.below (n + i)) }

pub take_bytes : (n : ℕ) (xs : List ℕ) → AreBytes xs → n ≤ length xs → AreBytes (take n xs)
take_bytes n xs are room = record {
  below = λ i. elim (cases_lt i n) [
    | inl below ↦ rw (get_or-take n xs i 0 below) (are.below i)
    | inr past ↦ rw (get_or_past (take n xs) i 0 (omega (arith, length-take-le n xs room))) (omega arith)
  ];
}

pub long_from : (m n : ℕ) → nat_lt m n ≡ false → n ≤ m
long_from m n t = grind (arith, nat_tests)

pub long_enough : {A : Type 0} (short : Bool) (x y : A × List ℕ) → cond short None (Some x) ≡ Some y → (short ≡ false) × (x.0 ≡ y.0) × (x.1 ≡ y.1)
long_enough true x y h = cc
long_enough false x y h = let parts = some_pair_parts x.0 y.0 x.1 y.1 h in (refl, parts.0, parts.1)

pub u8_at_taken : (bytes : List ℕ) (n : ℕ) (rest : List ℕ) → AreBytes bytes → u8_at bytes ≡ Some (n, rest) → IsTaken bytes (n ∷ []) rest × (n < 2 ^ 8)
unfolding u8_at
u8_at_taken [] n rest are h = cc
u8_at_taken (b ∷ bs) n rest are h =
    let parts : (b ≡ n) × (bs ≡ rest) = some_pair_parts b n bs rest h in
    let first : b ≡ n = parts.0 in
    let others : bs ≡ rest = parts.1 in
    (record { all = rw (first, others) refl; rest_bytes = rw others at (drop_bytes 1 (b ∷ bs) are) }, rw first at (are.below 0))

-- a number of this many bytes, by how it is read and how it is spelled
number_taken : (size most : ℕ) (read : List ℕ → ℕ) (spell : ℕ → List ℕ) → ((front : List ℕ) → length front ≡ size → AreBytes front → (spell (read front) ≡ front) × (read front < most))
    → (bytes : List ℕ) (n : ℕ) (rest : List ℕ) → AreBytes bytes → cond {A = Option (ℕ × List ℕ)} (nat_lt (length bytes) size) None (Some (read (take size bytes), drop size bytes)) ≡ Some (n, rest) → IsTaken bytes (spell n) rest × (n < most)
number_taken size most read spell back bytes n rest are h =
    let front : List ℕ = take size bytes in
    let passed = long_enough (nat_lt (length bytes) size) (read front, drop size bytes) (n, rest) h in
    let long : size ≤ length bytes = long_from (length bytes) size passed.0 in
    let known = back front (length-take-le size bytes long) (take_bytes size bytes are long) in
    let all : bytes ≡ spell n ++ rest = sym (take-append-drop size bytes) ∙ ap (λ t. t ++ drop size bytes) (sym known.0 ∙ ap spell passed.1) ∙ ap (λ t. spell n ++ t) passed.2 in
    (record { all = all; rest_bytes = subst AreBytes passed.2 (drop_bytes size bytes are) }, subst (λ m. m < most) passed.1 known.1)

pub u16_at_taken : (bytes : List ℕ) (n : ℕ) (rest : List ℕ) → AreBytes bytes → u16_at bytes ≡ Some (n, rest) → IsTaken bytes (to_be_bytes w16 n) rest × (n < 2 ^ 16)
unfolding u16_at
u16_at_taken =
    number_taken 2 (2 ^ 16) (from_be_bytes w16) (to_be_bytes w16) (λ f long are. (be_bytes_2 f (from_be_bytes w16 f) long are.below refl, small f are))
  where
    small : (f : List ℕ) → AreBytes f → from_be_bytes w16 f < 2 ^ 16
    small f are = omega (arith, are.below 0, are.below 1)

pub u32_at_taken : (bytes : List ℕ) (n : ℕ) (rest : List ℕ) → AreBytes bytes → u32_at bytes ≡ Some (n, rest) → IsTaken bytes (to_be_bytes w32 n) rest × (n < 2 ^ 32)
unfolding u32_at
u32_at_taken =
    number_taken 4 (2 ^ 32) (from_be_bytes w32) (to_be_bytes w32) (λ f long are. (be_bytes_4 f (from_be_bytes w32 f) long are.below refl, small f are))
  where
    small : (f : List ℕ) → AreBytes f → from_be_bytes w32 f < 2 ^ 32
    small f are = omega (arith, are.below 0, are.below 1, are.below 2, are.below 3)

pub u64_at_taken : (bytes : List ℕ) (n : ℕ) (rest : List ℕ) → AreBytes bytes → u64_at bytes ≡ Some (n, rest) → IsTaken bytes (to_be_bytes w64 n) rest × (n < 2 ^ 64)
unfolding u64_at
u64_at_taken =
    number_taken 8 (2 ^ 64) (from_be_bytes w64) (to_be_bytes w64) (λ f long are. (be_bytes_8 f (from_be_bytes w64 f) long are.below refl, small f are))
  where
    small : (f : List ℕ) → AreBytes f → from_be_bytes w64 f < 2 ^ 64
    small f are = omega (arith, are.below 0, are.below 1, are.below 2, are.below 3, are.below 4, are.below 5, are.below 6, are.below 7)
