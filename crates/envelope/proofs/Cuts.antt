-- A head cut into its fields, and put together again.
use Rattle.std.proofs.Common.{◌≡◌, ℕ, ◌+◌, ◌<◌, ◌≤◌, List, [], ◌∷◌, ◌++◌, length, get_or, take, drop, refl, sym, ◌∙◌, ap, arith, inl, inr, append_assoc}
use Rattle.std.proofs.lemmas.List.{take-append-drop, drop-drop, get_or-drop, get_or-take, length-take-le, length-drop, get_or_past}
use Rattle.std.proofs.lemmas.Bool.{cases_lt}

-- each element is a byte
abbrev pub AreBytes : List ℕ → Type 0
AreBytes xs = (i : ℕ) → get_or xs i 0 < 256

cut : (n m : ℕ) (xs : List ℕ) → take n (drop m xs) ++ drop (m + n) xs ≡ drop m xs
cut n m xs = ap (λ t. take n (drop m xs) ++ t) (sym (drop-drop n m xs)) ∙ take-append-drop n (drop m xs)

joined : (a b c d e p q r s t whole : List ℕ) → a ++ t ≡ whole → b ++ s ≡ t → c ++ r ≡ s → d ++ q ≡ r → e ++ p ≡ q → ((((a ++ b) ++ c) ++ d) ++ e) ++ p ≡ whole
joined a b c d e p q r s t whole f1 f2 f3 f4 f5 = simp append_assoc (rw (f5, f4, f3, f2) f1)

-- the fields of a head and what follows are all of the bytes
pub fields : (bytes : List ℕ) → ((((take 2 bytes ++ take 2 (drop 2 bytes)) ++ take 2 (drop 4 bytes)) ++ take 8 (drop 6 bytes)) ++ take 4 (drop 14 bytes)) ++ drop 18 bytes ≡ bytes
fields bytes =
    joined (take 2 bytes) (take 2 (drop 2 bytes)) (take 2 (drop 4 bytes)) (take 8 (drop 6 bytes)) (take 4 (drop 14 bytes)) (drop 18 bytes)
    (drop 14 bytes) (drop 6 bytes) (drop 4 bytes) (drop 2 bytes) bytes
    (take-append-drop 2 bytes) (cut 2 2 bytes) (cut 2 4 bytes) (cut 8 6 bytes) (cut 4 14 bytes)

pub length_field : (n m : ℕ) (bytes : List ℕ) → m + n ≤ length bytes → length (take n (drop m bytes)) ≡ n
length_field n m bytes h = length-take-le n (drop m bytes) (omega (arith, length-drop m bytes))

field_at : (n m i : ℕ) (bytes : List ℕ) → i < n → get_or (take n (drop m bytes)) i 0 ≡ get_or bytes (m + i) 0
field_at n m i bytes h = get_or-take n (drop m bytes) i 0 h ∙ get_or-drop m bytes i 0

pub field_bytes : (n m : ℕ) (bytes : List ℕ) → AreBytes bytes → m + n ≤ length bytes → AreBytes (take n (drop m bytes))
field_bytes n m bytes h room i =
    elim (cases_lt i n) [
      | inl below ↦ rw (field_at n m i bytes below) (h (m + i))
      | inr past ↦ rw (get_or_past (take n (drop m bytes)) i 0 (omega (arith, length_field n m bytes room))) (omega arith)
    ]

two : (xs : List ℕ) → length xs ≡ 2 → xs ≡ get_or xs 0 0 ∷ get_or xs 1 0 ∷ []
two [] h = absurd (omega arith)
two (x ∷ []) h = absurd (omega arith)
two (x ∷ y ∷ []) h = refl
two (x ∷ y ∷ z ∷ zs) h = absurd (omega arith)

-- the two bytes at m
pub pair_at : (m x y : ℕ) (bytes : List ℕ) → m + 2 ≤ length bytes → get_or bytes m 0 ≡ x → get_or bytes (m + 1) 0 ≡ y → take 2 (drop m bytes) ≡ x ∷ y ∷ []
pair_at m x y bytes room ex ey =
    let first : get_or (take 2 (drop m bytes)) 0 0 ≡ x = field_at 2 m 0 bytes (omega arith) ∙ ap (λ k. get_or bytes k 0) (at_zero m) ∙ ex in
    let second : get_or (take 2 (drop m bytes)) 1 0 ≡ y = field_at 2 m 1 bytes (omega arith) ∙ ey in
    two (take 2 (drop m bytes)) (length_field 2 m bytes room) ∙ rw (first, second) refl
  where
    at_zero : (k : ℕ) → k + 0 ≡ k
    at_zero k = omega arith

-- equal fields make equal bytes
pub same_fields : (a a' b b' c c' d d' e e' p : List ℕ) → a ≡ a' → b ≡ b' → c ≡ c' → d ≡ d' → e ≡ e' → ((((a ++ b) ++ c) ++ d) ++ e) ++ p ≡ ((((a' ++ b') ++ c') ++ d') ++ e') ++ p
same_fields a a' b b' c c' d d' e e' p f1 f2 f3 f4 f5 = cc
