-- The next bytes of what is left.
use Rattle.std.proofs.Common.{◌≡◌, ◌≤◌, ◌<◌, ℕ, zero, suc, ◌+◌, ◌-◌, List, [], ◌∷◌, ◌⊎◌, inl, inr, length, take, drop, min, refl, ap, sym, ◌∙◌, arith}
use Rattle.std.proofs.lemmas.List.{drop-take, drop-drop, take_all, drop_all, length-take, length-drop}

pub either : (a b : ℕ) → (a ≤ b) ⊎ (b < a)
either zero b = inl (omega arith)
either (suc a) zero = inr (omega arith)
either (suc a) (suc b) = elim (either a b) [ inl h ↦ inl (omega arith) | inr h ↦ inr (omega arith) ]

-- the front of the front
pub take_front : (n m : ℕ) (xs : List ℕ) → n ≤ m → take n (take m xs) ≡ take n xs
take_front zero m xs le = refl
take_front (suc n) zero xs le = absurd (omega arith)
take_front (suc n) (suc m) [] le = refl
take_front (suc n) (suc m) (x ∷ xs) le = ap (λ ys. x ∷ ys) (take_front n m xs (omega arith))

-- the front of what is left after a part
pub front_behind : (whole : List ℕ) (place left count : ℕ) → count ≤ left → take (left - count) (drop (place + count) whole) ≡ drop count (take left (drop place whole))
front_behind whole place left count le =
    let all : left ≡ count + (left - count) = omega arith in
    sym (ap (λ n. drop count (take n (drop place whole))) all ∙ drop-take count (left - count) (drop place whole) ∙ ap (take (left - count)) (drop-drop count place whole))

-- a part that the end may cut off, and what is left after it
pub taken_front : (xs : List ℕ) (width left count : ℕ) → count ≡ min width left → take count xs ≡ take width (take left xs)
taken_front xs width left count e = elim (either width left) [
  | inl h ↦ let k : count ≡ width = omega (arith, e) in ap (λ n. take n xs) k ∙ sym (take_front width left xs h)
  | inr h ↦
      let k : count ≡ left = omega (arith, e) in
      let short : length (take left xs) ≤ width = omega (arith, length-take left xs) in
      ap (λ n. take n xs) k ∙ sym (take_all width (take left xs) short)
]

pub left_behind : (whole : List ℕ) (place width left count : ℕ) → count ≡ min width left → take (left - count) (drop (place + count) whole) ≡ drop width (take left (drop place whole))
left_behind whole place width left count e = elim (either width left) [
  | inl h ↦ let k : count ≡ width = omega (arith, e) in front_behind whole place left count (omega (arith, e)) ∙ ap (λ n. drop n (take left (drop place whole))) k
  | inr h ↦
      let none : left - count ≡ 0 = omega (arith, e) in
      let short : length (take left (drop place whole)) ≤ width = omega (arith, length-take left (drop place whole)) in
      ap (λ n. take n (drop (place + count) whole)) none ∙ sym (drop_all width (take left (drop place whole)) short)
]

-- how many the next bytes are
pub front_length : (whole : List ℕ) (place left : ℕ) → place + left ≤ length whole → length (take left (drop place whole)) ≡ left
front_length whole place left le = let l : left ≤ length whole - place = omega arith in omega (arith, length-take left (drop place whole), length-drop place whole)
