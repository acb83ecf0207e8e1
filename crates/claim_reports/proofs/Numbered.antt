-- The numbers of books: a room for them, and their text part by part.
use Rattle.std.proofs.Common.{◌≡◌, ℕ, ◌+◌, ◌-◌, ◌<◌, ◌==◌, Bool, true, false, List, [], ◌∷◌, ◌++◌, cond, length, take, drop, slice_set, refl, sym, ap, ◌∙◌, inl, inr, arith, add-one, length-append}
use Rattle.std.specs.Prelude.{Option, Some, None, nat_lt, position, replicate, suc}
use Rattle.std.specs.List.{position_or_len}
use Rattle.std.proofs.lemmas.Bool.{cases_Bool, ltb-true, ltb-false}
use Rattle.std.proofs.lemmas.List.{drop-replicate, length-set, length-take-le, drop-set-lt, drop-drop}
use Rattle.std.proofs.Math.Seq.{take-suc-set}
use Rattle.claim_reports.specs.declared.books.Span.{Span}
use Rattle.claim_reports.specs.Shelves.{first_of, more_of, onto, parts, with_parts}

-- one element more in a room
pub length-one_more : {A : Type 0} (room : ℕ) (xs : List A) (i : ℕ) (x : A) → length xs ≡ room → length (slice_set xs i x) ≡ room
length-one_more room xs i x len = length-set xs i x ∙ len

pub take-one_more : {A : Type 0} (xs : List A) (i : ℕ) (x : A) → i < length xs → take (i + 1) (slice_set xs i x) ≡ take i xs ++ x ∷ []
take-one_more xs i x lt = rw add-one (take-suc-set xs i x lt)

pub drop-one_more : {A : Type 0} (room : ℕ) (xs : List A) (i : ℕ) (x d : A) → length xs ≡ room → i < room → drop i xs ≡ replicate (room - length (take i xs)) d
    → drop (i + 1) (slice_set xs i x) ≡ replicate (room - length (take (i + 1) (slice_set xs i x))) d
drop-one_more room xs i x d len lt h =
    let below : i < length xs = omega arith in
    let short : length (take i xs) ≡ i = length-take-le i xs (omega arith) in
    let longer : length (take (i + 1) (slice_set xs i x)) ≡ i + 1 = rw (take-one_more xs i x below) (length-append (take i xs) (x ∷ []) ∙ ap (λ (n : ℕ). n + 1) short) in
    let rest : drop i xs ≡ replicate (room - i) d = h ∙ ap (λ (n : ℕ). replicate (room - n) d) short in
    rw longer (drop-set-lt (i + 1) xs i x (omega arith) ∙ sym (drop-drop 1 i xs) ∙ ap (λ (ys : List _). drop 1 ys) rest ∙ drop-replicate 1 (room - i) d ∙ ap (λ (n : ℕ). replicate n d) (omega arith))

-- the place of the first comma, or the length where there is none
abbrev comma_at : List ℕ → ℕ
comma_at text = position_or_len (λ (byte : ℕ). byte == 44) text

-- a text up to its first comma is its first part
cut : (text : List ℕ) → comma_at text < length text → parts text ≡ take (comma_at text) text ∷ parts (drop (comma_at text + 1) text)
cut [] few = absurd (omega (arith, few))
cut (byte ∷ more) few = elim (cases_Bool (byte == 44)) [
  | inl is ↦ rw is refl
  | inr not ↦
      let less : comma_at more < length more = omega (arith, rw not at few) in
      let n = comma_at more in
      let one : 1 + n ≡ suc n = omega arith in
      let next : 1 + n + 1 ≡ suc (n + 1) = omega arith in
      rw not (ap (onto byte) (cut more less) ∙ sym (λ i. take (one i) (byte ∷ more) ∷ parts (drop (next i) (byte ∷ more))))
]

whole : (text : List ℕ) → (comma_at text < length text → ⊥) → parts text ≡ text ∷ []
whole [] none = refl
whole (byte ∷ more) none = elim (cases_Bool (byte == 44)) [
  | inl is ↦ absurd (rw is at none (omega arith))
  | inr not ↦ rw not (ap (onto byte) (whole more (λ less. rw not at none (omega (arith, less)))))
]

-- a part more, after these numbers and ranges
cut_at : (text : List ℕ) (place : ℕ) → first_of 44 text ≡ Some place → parts text ≡ take place text ∷ parts (drop (place + 1) text)
cut_at text place e = elim (cases_Bool (nat_lt (comma_at text) (length text))) [
  | inl few ↦
      let is : comma_at text ≡ place = same (comma_at text) place (rw few at e) in
      rw is at (cut text (ltb-true (comma_at text) (length text) few))
  | inr none ↦ absurd (no_place place (rw none at e))
]
  where
    same : (a b : ℕ) → let o : Option ℕ = Some a in o ≡ Some b → a ≡ b
    same a b e = cc e

    no_place : (b : ℕ) → let o : Option ℕ = None in o ≡ Some b → ⊥
    no_place b e = cc e

pub part_more : (books : Option (List Span)) (text : List ℕ) (place : ℕ) → first_of 44 text ≡ Some place
    → with_parts books (parts text) ≡ with_parts (more_of books (take place text)) (parts (drop (place + 1) text))
part_more books text place at = ap (with_parts books) (cut_at text place at)

pub part_last : (books : Option (List Span)) (text : List ℕ) → first_of 44 text ≡ None → with_parts books (parts text) ≡ more_of books text
part_last books text e = elim (cases_Bool (nat_lt (comma_at text) (length text))) [
  | inl few ↦ absurd (some_place (comma_at text) (rw few at e))
  | inr none ↦ ap (with_parts books) (whole text (λ less. ltb_not (comma_at text) (length text) none less))
]
  where
    some_place : (a : ℕ) → let o : Option ℕ = Some a in o ≡ None → ⊥
    some_place a e = cc e

    ltb_not : (a b : ℕ) → nat_lt a b ≡ false → a < b → ⊥
    ltb_not a b above less = let le = ltb-false a b above in omega (arith, le, less)
