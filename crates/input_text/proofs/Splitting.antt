-- The first line of some bytes, by where the first newline stands.
use Rattle.std.proofs.Common.{◌≡◌, ℕ, suc, ◌+◌, ◌<◌, ◌≤◌, Bool, true, false, cond, eqb, ltb, List, [], ◌∷◌, length, take, drop, Some, None, inl, inr, refl, ap, ◌∙◌, arith}
use Rattle.std.specs.List.{slice_split, position, position_or_len}
use Rattle.std.specs.Str.Lines.{lines, lines_of_parts, strip_carriage_return}
use Rattle.std.proofs.lemmas.List.Splits.{slice_split_none, slice_split_first, length-slice_split}
use Rattle.std.proofs.lemmas.List.Quantifiers.{position-Some}
use Rattle.std.proofs.Math.Dec.{eqb-suc-zero}
use Rattle.std.proofs.lemmas.Bool.{lt-ltb, cases_lt}
use Rattle.std.proofs.lemmas.List.Sums.{position_or_len_is, fails_before_first}

-- a byte is a newline
abbrev pub is_newline : ℕ → Bool
is_newline b = eqb b 10

-- the first of several parts is a line
lines_of_parts-cons : (x : List ℕ) (parts : List (List ℕ)) → 0 < length parts → lines_of_parts (x ∷ parts) ≡ strip_carriage_return x ∷ lines_of_parts parts
lines_of_parts-cons x [] some = absurd (omega arith)
lines_of_parts-cons x (y ∷ more) some = refl

pub lines_at : (bs : List ℕ) (i : ℕ) → position is_newline bs ≡ Some i → lines bs ≡ strip_carriage_return (take i bs) ∷ lines (drop (i + 1) bs)
lines_at bs i here =
    let found = position-Some is_newline bs i 0 here in
    let n : position_or_len is_newline bs ≡ i = position_or_len_is is_newline bs i 0 (omega arith) found.2 (λ _. found.1) in
    let parts : slice_split is_newline bs ≡ take i bs ∷ slice_split is_newline (drop (i + 1) bs) =
    rw n at (slice_split_first is_newline bs 0 (omega arith)) in
    ap lines_of_parts parts ∙ lines_of_parts-cons (take i bs) (slice_split is_newline (drop (i + 1) bs)) (omega (arith, length-slice_split is_newline (drop (i + 1) bs)))

-- no place is given where the test fails
pub le_from_None : (n m : ℕ) (e : cond (ltb m n) (Some m) None ≡ None) → n ≤ m
le_from_None n m e =
    elim (cases_lt m n) [
      | inl lt ↦ let test : ltb m n ≡ true = lt-ltb m n lt in let some : Some m ≡ None = rw test at e in cc
      | inr le ↦ le
    ]

-- without a newline the bytes are one part
pub split_none : (bs : List ℕ) → position is_newline bs ≡ None → slice_split is_newline bs ≡ bs ∷ []
split_none bs nowhere =
    let far : length bs ≤ position_or_len is_newline bs = le_from_None (length bs) (position_or_len is_newline bs) nowhere in
    slice_split_none is_newline bs (λ k d lt. fails_before_first is_newline bs k d (omega arith))

pub lines_none : (bs : List ℕ) → 0 < length bs → position is_newline bs ≡ None → lines bs ≡ bs ∷ []
lines_none [] some nowhere = absurd (omega arith)
lines_none (b ∷ bs) some nowhere =
    let full : eqb (suc (length bs)) 0 ≡ false = eqb-suc-zero (length bs) in
    ap lines_of_parts (split_none (b ∷ bs) nowhere) ∙ (rw full refl)
