-- Texts at their first comma, and what their parts name.
use Rattle.std.proofs.Common.{◌≡◌, ℕ, ◌+◌, ◌≤◌, List, [], ◌∷◌, ◌++◌, length, take, drop, Option, Some, None, arith}
use Rattle.std.specs.List.{slice_split, position, position_or_len}
use Rattle.std.proofs.lemmas.List.Splits.{slice_split_none, slice_split_first}
use Rattle.std.proofs.lemmas.List.Quantifiers.{position-Some}
use Rattle.std.proofs.lemmas.List.Sums.{position_or_len_is, fails_before_first}
use Rattle.input_text.proofs.Splitting.{le_from_None}
use Rattle.schedule.specs.Faults.{is_comma}

-- the parts of a text with a comma
pub parts_at : (text : List ℕ) (i : ℕ) → position is_comma text ≡ Some i → slice_split is_comma text ≡ take i text ∷ slice_split is_comma (drop (i + 1) text)
parts_at text i here =
    let found = position-Some is_comma text i 0 here in
    let n : position_or_len is_comma text ≡ i = position_or_len_is is_comma text i 0 (omega arith) found.2 (λ _. found.1) in
    rw n at (slice_split_first is_comma text 0 (omega arith))

-- a text without one is one part
pub parts_none : (text : List ℕ) → position is_comma text ≡ None → slice_split is_comma text ≡ text ∷ []
parts_none text nowhere =
    let far : length text ≤ position_or_len is_comma text = le_from_None (length text) (position_or_len is_comma text) nowhere in
    slice_split_none is_comma text (λ k d lt. fails_before_first is_comma text k d (omega arith))

-- what was read before what may follow
abbrev pub before : {A : Type 0} → List A → Option (List A) → Option (List A)
before xs None = None
before xs (Some ys) = Some (xs ++ ys)
