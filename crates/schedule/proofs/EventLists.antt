-- How what lines spell is what the first line and the rest spell.
use Rattle.std.proofs.Common.{◌≡◌, ℕ, true, false, List, [], ◌∷◌, ◌++◌, Option, Some, None, Result, Ok, Err, refl, sym, ap, append_assoc}
use Rattle.std.specs.List.{filter_map}
use Rattle.input_text.specs.Lines.{is_skipped}
use Rattle.schedule.specs.Reading.{NumberedLine, told_lines, spelled_in, bad_line, unless_bad}

-- a list before those that may follow
abbrev pub joined : {A : Type 0} → List A → Result (List A) ℕ → Result (List A) ℕ
joined xs (Ok ys) = Ok (xs ++ ys)
joined xs (Err number) = Err number

pub joined-nil : {A : Type 0} (r : Result (List A) ℕ) → joined [] r ≡ r
joined-nil (Ok ys) = refl
joined-nil (Err number) = refl

pub joined-step : {A : Type 0} (xs : List A) (x : A) (r : Result (List A) ℕ) → joined xs (joined (x ∷ []) r) ≡ joined (xs ++ x ∷ []) r
joined-step xs x (Ok ys) = ap (λ zs. Ok zs) (sym (append_assoc xs (x ∷ []) ys))
joined-step xs x (Err number) = refl

joined-unless : {A : Type 0} (bad : Option ℕ) (x : A) (ys : List A) → unless_bad bad (x ∷ ys) ≡ joined (x ∷ []) (unless_bad bad ys)
joined-unless None x ys = refl
joined-unless (Some number) x ys = refl

-- a line that spells something
pub first_taken : {A : Type 0} (f : List ℕ → Option A) (l : NumberedLine) (more : List NumberedLine) (x : A) → f l.1 ≡ Some x → spelled_in f (l ∷ more) ≡ joined (x ∷ []) (spelled_in f more)
unfolding spelled_in
first_taken f l more x is = rw is (joined-unless (bad_line f more) x (filter_map (λ l. f l.1) more))

-- a line that spells nothing
pub first_bad : {A : Type 0} (f : List ℕ → Option A) (l : NumberedLine) (more : List NumberedLine) → f l.1 ≡ None → spelled_in f (l ∷ more) ≡ Err l.0
unfolding spelled_in
first_bad f l more is = rw is refl

-- a line that is skipped
pub line_skipped : {A : Type 0} (f : List ℕ → Option A) (l : NumberedLine) (more : List NumberedLine) → is_skipped l.1 ≡ true → spelled_in f (told_lines (l ∷ more)) ≡ spelled_in f (told_lines more)
line_skipped f l more is = rw is refl

-- a line that is not skipped and spells something
pub line_taken : {A : Type 0} (f : List ℕ → Option A) (l : NumberedLine) (more : List NumberedLine) (x : A) → is_skipped l.1 ≡ false → f l.1 ≡ Some x
    → spelled_in f (told_lines (l ∷ more)) ≡ joined (x ∷ []) (spelled_in f (told_lines more))
line_taken f l more x told is = rw told (first_taken f l (told_lines more) x is)

-- one that spells nothing
pub line_bad : {A : Type 0} (f : List ℕ → Option A) (l : NumberedLine) (more : List NumberedLine) → is_skipped l.1 ≡ false → f l.1 ≡ None → spelled_in f (told_lines (l ∷ more)) ≡ Err l.0
line_bad f l more told is = rw told (first_bad f l (told_lines more) is)

-- no lines
pub no_lines : {A : Type 0} (f : List ℕ → Option A) → spelled_in f (told_lines []) ≡ Ok []
unfolding spelled_in
no_lines f = refl
