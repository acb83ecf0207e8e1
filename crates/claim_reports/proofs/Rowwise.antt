-- What rows give, row by row.
use Rattle.std.proofs.Common.{◌≡◌, ◌<◌, ℕ, ◌+◌, List, [], ◌∷◌, ◌++◌, length, get_or, map, drop, refl, sym, ap, ◌∙◌, append_assoc, append-nil}
use Rattle.std.specs.Prelude.{Option, Some, None, option_map, option_and_then}
use Rattle.std.proofs.lemmas.List.{drop_more}
use Rattle.claim_reports.specs.Tables.{given, given_by}

-- what is left, after what there is
abbrev pub behind : {A : Type 0} → List A → Option (List A) → Option (List A)
behind xs o = option_map (λ ys. xs ++ ys) o

pub behind_nothing : {A : Type 0} (o : Option (List A)) → o ≡ behind [] o
behind_nothing None = refl
behind_nothing (Some ys) = refl

more_behind : {A : Type 0} (xs one : List A) (o : Option (List A)) → behind xs (option_map (λ ys. one ++ ys) o) ≡ behind (xs ++ one) o
more_behind xs one None = refl
more_behind xs one (Some ys) = ap Some (sym (append_assoc xs one ys))

pub by_one : {A : Type 0} (read : List (List ℕ) → Option (Option A)) (row : List (List ℕ)) (rows : List (List (List ℕ))) (o : Option A) → read row ≡ Some o
    → given_by read (row ∷ rows) ≡ option_map (λ ys. given o ++ ys) (given_by read rows)
by_one {A = A} read row rows o e = rw e (last (given_by read rows))
  where
    last : (r : Option (List A)) → option_and_then (λ others. Some (given o ++ others)) r ≡ option_map (λ ys. given o ++ ys) r
    last None = refl
    last (Some ys) = refl

-- a row more
pub goes_on : {A B : Type 0} (read : List (List ℕ) → Option (Option A)) (fields_of : B → List (List ℕ)) (records : List B) (i : ℕ) (d : B) (xs : List A) (o : Option A) (all : Option (List A)) → i < length records
    → read (fields_of (get_or records i d)) ≡ Some o
    → all ≡ behind xs (given_by read (map fields_of (drop i records)))
    → all ≡ behind (xs ++ given o) (given_by read (map fields_of (drop (i + 1) records)))
goes_on read fields_of records i d xs o all lt e so_far =
    so_far
    ∙ ap (λ rows. behind xs (given_by read (map fields_of rows))) (drop_more records i d lt)
    ∙ ap (behind xs) (by_one read (fields_of (get_or records i d)) (map fields_of (drop (i + 1) records)) o e)
    ∙ more_behind xs (given o) (given_by read (map fields_of (drop (i + 1) records)))

-- at the end there is what was given
pub ends : {A B : Type 0} (read : List (List ℕ) → Option (Option A)) (fields_of : B → List (List ℕ)) (records : List B) (i : ℕ) (xs : List A) (all : Option (List A)) → drop i records ≡ []
    → all ≡ behind xs (given_by read (map fields_of (drop i records))) → all ≡ Some xs
ends read fields_of records i xs all none so_far =
    so_far ∙ ap (λ rows. behind xs (given_by read (map fields_of rows))) none ∙ ap Some (append-nil xs)
