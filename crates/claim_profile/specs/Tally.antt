-- Counting values one after another: what a count knows of the values so far.
use Rattle.std.specs.Prelude.{ℕ, List, [], ◌∷◌, Option, Some, None}
use Rattle.claim_profile.specs.declared.found.Found.{Found}
use Rattle.claim_profile.specs.declared.found.Found.TheVariants.{Nothing, One, Several}

-- no value, one value or more
pub data Tally : Type 0 where
  Absent : Tally
  Single : List ℕ → Tally
  Many : Tally

-- a count of the code, without the place of its value in memory
abbrev pub seen : Found → Tally
seen Nothing = Absent
seen (One value) = Single value.now
seen Several = Many

-- one value more
abbrev pub one_more : Tally → List ℕ → Tally
one_more Absent value = Single value
one_more (Single before) value = Many
one_more Many value = Many

-- these values more
unfoldable pub tallied : Tally → List (List ℕ) → Tally
tallied tally [] = tally
tallied tally (v ∷ vs) = tallied (one_more tally v) vs

-- the value, where there is exactly one
abbrev pub the_one : Tally → Option (List ℕ)
the_one Absent = None
the_one (Single value) = Some value
the_one Many = None
