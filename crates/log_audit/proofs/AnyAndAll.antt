-- A test of any element of a list, as it is seen.
use Rattle.std.proofs.Common.{◌≡◌, Bool, true, false, ◌&&◌, ◌||◌, List, [], ◌∷◌, map, refl, ap}
use Rattle.std.specs.List.{list_any, list_all}

pub any_seen : {A B : Type 0} (see : A → B) (test : B → Bool) (xs : List A) → list_any (λ x. test (see x)) xs ≡ list_any test (map see xs)
any_seen see test [] = refl
any_seen see test (x ∷ xs) = ap (λ (b : Bool). test (see x) || b) (any_seen see test xs)

-- the same of all of them
pub all_seen : {A B : Type 0} (see : A → B) (test : B → Bool) (xs : List A) → list_all (λ x. test (see x)) xs ≡ list_all test (map see xs)
all_seen see test [] = refl
all_seen see test (x ∷ xs) = ap (λ (b : Bool). test (see x) && b) (all_seen see test xs)

pub both_hold : (a b r : Bool) → a ≡ true → r ≡ b → r ≡ (a && b)
both_hold true b r holds is = is
both_hold false b r holds is = cc

pub one_fails : (a b r : Bool) → r ≡ false → a ≡ false → r ≡ (a && b)
one_fails true b r is fails = cc
one_fails false b r is fails = is
