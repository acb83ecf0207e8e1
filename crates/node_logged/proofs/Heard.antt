-- What a till heard, by whether an answer was heard before.
use Rattle.std.proofs.Common.{◌≡◌, ℕ, false, List, [], ◌∷◌, ◌++◌, Option, Some, None, is_some, refl}
use Rattle.std.proofs.lemmas.Bool.{both_ways}
use Rattle.node_logged.specs.Tills.{heard_also}

-- where no answer was heard, it is the last of what was heard
pub heard_new : (number : ℕ) (answer : List ℕ) (before : Option (List ℕ)) (heard : List (ℕ × List ℕ)) → is_some before ≡ false → heard ++ (number, answer) ∷ [] ≡ heard_also number answer before heard
heard_new number answer None heard e = refl
heard_new number answer (Some a) heard e = absurd (both_ways (is_some (Some a)) e refl)

-- no answer was heard
pub not_heard : {X : Type 0} (before : Option X) → is_some before ≡ false → before ≡ None
not_heard None e = refl
not_heard (Some a) e = absurd (both_ways (is_some (Some a)) e refl)
