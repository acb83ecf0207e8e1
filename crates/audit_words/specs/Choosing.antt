-- Of several things of which one at most may be asked for, that one.
use Rattle.std.specs.Prelude.{List, [], ◌∷◌, ◌++◌, Option, Some, None, option_and_then, option_map}

infixl 10 ◌>>=◌
abbrev pub ◌>>=◌ : {A B : Type 0} → Option A → (A → Option B) → Option B
o >>= f = option_and_then f o

-- those that are asked for
abbrev pub asked_one : {A : Type 0} → Option A → List A
asked_one None = []
asked_one (Some x) = x ∷ []

abbrev pub asked_ones : {A : Type 0} → List (Option A) → List A
asked_ones [] = []
asked_ones (one ∷ more) = asked_one one ++ asked_ones more

-- none or one; none at all where there are several
abbrev pub one_at_most : {A : Type 0} → List A → Option (Option A)
one_at_most [] = Some None
one_at_most (x ∷ []) = Some (Some x)
one_at_most (x ∷ y ∷ more) = None

-- what is asked for, where something is, and other words fit it; none at all where they do not
abbrev pub fitting : {A : Type 0} → Option (Option A) → Option (Option A)
fitting None = Some None
fitting (Some fits) = option_map Some fits
