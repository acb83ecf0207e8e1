-- Options and results by cases.
use Rattle.std.proofs.Common.{◌≡◌, Bool, true, false, cond, Option, Some, None, Result, Ok, Err, refl}
use Rattle.std.specs.Prelude.{option_map, option_and_then}

pub map_some : {A B : Type 0} (f : A → B) (o : Option A) (b : B) → option_map f o ≡ Some b → (a : A) × (o ≡ Some a) × (f a ≡ b)
map_some f None b h = absurd cc
map_some f (Some a) b h = (a, refl, cc)

pub then_some : {A B : Type 0} (f : A → Option B) (o : Option A) (b : B) → option_and_then f o ≡ Some b → (a : A) × (o ≡ Some a) × (f a ≡ Some b)
then_some f None b h = absurd cc
then_some f (Some a) b h = (a, refl, h)

pub same_some : {A : Type 0} (a b : A) → ◌≡◌ {A = Option A} (Some a) (Some b) → a ≡ b
same_some a b h = cc

pub same_ok : {A E : Type 0} (a b : A) → ◌≡◌ {A = Result A E} (Ok a) (Ok b) → a ≡ b
same_ok a b h = cc

pub cond_ok : {A E : Type 0} (b : Bool) (r : Result A E) (f : E) (a : A) → cond b r (Err f) ≡ Ok a → (b ≡ true) × (r ≡ Ok a)
cond_ok true r f a h = (refl, h)
cond_ok false r f a h = absurd cc

pub cond_ok_not : {A E : Type 0} (b : Bool) (r : Result A E) (f : E) (a : A) → cond b (Err f) r ≡ Ok a → (b ≡ false) × (r ≡ Ok a)
cond_ok_not true r f a h = absurd cc
cond_ok_not false r f a h = (refl, h)
