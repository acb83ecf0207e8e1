-- Options that are some.
use Rattle.std.proofs.Common.{◌≡◌, Option, Some, None, refl}
use Rattle.std.specs.Prelude.{IsSome, is_some, true}

pub some_by : {A : Type 0} (o : Option A) → is_some o ≡ true → IsSome o
some_by None is = absurd (cc)
some_by (Some a) is = refl
