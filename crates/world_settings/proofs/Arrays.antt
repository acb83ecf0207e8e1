-- The items of an array that were read, and those that are left.
use Rattle.std.proofs.Common.{List, ◌++◌, Option, Some, None}

-- items before those that may follow
abbrev pub joined : {A : Type 0} → List A → Option (List A) → Option (List A)
joined front None = None
joined front (Some rest) = Some (front ++ rest)
