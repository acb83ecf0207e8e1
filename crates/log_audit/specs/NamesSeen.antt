-- References as they are looked up: those so far are in order.
use Rattle.std.specs.Prelude.{◌≡◌, ℕ, ◌==◌, cond, Bool, List, [], ◌∷◌, length, Option, None}
use Rattle.std.specs.List.{list_any}
use Rattle.std.specs.Ordering.{nat_cmp}
use Rattle.std.specs.BTreeMap.{is_at}
use Rattle.std.specs.BTreeSet.{insert_key}
use Rattle.std.specs.Cmp.Lexicographic.{slice_cmp}
use Rattle.log_audit.specs.Names.{Use, fault_of, or_more}
use Rattle.log_audit.specs.declared.reading.referring.Misnamed.{Misnamed}

abbrev pub known_in : List ℕ → List (List ℕ) → Bool
known_in name keys = list_any (is_at (slice_cmp nat_cmp name)) keys

abbrev pub noted_in : List ℕ → List (List ℕ) → List (List ℕ)
noted_in name keys = cond (length name == 0) keys (insert_key (slice_cmp nat_cmp) keys name)

-- the first call whose reference is wrong, where these are known
abbrev pub first_sorted : List (List ℕ) → List Use → Option Misnamed
first_sorted keys [] = None
first_sorted keys (u ∷ more) = or_more (fault_of (known_in u.name keys) u.submits u.name) u.call (first_sorted (noted_in u.name keys) more)

-- the references of calls are known too
abbrev pub all_noted : List (List ℕ) → List Use → List (List ℕ)
all_noted keys [] = keys
all_noted keys (u ∷ more) = all_noted (noted_in u.name keys) more

-- the first of some calls is found, and where there is none all of them are known
pub record Finds (old new : List (List ℕ)) (uses : List Use) (found : Option Misnamed) : Type 0 where
  pub first : found ≡ first_sorted old uses
  pub known : found ≡ None → new ≡ all_noted old uses
