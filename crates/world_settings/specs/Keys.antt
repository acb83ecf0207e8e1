-- The keys of a table.
use Rattle.std.specs.Prelude.{ℕ, Bool, true, ◌&&◌, List, bytes_eq, Option, None, if◌then◌else◌}
use Rattle.std.specs.List.{list_any}
use Rattle.toml.specs.Data.{Members, no_members, member}

-- the key is one of these
abbrev pub is_among : List (List ℕ) → List ℕ → Bool
is_among known key = list_any (bytes_eq key) known

-- each key of a table is one of these
abbrev pub keys_among : List (List ℕ) → Members → Bool
keys_among known no_members = true
keys_among known (member key value rest) = is_among known key && keys_among known rest

-- what a table spells, where each of its keys is one of these
abbrev pub only_with : {A : Type 0} → List (List ℕ) → Members → Option A → Option A
only_with known table spelled = if keys_among known table then spelled else None
