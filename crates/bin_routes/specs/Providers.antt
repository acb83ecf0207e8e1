-- Ranges of providers.
use Rattle.std.specs.Prelude.{ℕ, Bool, true, false, ◌&&◌, List, Option, Some, None}
use Rattle.std.specs.Str.{bytes_eq}
use Rattle.std.specs.Ordering.{nat_cmp, is_le}
use Rattle.std.specs.Cmp.Lexicographic.{slice_cmp}

-- the providers of a qualifier from the first to the last
pub record Providers : Type 0 where
  pub qualifier : List ℕ
  pub first : List ℕ
  pub last : List ℕ

-- in the order of bytes, the first is the second or before it
abbrev pub is_up_to : List ℕ → List ℕ → Bool
is_up_to a b = is_le (slice_cmp nat_cmp a b)

-- the provider of this qualifier is one of these
unfoldable pub have : Providers → List ℕ → List ℕ → Bool
have r qualifier provider = bytes_eq r.qualifier qualifier && (is_up_to r.first provider && is_up_to provider r.last)

-- some provider may be one of both
unfoldable pub overlap : Providers → Providers → Bool
overlap a b = bytes_eq a.qualifier b.qualifier && (is_up_to a.first b.last && is_up_to b.first a.last)

-- the two ranges overlap, or neither is there
abbrev pub meet : Option Providers → Option Providers → Bool
meet None None = true
meet None (Some b) = false
meet (Some a) None = false
meet (Some a) (Some b) = overlap a b

-- the provider is one of these, if they are there
abbrev pub has_provider : Option Providers → List ℕ → List ℕ → Bool
has_provider None qualifier provider = false
has_provider (Some r) qualifier provider = have r qualifier provider
