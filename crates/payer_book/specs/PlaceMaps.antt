-- What is found in a first map and in those beside it, of which the hash of a key picks one.
use Rattle.std.specs.Prelude.{◌≡◌, ◌≢◌, ℕ, ◌/◌, ◌^◌, Bool, cond, List, slice_get, Option, Some, None, option_and_then}
use Rattle.std.specs.Option.{option_or}
use Rattle.std.specs.List.{fold}
use Rattle.std.specs.Hash.{HashWrites}
use Rattle.std.specs.Hash.FoldHasher as folding
use Rattle.std.specs.HashMap.{HashMap, get, spare, hasher_of}
use Rattle.payer_book.specs.declared.keys.HashStart.{HashStart}
use Rattle.payer_book.specs.declared.book.place_map.PlaceMap.{PlaceMap}

-- how many more keys it has room for: those that its first map has
abbrev pub room_in : {K : Type 0} → PlaceMap K → ℕ
room_in p = spare p.first

-- the first nine bits of the hash of what is written
abbrev pub number_from : HashStart → HashWrites → ℕ
number_from start writes = folding.finish (fold folding.write start.hasher writes) / 2 ^ 55

-- the number of a key's own map among the others, from what the key is hashed by
abbrev pub number_of : {K : Type 0} → (K → HashWrites) → PlaceMap K → K → ℕ
number_of input p k = number_from (hasher_of p.first) (input k)

module _ {K : Type 0} (eq : K → K → Bool) where
  -- the place that the map of a number has for a key; none where there is no such map
  abbrev pub get_at : List (HashMap K ℕ HashStart) → ℕ → K → Option ℕ
  get_at shards n k = option_and_then (λ m. get eq m k) (slice_get shards n)

  -- no map has a key
  abbrev pub IsEmptyAt : List (HashMap K ℕ HashStart) → Type 0
  IsEmptyAt shards = (n : ℕ) (k : K) → get_at shards n k ≡ None

  -- the maps have what they had
  abbrev pub SameAt : List (HashMap K ℕ HashStart) → List (HashMap K ℕ HashStart) → Type 0
  SameAt old new = (n : ℕ) (k : K) → get_at new n k ≡ get_at old n k

  -- the map of a number has something else for a key, and all else is as it was
  pub record Puts (number : ℕ) (key : K) (place : Option ℕ) (old new : List (HashMap K ℕ HashStart)) : Type 0 where
    pub there : (k : K) → get_at new number k ≡ cond (eq key k) place (get_at old number k)
    pub others : (n : ℕ) (k : K) → n ≢ number → get_at new n k ≡ get_at old n k

  abbrev pub WithKey : ℕ → K → ℕ → List (HashMap K ℕ HashStart) → List (HashMap K ℕ HashStart) → Type 0
  WithKey number key place old new = Puts number key (Some place) old new

  abbrev pub WithoutKey : ℕ → K → List (HashMap K ℕ HashStart) → List (HashMap K ℕ HashStart) → Type 0
  WithoutKey number key old new = Puts number key None old new

  module _ (input : K → HashWrites) where
    -- the place that a key's own map has
    abbrev pub place_apart : PlaceMap K → K → Option ℕ
    place_apart p k = get_at p.shards.items (number_of input p k) k

    -- the place of a key: that of its own map, else that of the first
    abbrev pub place_in : PlaceMap K → K → Option ℕ
    place_in p k = option_or (place_apart p k) (get eq p.first k)

    -- all keys have the places that they had
    abbrev pub SamePlaces : PlaceMap K → PlaceMap K → Type 0
    SamePlaces old new = (k : K) → place_in new k ≡ place_in old k

    -- the key has this place, and the others have theirs
    abbrev pub Keyed : K → ℕ → PlaceMap K → PlaceMap K → Type 0
    Keyed key place old new = (k : K) → place_in new k ≡ cond (eq key k) (Some place) (place_in old k)

    -- the key has no place, and the others have theirs
    abbrev pub Unkeyed : K → PlaceMap K → PlaceMap K → Type 0
    Unkeyed key old new = (k : K) → place_in new k ≡ cond (eq key k) None (place_in old k)
