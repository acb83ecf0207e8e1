-- The values of a field, wherever they stand in segments of one identification.
use Rattle.std.specs.Prelude.{ℕ, Bool, true, false, List, [], ◌∷◌, map, filter, Option, Some, None, ◌==◌, if◌then◌else◌}
use Rattle.std.specs.List.{flat_map}
use Rattle.std.specs.Str.{bytes_eq}
use Rattle.d0_segments.specs.Parts.{FieldParts, SegmentParts}

-- whether there is a byte
abbrev pub is_filled : List ℕ → Bool
is_filled [] = false
is_filled (b ∷ bs) = true

-- a byte and the text after it, but nothing where both are spaces at the end
abbrev pub before_spaces : ℕ → List ℕ → List ℕ
before_spaces b [] = if b == 32 then [] else b ∷ []
before_spaces b (c ∷ cs) = b ∷ c ∷ cs

-- a text without the spaces at its end
abbrev pub trimmed : List ℕ → List ℕ
trimmed [] = []
trimmed (b ∷ bs) = before_spaces b (trimmed bs)

-- a value as it stands
abbrev pub untrimmed : List ℕ → List ℕ
untrimmed value = value

-- the fields of all segments with this identification
unfoldable pub fields_of : List ℕ → List SegmentParts → List FieldParts
fields_of id segments = flat_map (λ s. s.fields) (filter (λ s. bytes_eq s.id id) segments)

-- the values of all fields of this name, but not the empty ones
unfoldable pub values : (List ℕ → List ℕ) → List ℕ → List FieldParts → List (List ℕ)
values reading name fields = filter is_filled (map (λ f. reading f.value) (filter (λ f. bytes_eq f.id name) fields))

-- the values of a number or an amount in the segments of one identification
abbrev pub values_in : List ℕ → List ℕ → List SegmentParts → List (List ℕ)
values_in id name segments = values untrimmed name (fields_of id segments)

-- the values of a text there, without the spaces at its end
abbrev pub texts_in : List ℕ → List ℕ → List SegmentParts → List (List ℕ)
texts_in id name segments = values trimmed name (fields_of id segments)

-- what a required field holds: there is exactly one value, and it passes the test
abbrev pub required : {A : Type 0} → (List ℕ → Option A) → List (List ℕ) → Option A
required test [] = None
required test (v ∷ []) = test v
required test (v ∷ w ∷ vs) = None

-- what an optional field holds: as a required one, or this where there is no value
abbrev pub optional : {A : Type 0} → A → (List ℕ → Option A) → List (List ℕ) → Option A
optional absent test [] = Some absent
optional absent test (v ∷ []) = test v
optional absent test (v ∷ w ∷ vs) = None
