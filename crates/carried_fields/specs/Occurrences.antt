-- Where reject codes occur: what an advice tells behind its codes, beside the codes of a book.
use Rattle.std.specs.Prelude.{ℕ, Bool, ◌&&◌, List, [], ◌∷◌, ◌++◌, drop, filter, bytes_eq, codes, if◌then◌else◌}
use Rattle.std.specs.List.{flat_map}
use Rattle.d0_segments.specs.Parts.{FieldParts, SegmentParts}
use Rattle.claim_profile.specs.Fields.{is_filled}

-- a reject code: 511-FB that has a value
abbrev pub is_code : FieldParts → Bool
is_code f = bytes_eq f.id (codes "FB") && is_filled f.value

-- where a code occurs: 546-4F
abbrev pub is_occurrence : FieldParts → Bool
is_occurrence f = bytes_eq f.id (codes "4F")

-- where a code occurs, if the first of the fields behind it tells that
abbrev pub leading : List FieldParts → List FieldParts
leading [] = []
leading (f ∷ fs) = if is_occurrence f then f ∷ [] else []

-- of each code in these fields the fields behind it
abbrev pub behind_codes : List FieldParts → List (List FieldParts)
behind_codes [] = []
behind_codes (f ∷ fs) = if is_code f then fs ∷ behind_codes fs else behind_codes fs

-- the same of each code in the segments of this identification
abbrev pub behind_codes_in : (id : List ℕ) → List SegmentParts → List (List FieldParts)
behind_codes_in id segments = flat_map (λ s. behind_codes s.fields) (filter (λ s. bytes_eq s.id id) segments)

-- where the first of these codes occurs
abbrev pub first_occurrence : (told : List (List FieldParts)) → List FieldParts
first_occurrence [] = []
first_occurrence (fields ∷ told) = leading fields

-- a book's fields, and behind each of its codes where the next of these occurs
abbrev pub beside : (told : List (List FieldParts)) → (own : List FieldParts) → List FieldParts
beside told [] = []
beside told (f ∷ own) = f ∷ (if is_code f then first_occurrence told ++ beside (drop 1 told) own else beside told own)
