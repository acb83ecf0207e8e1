-- The fault table of the framing, read from left to right.
use Rattle.std.specs.Prelude.{ℕ, ◌≡◌, ◌+◌, List, [], ◌∷◌, Bool, false, not, ◌&&◌, ◌||◌, ◌==◌, Option, None, Some, if◌then◌else◌}
use Rattle.d0_segments.specs.declared.fault.FramingFault.{FramingFault}
use Rattle.d0_segments.specs.declared.fault.FramingFault.TheVariants.{OutOfMemory, NoSegmentStart, NoSegmentId, BadFieldId, EmptyGroup}
use Rattle.d0_segments.specs.Separators.{field_separator, group_separator, segment_separator, is_separator, ends_here, ends_group}

-- whether a byte other than the segment separator and the group separator stands after the header or a group separator
abbrev pub starts_nothing : (before byte : ℕ) → Bool
starts_nothing before byte = not (byte == segment_separator || byte == group_separator) && before == group_separator

-- whether the group separator has another group separator or the end after it
abbrev pub is_empty_group : (byte : ℕ) (behind : List ℕ) → Bool
is_empty_group byte behind = byte == group_separator && ends_group behind

-- whether the field AM with exactly two bytes comes next
abbrev pub has_segment_id : List ℕ → Bool
has_segment_id (f ∷ a ∷ m ∷ x ∷ y ∷ rest) = f == field_separator && a == 65 && m == 77 && not (is_separator x) && not (is_separator y) && ends_here rest
has_segment_id _ = false

-- whether two bytes that are no separators come next
abbrev pub has_field_id : List ℕ → Bool
has_field_id (x ∷ y ∷ rest) = not (is_separator x) && not (is_separator y)
has_field_id _ = false

-- whether the field separator stands after a byte of a segment, and not after the separator that starts the segment
abbrev pub is_later_field : (before byte : ℕ) → Bool
is_later_field before byte = byte == field_separator && not (before == segment_separator) && not (before == group_separator)

-- the row of the table that stands at a place, knowing the byte before, the byte there and those after
abbrev pub fault_at : (before place byte : ℕ) (behind : List ℕ) → Option FramingFault
fault_at before place byte behind =
    if starts_nothing before byte then Some (NoSegmentStart place)
    else (if is_empty_group byte behind then Some (EmptyGroup place)
    else (if byte == segment_separator && not (has_segment_id behind) then Some (NoSegmentId place)
    else (if is_later_field before byte && not (has_field_id behind) then Some (BadFieldId place)
    else None)))

-- the first of two faults
abbrev pub or_else : Option FramingFault → Option FramingFault → Option FramingFault
or_else (Some fault) later = Some fault
or_else None later = later

-- the first row of the table that stands from a place on; the header counts as a group separator in front of its body
abbrev pub first_fault : (before place : ℕ) → List ℕ → Option FramingFault
first_fault before place [] = None
first_fault before place (byte ∷ behind) = or_else (fault_at before place byte behind) (first_fault byte (place + 1) behind)

-- how many group separators there are
abbrev pub count_groups : List ℕ → ℕ
count_groups [] = 0
count_groups (b ∷ bs) = (if b == group_separator then 1 else 0) + count_groups bs

-- a reader that fails tells the fault that was found, unless memory ran out
abbrev pub Fails : FramingFault → Option FramingFault → Type 0
Fails OutOfMemory found = Unit {0}
Fails fault found = found ≡ Some fault
