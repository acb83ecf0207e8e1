-- The rows of the fault table that stand somewhere in a text, and the one with the least place.
use Rattle.std.specs.Prelude.{◌≡◌, ℕ, zero, suc, ◌+◌, ◌<◌, List, length, drop, slice_index, true, false}
use Rattle.d0_segments.specs.declared.fault.FramingFault.{FramingFault}
use Rattle.d0_segments.specs.declared.fault.FramingFault.TheVariants.{NoSegmentStart, NoSegmentId, BadFieldId, EmptyGroup}
use Rattle.d0_segments.specs.Separators.{segment_separator}
use Rattle.d0_segments.specs.Faults.{starts_nothing, is_empty_group, has_segment_id, has_field_id, is_later_field}

-- a row of the table stands at a place, knowing the byte before, the byte there and those after
abbrev pub Stands : (before place byte : ℕ) (behind : List ℕ) → FramingFault → Type 0
Stands before place byte behind (NoSegmentStart at) = (at ≡ place) × (starts_nothing before byte ≡ true)
Stands before place byte behind (EmptyGroup at) = (at ≡ place) × (is_empty_group byte behind ≡ true)
Stands before place byte behind (NoSegmentId at) = (at ≡ place) × (byte ≡ segment_separator) × (has_segment_id behind ≡ false)
Stands before place byte behind (BadFieldId at) = (at ≡ place) × (is_later_field before byte ≡ true) × (has_field_id behind ≡ false)
Stands before place byte behind _ = ⊥

-- the byte before a place of a text, of which one stands in front of it
abbrev pub byte_before : (front : ℕ) → List ℕ → ℕ → ℕ
byte_before front text zero = front
byte_before front text (suc k) = slice_index text k

-- a row stands at the place k of a text that begins at an offset
abbrev pub StandsIn : (front offset : ℕ) (text : List ℕ) (k : ℕ) → FramingFault → Type 0
StandsIn front offset text k fault = (k < length text) × Stands (byte_before front text k) (offset + k) (slice_index text k) (drop (suc k) text) fault

-- the fault stands in the text, and nothing stands before it
pub record IsLeast (front offset : ℕ) (text : List ℕ) (fault : FramingFault) : Type 0 where
  pub place : ℕ
  pub stands : StandsIn front offset text place fault
  pub before : (k : ℕ) (other : FramingFault) → k < place → StandsIn front offset text k other → ⊥
