-- What a reader takes from the front of the bytes that are left.
use Rattle.std.specs.Prelude.{◌≡◌, ◌≤◌, ℕ, ◌-◌, true, false, List, ◌++◌, length, drop, slice_index, Option}
use Rattle.d0_segments.specs.Separators.{is_separator, ends_here}
use Rattle.d0_segments.specs.declared.fault.FramingFault.{FramingFault}
use Rattle.d0_segments.specs.declared.tail.Tail.{Tail}
use Rattle.d0_segments.specs.Faults.{first_fault}
use Rattle.d0_segments.specs.Address.{beyond}

-- after the text the rest is left, in its place
pub record Takes (before : Tail) (text : List ℕ) (after : Tail) : Type 0 where
  pub parts : before.bytes.now ≡ text ++ after.bytes.now
  pub address : after.bytes.ref_ptr ≡ beyond before.bytes.ref_ptr (length text)
  pub end : after.end ≡ before.end

-- the first fault of the bytes that are left, after a byte of a segment
abbrev pub fault_in : Tail → Option FramingFault
fault_in rest = first_fault 0 (rest.end - length rest.bytes.now) rest.bytes.now

-- the first fault of the bytes that are left after a header or a group separator
abbrev pub fault_behind_header : Tail → Option FramingFault
fault_behind_header rest = first_fault 29 (rest.end - length rest.bytes.now) rest.bytes.now

-- the field AM with exactly two bytes stands after the first byte
pub record IsIdentified (bytes : List ℕ) : Type 0 where
  pub long : 6 ≤ length bytes
  pub field : slice_index bytes 1 ≡ 28
  pub a : slice_index bytes 2 ≡ 65
  pub m : slice_index bytes 3 ≡ 77
  pub first : is_separator (slice_index bytes 4) ≡ false
  pub second : is_separator (slice_index bytes 5) ≡ false
  pub end : ends_here (drop 6 bytes) ≡ true
