-- What is known of the values of a field.
use Rattle.std.specs.Prelude.{ℕ, Bool, true, false, List}
use Rattle.d0_segments.specs.Parts.{FieldParts, SegmentParts}
use Rattle.claim_profile.specs.Fields.{trimmed, untrimmed, values, fields_of}
use Rattle.claim_profile.specs.Tally.{Tally, Absent, Single, Many, tallied}
use Rattle.message_parts.specs.declared.found.Found.{Found}
use Rattle.message_parts.specs.declared.found.Sought.{Sought}
use Rattle.message_parts.specs.declared.found.Found.TheVariants.{Nothing, One, Several}

-- what was found, without the place of its value in memory
abbrev pub found_seen : Found → Tally
found_seen Nothing = Absent
found_seen (One value) = Single value.now
found_seen Several = Many

-- how a text is read, and how a value that is no text
abbrev pub reading : Bool → List ℕ → List ℕ
reading true value = trimmed value
reading false value = untrimmed value

-- what is known of a field after the values of these fields, and after those in these segments
abbrev pub after_fields : Sought → Tally → List FieldParts → Tally
after_fields sought t fields = tallied t (values (reading sought.is_text) sought.field fields)

abbrev pub after_segments : Sought → Tally → List SegmentParts → Tally
after_segments sought t segments = after_fields sought t (fields_of sought.segment segments)
