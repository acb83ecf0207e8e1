use Rattle.std.proofs.Common.{◌≡◌, List, ◌++◌, length, drop}
use Rattle.d0_segments.specs.Parts.{FieldParts}
use Rattle.d0_segments.specs.Inside.{fields_left}
use Rattle.carried_fields.specs.Occurrences.{behind_codes}
use Rattle.carried_fields.proofs.occurrences.find_code_from.Given as goal

-- the code that is looked for stands behind this many of those that are left, whatever follows
abbrev pub invariant-loop-field : goal.invariant-loop-field
invariant-loop-field l = (later : List (List FieldParts)) → drop l.left (behind_codes (fields_left l.rest.bytes.now) ++ later) ≡ drop l.fn.others (behind_codes (fields_left l.fn.from.bytes.now) ++ later)

abbrev pub decreases-loop-field : goal.decreases-loop-field
decreases-loop-field l = length l.rest.bytes.now
