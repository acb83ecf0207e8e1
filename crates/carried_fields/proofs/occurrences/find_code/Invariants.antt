use Rattle.std.proofs.Common.{◌≡◌, length, drop}
use Rattle.d0_segments.specs.Pieces.{shared_of}
use Rattle.carried_fields.specs.Occurrences.{behind_codes_in}
use Rattle.carried_fields.proofs.occurrences.find_code.Given as goal

-- the code that is looked for stands behind this many of those that are left
abbrev pub invariant-loop-segment : goal.invariant-loop-segment
invariant-loop-segment l = drop l.left (behind_codes_in l.id (shared_of l.rest.bytes.now)) ≡ drop l.fn.others (behind_codes_in l.id (shared_of l.fn.group.bytes.now))

abbrev pub decreases-loop-segment : goal.decreases-loop-segment
decreases-loop-segment l = length l.rest.bytes.now
