use Rattle.std.proofs.Common.{◌≡◌, [], Some, codes, length}
use Rattle.d0_segments.specs.Pieces.{shared_of}
use Rattle.claim_profile.specs.Fields.{untrimmed, values, fields_of}
use Rattle.claim_profile.specs.RulingSeen.{codes_seen, codes_counted}
use Rattle.claim_profile.proofs.answer_values.FoundCodes.of.Given as goal

-- what is counted, and then what is left, is all
abbrev pub invariant-loop-segment : goal.invariant-loop-segment
invariant-loop-segment l =
    codes_counted (codes_seen l.found) (values untrimmed (codes "FB") (fields_of (codes "21") (shared_of l.rest.bytes.now)))
    ≡ codes_counted (Some []) (values untrimmed (codes "FB") (fields_of (codes "21") (shared_of l.fn.group.bytes.now)))

abbrev pub decreases-loop-segment : goal.decreases-loop-segment
decreases-loop-segment l = length l.rest.bytes.now
