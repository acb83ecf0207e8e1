use Rattle.std.proofs.Common.{◌≡◌, length}
use Rattle.d0_segments.specs.Pieces.{shared_of}
use Rattle.claim_profile.specs.OrderTally.{order_seen, segments_counted}
use Rattle.claim_profile.proofs.order_values.OrderValues.count_from.Given as goal

-- what is counted, and then what is left, is all
abbrev pub invariant-loop-segment : goal.invariant-loop-segment
invariant-loop-segment l = segments_counted l.level (order_seen l.self) (shared_of l.rest.bytes.now) ≡ segments_counted l.level (order_seen l.fn.self) (shared_of l.fn.from.bytes.now)

abbrev pub decreases-loop-segment : goal.decreases-loop-segment
decreases-loop-segment l = length l.rest.bytes.now
