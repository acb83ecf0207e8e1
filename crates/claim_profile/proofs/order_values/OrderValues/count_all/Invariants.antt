use Rattle.std.proofs.Common.{◌≡◌, take}
use Rattle.d0_segments.specs.Views.{segments_parts}
use Rattle.claim_profile.specs.OrderTally.{order_seen, segments_counted}
use Rattle.claim_profile.proofs.order_values.OrderValues.count_all.Given as goal

abbrev pub invariant-loop-segment : goal.invariant-loop-segment
invariant-loop-segment l = order_seen l.self ≡ segments_counted l.level (order_seen l.fn.self) (segments_parts (take l.segment-index l.segments))
