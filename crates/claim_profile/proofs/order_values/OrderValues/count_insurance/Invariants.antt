use Rattle.std.proofs.Common.{◌≡◌, [], map, take}
use Rattle.d0_segments.specs.Views.{field_parts}
use Rattle.claim_profile.specs.OrderTally.{order_seen, fields_counted}
use Rattle.claim_profile.proofs.order_values.OrderValues.count_insurance.Given as goal

abbrev pub invariant-loop-field : goal.invariant-loop-field
invariant-loop-field l = order_seen l.self ≡ fields_counted (order_seen l.fn.self) (map field_parts (take l.field-index l.fields)) [] []
