use Rattle.std.proofs.Common.{refl}
use Rattle.d0_segments.specs.Views.{field_parts}
use Rattle.claim_profile.specs.OrderTally.{order_seen}
use Rattle.claim_profile.proofs.OrderCounting.{pricing_more}
use Rattle.claim_profile.proofs.order_values.OrderValues.count_pricing_field.Goals as goal

pub returns : goal.returns
returns c = pricing_more (order_seen c.args.self.now) _ (field_parts c.args.field.now) refl refl refl refl refl refl refl c.count.ensures c.count-2.ensures
