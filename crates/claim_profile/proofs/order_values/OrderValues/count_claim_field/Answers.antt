use Rattle.std.proofs.Common.{refl}
use Rattle.d0_segments.specs.Views.{field_parts}
use Rattle.claim_profile.specs.OrderTally.{order_seen}
use Rattle.claim_profile.proofs.OrderCounting.{claim_more}
use Rattle.claim_profile.proofs.order_values.OrderValues.count_claim_field.Goals as goal

pub returns : goal.returns
returns c =
    claim_more (order_seen c.args.self.now) _ (field_parts c.args.field.now) refl c.count_text.ensures c.count.ensures c.count-2.ensures c.count_text-2.ensures c.count_text-3.ensures c.count-3.ensures refl refl
