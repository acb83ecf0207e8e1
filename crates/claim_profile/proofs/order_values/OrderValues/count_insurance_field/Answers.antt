use Rattle.std.proofs.Common.{refl}
use Rattle.d0_segments.specs.Views.{field_parts}
use Rattle.claim_profile.specs.OrderTally.{order_seen}
use Rattle.claim_profile.proofs.OrderCounting.{insurance_more}
use Rattle.claim_profile.proofs.order_values.OrderValues.count_insurance_field.Goals as goal

pub returns : goal.returns
returns c = insurance_more (order_seen c.args.self.now) _ (field_parts c.args.field.now) c.count_text.ensures refl refl refl refl refl refl refl refl
