use Rattle.std.proofs.Common.{sym, ◌∙◌}
use Rattle.d0_segments.specs.Parts.{SegmentParts}
use Rattle.d0_segments.specs.Inside.{fields_left}
use Rattle.claim_profile.specs.OrderTally.{order_seen}
use Rattle.claim_profile.proofs.OrderCounting.{group_claim, group_pricing, group_elsewhere}
use Rattle.claim_profile.proofs.order_values.OrderValues.count_in_group.Goals as goal

pub returns-then-is_same-clause-values : goal.returns-then-is_same-clause-values
returns-then-is_same-clause-values c =
    let s : SegmentParts = record { id = c.args.id; fields = fields_left c.args.inside.bytes.now } in
    c.count_claim_from.ensures.values ∙ sym (group_claim (order_seen c.args.self.now) s (sym c.if-is_same.ensures))

pub returns-then-is_same-2-clause-values : goal.returns-then-is_same-2-clause-values
returns-then-is_same-2-clause-values c =
    let s : SegmentParts = record { id = c.args.id; fields = fields_left c.args.inside.bytes.now } in
    c.count_pricing_from.ensures.values ∙ sym (group_pricing (order_seen c.args.self.now) s (sym c.if-is_same-2.ensures))

pub returns-clause-values : goal.returns-clause-values
returns-clause-values c =
    let s : SegmentParts = record { id = c.args.id; fields = fields_left c.args.inside.bytes.now } in
    sym (group_elsewhere (order_seen c.args.self.now) s (sym c.if-is_same.ensures) (sym c.if-is_same-2.ensures))
