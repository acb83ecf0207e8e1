use Rattle.std.proofs.Common.{sym, ◌∙◌}
use Rattle.d0_segments.specs.Parts.{SegmentParts}
use Rattle.d0_segments.specs.Inside.{fields_left}
use Rattle.claim_profile.specs.OrderTally.{order_seen}
use Rattle.claim_profile.proofs.OrderCounting.{shared_here, shared_elsewhere}
use Rattle.claim_profile.proofs.order_values.OrderValues.count_in_shared.Goals as goal

pub returns-then-is_same-clause-values : goal.returns-then-is_same-clause-values
returns-then-is_same-clause-values c =
    let s : SegmentParts = record { id = c.args.id; fields = fields_left c.args.inside.bytes.now } in
    c.count_insurance_from.ensures.values ∙ sym (shared_here (order_seen c.args.self.now) s (sym c.if-is_same.ensures))

pub returns-clause-values : goal.returns-clause-values
returns-clause-values c =
    let s : SegmentParts = record { id = c.args.id; fields = fields_left c.args.inside.bytes.now } in
    sym (shared_elsewhere (order_seen c.args.self.now) s (sym c.if-is_same.ensures))
