use Rattle.std.proofs.Common.{sym, ◌∙◌}
use Rattle.d0_segments.specs.Parts.{SegmentParts}
use Rattle.d0_segments.specs.Inside.{fields_left}
use Rattle.claim_profile.specs.AnswerTally.{answer_seen}
use Rattle.claim_profile.proofs.AnswerCounting.{status_counted, claim_counted, pricing_counted, elsewhere_counted}
use Rattle.claim_profile.proofs.answer_values.AnswerValues.count_inside.Goals as goal

pub returns-then-is_same-clause-values : goal.returns-then-is_same-clause-values
returns-then-is_same-clause-values c =
    let s : SegmentParts = record { id = c.args.id; fields = fields_left c.args.inside.bytes.now } in
    c.count_status_from.ensures.values ∙ sym (status_counted (answer_seen c.args.self.now) s (sym c.if-is_same.ensures))

pub returns-then-is_same-2-clause-values : goal.returns-then-is_same-2-clause-values
returns-then-is_same-2-clause-values c =
    let s : SegmentParts = record { id = c.args.id; fields = fields_left c.args.inside.bytes.now } in
    c.count_claim_from.ensures.values ∙ sym (claim_counted (answer_seen c.args.self.now) s (sym c.if-is_same-2.ensures))

pub returns-then-is_same-3-clause-values : goal.returns-then-is_same-3-clause-values
returns-then-is_same-3-clause-values c =
    let s : SegmentParts = record { id = c.args.id; fields = fields_left c.args.inside.bytes.now } in
    c.count_pricing_from.ensures.values ∙ sym (pricing_counted (answer_seen c.args.self.now) s (sym c.if-is_same-3.ensures))

pub returns-clause-values : goal.returns-clause-values
returns-clause-values c =
    let s : SegmentParts = record { id = c.args.id; fields = fields_left c.args.inside.bytes.now } in
    sym (elsewhere_counted (answer_seen c.args.self.now) s (sym c.if-is_same.ensures) (sym c.if-is_same-2.ensures) (sym c.if-is_same-3.ensures))
