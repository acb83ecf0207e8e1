use Rattle.std.proofs.Common.{sym, ◌∙◌}
use Rattle.d0_segments.specs.Parts.{SegmentParts}
use Rattle.d0_segments.specs.Inside.{fields_left}
use Rattle.claim_profile.specs.RulingSeen.{codes_seen}
use Rattle.claim_profile.proofs.CodeCounting.{codes_here, codes_elsewhere}
use Rattle.claim_profile.proofs.answer_values.FoundCodes.count_inside.Goals as goal

pub returns-then-is_same-clause-values : goal.returns-then-is_same-clause-values
returns-then-is_same-clause-values c =
    let s : SegmentParts = record { id = c.args.id; fields = fields_left c.args.inside.bytes.now } in
    c.count_status_from.ensures.values ∙ sym (codes_here (codes_seen c.args.self.now) s (sym c.if-is_same.ensures))

pub returns-clause-values : goal.returns-clause-values
returns-clause-values c =
    let s : SegmentParts = record { id = c.args.id; fields = fields_left c.args.inside.bytes.now } in
    sym (codes_elsewhere (codes_seen c.args.self.now) s (sym c.if-is_same.ensures))
