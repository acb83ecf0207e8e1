use Rattle.std.proofs.Common.{[], ◌∷◌, ap, sym, ◌∙◌}
use Rattle.d0_segments.specs.Parts.{SegmentParts}
use Rattle.d0_segments.specs.Inside.{fields_left}
use Rattle.claim_profile.specs.OrderTally.{order_seen, segments_counted}
use Rattle.claim_profile.proofs.order_values.OrderValues.count_inside.Goals as goal

pub returns-in-Shared-clause-values : goal.returns-in-Shared-clause-values
returns-in-Shared-clause-values c =
    let s : SegmentParts = record { id = c.args.id; fields = fields_left c.args.inside.bytes.now } in
    c.count_in_shared.ensures.values ∙ ap (λ level. segments_counted level (order_seen c.args.self.now) (s ∷ [])) (sym c.in-Shared.is)

pub returns-in-Group-clause-values : goal.returns-in-Group-clause-values
returns-in-Group-clause-values c =
    let s : SegmentParts = record { id = c.args.id; fields = fields_left c.args.inside.bytes.now } in
    c.count_in_group.ensures.values ∙ ap (λ level. segments_counted level (order_seen c.args.self.now) (s ∷ [])) (sym c.in-Group.is)
