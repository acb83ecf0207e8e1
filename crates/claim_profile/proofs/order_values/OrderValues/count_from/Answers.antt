use Rattle.std.proofs.Common.{[], ◌∷◌, ap, sym, ◌∙◌}
use Rattle.d0_segments.specs.Parts.{SegmentParts}
use Rattle.d0_segments.specs.Pieces.{shared_of}
use Rattle.d0_segments.specs.Inside.{fields_left}
use Rattle.claim_profile.specs.OrderTally.{order_seen, segments_counted}
use Rattle.claim_profile.proofs.OrderCounting.{segments_counted-none, segment_next}
use Rattle.claim_profile.proofs.order_values.OrderValues.count_from.Goals as goal

pub loop-segment-preserved : goal.loop-segment-preserved
loop-segment-preserved c =
    let l = c.loop-segment in
    let level = c.args.level in
    let s = c.in-Some.segment in
    let next : SegmentParts = record { id = s.first ∷ s.second ∷ []; fields = fields_left s.fields.bytes.now } in
    let here = rw (c.id.ensures, c.fields.ensures) at c.count_inside-rest.ensures.values in
    let later = rw c.fields.ensures at c.count_inside-rest.ensures.segments in
    ap (segments_counted level (order_seen c.count_inside-rest.new.self)) (sym later)
    ∙ segment_next level (order_seen l.self) (order_seen c.count_inside-rest.new.self) next (shared_of s.fields.bytes.now) here
    ∙ ap (segments_counted level (order_seen l.self)) (sym c.in-Some.ensures.segments) ∙ l.invariant

pub returns : goal.returns
returns c =
    let l = c.loop-segment in
    let level = c.args.level in
    sym (segments_counted-none level (order_seen l.self)) ∙ ap (segments_counted level (order_seen l.self)) (sym c.in_default.ensures.segments) ∙ l.invariant
