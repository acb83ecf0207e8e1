use Rattle.std.proofs.Common.{[], ◌∷◌, ap, sym, take, ◌∙◌}
use Rattle.d0_segments.specs.Views.{segment_parts, segments_parts}
use Rattle.claim_profile.specs.OrderTally.{OrderTally, order_seen, segments_counted}
use Rattle.claim_profile.proofs.Counting.{map-take_more}
use Rattle.claim_profile.proofs.OrderCounting.{segments_counted-none, segments_counted-append}
use Rattle.claim_profile.proofs.order_values.OrderValues.count_all.Goals as goal

pub loop-segment-init : goal.loop-segment-init
loop-segment-init c = sym (segments_counted-none c.args.level (order_seen c.args.self.now))

pub loop-segment-preserved : goal.loop-segment-preserved
loop-segment-preserved c =
    let first = order_seen c.args.self.now in
    let segments = c.args.segments.now in
    let level = c.args.level in
    c.count_segment.ensures
    ∙ ap (λ (t : OrderTally). segments_counted level t (segment_parts c.segment-item.result ∷ [])) c.loop-segment.invariant
    ∙ sym (segments_counted-append level first (segments_parts (take c.loop-segment.segment-index segments)) (segment_parts c.segment-item.result ∷ []))
    ∙ ap (λ ss. segments_counted level first ss) (sym (map-take_more segment_parts segments c.loop-segment.segment-index c.segment-item.result c.loop-segment-test.true c.segment-item.is))
