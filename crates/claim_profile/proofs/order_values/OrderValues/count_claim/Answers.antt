use Rattle.std.proofs.Common.{[], ◌∷◌, map, take, ap, sym, ◌∙◌}
use Rattle.d0_segments.specs.Views.{field_parts}
use Rattle.claim_profile.specs.OrderTally.{OrderTally, order_seen, fields_counted}
use Rattle.claim_profile.proofs.Counting.{map-take_more}
use Rattle.claim_profile.proofs.OrderCounting.{fields_counted-none, fields_counted-append}
use Rattle.claim_profile.proofs.order_values.OrderValues.count_claim.Goals as goal

pub loop-field-init : goal.loop-field-init
loop-field-init c = sym (fields_counted-none (order_seen c.args.self.now))

pub loop-field-preserved : goal.loop-field-preserved
loop-field-preserved c =
    let first = order_seen c.args.self.now in
    let fields = c.args.fields.now in
    let front = map field_parts (take c.loop-field.field-index fields) in
    let field = field_parts c.field-item.result in
    c.count_claim_field.ensures
    ∙ ap (λ (t : OrderTally). fields_counted t [] (field ∷ []) []) c.loop-field.invariant
    ∙ sym (fields_counted-append first [] [] front (field ∷ []) [] [])
    ∙ ap (λ fs. fields_counted first [] fs []) (sym (map-take_more field_parts fields c.loop-field.field-index c.field-item.result c.loop-field-test.true c.field-item.is))
