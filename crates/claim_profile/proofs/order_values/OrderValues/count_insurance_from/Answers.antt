use Rattle.std.proofs.Common.{[], List, ap, sym, ◌∙◌, arith}
use Rattle.d0_segments.specs.Parts.{FieldParts}
use Rattle.d0_segments.specs.Views.{field_parts}
use Rattle.d0_segments.specs.Inside.{fields_left}
use Rattle.claim_profile.specs.OrderTally.{order_seen, fields_counted}
use Rattle.claim_profile.proofs.OrderCounting.{fields_counted-none, insurance_next}
use Rattle.claim_profile.proofs.order_values.OrderValues.count_insurance_from.Goals as goal

pub loop-field-preserved : goal.loop-field-preserved
loop-field-preserved c =
    let l = c.loop-field in record {
      values = insurance_next (order_seen l.self) (order_seen c.count_insurance_field.new.self) (field_parts c.in-Some.field) (fields_left c.in-Some.behind.bytes.now) c.count_insurance_field.ensures ∙ ap (λ fs. fields_counted (order_seen l.self) fs [] []) (sym c.in-Some.ensures.fields) ∙ l.invariant.values;
      segments = l.invariant.segments ∙ c.in-Some.ensures.segments;
      shorter = omega (arith, l.invariant.shorter, c.in-Some.ensures.shorter);
    }

pub returns-clause-values : goal.returns-clause-values
returns-clause-values c =
    let l = c.loop-field in
    sym (fields_counted-none (order_seen l.self)) ∙ ap (λ (fs : List FieldParts). fields_counted (order_seen l.self) fs [] []) (sym c.in_default.ensures.fields) ∙ l.invariant.values
