use Rattle.std.proofs.Common.{[], List, refl, ap, sym, ◌∙◌, arith}
use Rattle.d0_segments.specs.Parts.{FieldParts}
use Rattle.d0_segments.specs.Views.{field_parts}
use Rattle.d0_segments.specs.Inside.{fields_left}
use Rattle.claim_profile.specs.AnswerTally.{answer_seen, answer_fields_counted}
use Rattle.claim_profile.proofs.AnswerCounting.{answer_fields_counted-none, answer_status_more, answer_status_next}
use Rattle.claim_profile.proofs.answer_values.AnswerValues.count_status_from.Goals as goal

pub loop-field-preserved : goal.loop-field-preserved
loop-field-preserved c =
    let l = c.loop-field in
    let before = answer_seen l.self in
    let field = field_parts c.in-Some.field in record {
      values = answer_status_next before _ field (fields_left c.in-Some.behind.bytes.now) (answer_status_more before _ field c.count.ensures c.count-in-Some.ensures c.count-in-Some-2.ensures refl refl refl refl refl refl) ∙ ap (λ fs. answer_fields_counted before fs [] []) (sym c.in-Some.ensures.fields) ∙ l.invariant.values;
      segments = l.invariant.segments ∙ c.in-Some.ensures.segments;
      shorter = omega (arith, l.invariant.shorter, c.in-Some.ensures.shorter);
    }

pub returns-clause-values : goal.returns-clause-values
returns-clause-values c =
    let l = c.loop-field in
    sym (answer_fields_counted-none (answer_seen l.self)) ∙ ap (λ (fs : List FieldParts). answer_fields_counted (answer_seen l.self) fs [] []) (sym c.in_default.ensures.fields) ∙ l.invariant.values
