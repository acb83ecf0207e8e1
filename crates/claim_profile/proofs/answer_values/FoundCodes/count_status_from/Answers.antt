use Rattle.std.proofs.Common.{codes, ap, sym, ◌∙◌, arith}
use Rattle.d0_segments.specs.Views.{field_parts}
use Rattle.d0_segments.specs.Inside.{fields_left}
use Rattle.claim_profile.specs.Fields.{untrimmed, values}
use Rattle.claim_profile.specs.RulingSeen.{codes_seen, codes_counted}
use Rattle.claim_profile.proofs.CodeCounting.{codes_nothing, codes_next}
use Rattle.claim_profile.proofs.answer_values.FoundCodes.count_status_from.Goals as goal

pub loop-field-preserved : goal.loop-field-preserved
loop-field-preserved c =
    let l = c.loop-field in record {
      values = codes_next (codes_seen l.self) (codes_seen c.count.new.self) (field_parts c.in-Some.field) (fields_left c.in-Some.behind.bytes.now) c.count.ensures ∙ ap (λ fs. codes_counted (codes_seen l.self) (values untrimmed (codes "FB") fs)) (sym c.in-Some.ensures.fields) ∙ l.invariant.values;
      segments = l.invariant.segments ∙ c.in-Some.ensures.segments;
      shorter = omega (arith, l.invariant.shorter, c.in-Some.ensures.shorter);
    }

pub returns-clause-values : goal.returns-clause-values
returns-clause-values c =
    let l = c.loop-field in
    sym (codes_nothing (codes_seen l.self)) ∙ ap (λ fs. codes_counted (codes_seen l.self) (values untrimmed (codes "FB") fs)) (sym c.in_default.ensures.fields) ∙ l.invariant.values
