use Rattle.std.proofs.Common.{sym, ◌∙◌}
use Rattle.d0_segments.specs.Views.{field_parts}
use Rattle.d0_segments.specs.Inside.{fields_left}
use Rattle.carried_fields.proofs.CodesFound.{code_passed}
use Rattle.carried_fields.proofs.occurrences.find_code_from.Goals as goal

pub loop-field-preserved-else-left-eq0 : goal.loop-field-preserved-else-left-eq0
loop-field-preserved-else-left-eq0 c =
    let l = c.loop-field in
    λ later.
    code_passed l.left (fields_left l.rest.bytes.now) (fields_left c.in-Some.behind.bytes.now) (field_parts c.in-Some.field) later c.in-Some.ensures.fields
    (sym c.is_code.ensures ∙ c.if-is_code.true) c.if-left-eq0.false
    ∙ l.invariant later
