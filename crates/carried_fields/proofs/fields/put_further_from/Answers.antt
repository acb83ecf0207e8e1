use Rattle.std.proofs.Common.{◌++◌}
use Rattle.d0_segments.specs.Texts.{fields_text}
use Rattle.d0_segments.specs.Views.{field_parts}
use Rattle.d0_segments.specs.Inside.{fields_left}
use Rattle.carried_fields.specs.Merging.{further_fields}
use Rattle.carried_fields.proofs.Appended.{next_further}
use Rattle.carried_fields.proofs.fields.put_further_from.Goals as goal

pub loop-field-preserved : goal.loop-field-preserved
loop-field-preserved c =
    let l = c.loop-field in
    rw c.in_ok-put_unless_own.ensures
    (next_further c.args.id l.text.items (fields_left l.rest.bytes.now) (fields_left c.in-Some.behind.bytes.now) (field_parts c.in-Some.field)
    (c.args.text.now.items ++ fields_text (further_fields c.args.id (fields_left c.args.from.bytes.now))) c.in-Some.ensures.fields l.invariant)
