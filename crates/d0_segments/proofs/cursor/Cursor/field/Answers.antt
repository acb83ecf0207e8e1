use Rattle.std.proofs.Common.{ap, ◌∙◌}
use Rattle.d0_segments.specs.Views.{field_parts}
use Rattle.d0_segments.specs.Pieces.{shared_of}
use Rattle.d0_segments.specs.Inside.{fields_left}
use Rattle.d0_segments.proofs.Typed.{field_typed}
use Rattle.d0_segments.proofs.Faultless.{inside_facts}
use Rattle.d0_segments.proofs.Left.{fields_behind, segments_behind_field}
use Rattle.d0_segments.proofs.cursor.Cursor.field.Goals as goal

pub returns-then-begins_with-clause-fields : goal.returns-then-begins_with-clause-fields
returns-then-begins_with-clause-fields c =
    let f = c.take_field.result.0 in
    let rest = c.take_field.result.1 in
    ap fields_left c.take_field.ensures ∙ fields_behind (field_parts f) rest.bytes.now (field_typed f) (inside_facts rest.bytes.now rest.framed).0

pub returns-then-begins_with-clause-segments : goal.returns-then-begins_with-clause-segments
returns-then-begins_with-clause-segments c =
    let f = c.take_field.result.0 in
    let rest = c.take_field.result.1 in
    ap shared_of c.take_field.ensures ∙ segments_behind_field (field_parts f) rest.bytes.now (field_typed f)
