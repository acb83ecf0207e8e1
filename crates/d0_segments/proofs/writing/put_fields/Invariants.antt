use Rattle.std.proofs.Common.{◌≡◌, ◌++◌, drop, map}
use Rattle.d0_segments.specs.Texts.{fields_text}
use Rattle.d0_segments.specs.Views.{field_parts}
use Rattle.d0_segments.proofs.writing.put_fields.Given as goal

-- what is written, and what is left to write
abbrev pub invariant-loop-field : goal.invariant-loop-field
invariant-loop-field l = l.text.items ++ fields_text (map field_parts (drop l.field-index l.fields)) ≡ l.fn.text.items ++ fields_text (map field_parts l.fields)
