use Rattle.std.proofs.Common.{◌≡◌, ◌++◌, length}
use Rattle.d0_segments.specs.Texts.{fields_text}
use Rattle.d0_segments.specs.Inside.{fields_left}
use Rattle.carried_fields.proofs.fields.put_fields.Given as goal

-- what is written, and then what is left, is all
abbrev pub invariant-loop-field : goal.invariant-loop-field
invariant-loop-field l = l.text.items ++ fields_text (fields_left l.rest.bytes.now) ≡ l.fn.text.items ++ fields_text (fields_left l.fn.from.bytes.now)

abbrev pub decreases-loop-field : goal.decreases-loop-field
decreases-loop-field l = length l.rest.bytes.now
