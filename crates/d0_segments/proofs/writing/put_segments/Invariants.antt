use Rattle.std.proofs.Common.{◌≡◌, ◌++◌, drop}
use Rattle.d0_segments.specs.Texts.{segments_text}
use Rattle.d0_segments.specs.Views.{segments_parts}
use Rattle.d0_segments.proofs.writing.put_segments.Given as goal

-- what is written, and what is left to write
abbrev pub invariant-loop-segment : goal.invariant-loop-segment
invariant-loop-segment l = l.text.items ++ segments_text (segments_parts (drop l.segment-index l.segments)) ≡ l.fn.text.items ++ segments_text (segments_parts l.segments)
