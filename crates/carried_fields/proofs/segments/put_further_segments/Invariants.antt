use Rattle.std.proofs.Common.{◌≡◌, ◌++◌, length}
use Rattle.d0_segments.specs.Texts.{segments_text}
use Rattle.d0_segments.specs.Pieces.{shared_of}
use Rattle.carried_fields.specs.Merging.{further_segments}
use Rattle.carried_fields.proofs.segments.put_further_segments.Given as goal

-- what is written, and then what is left, is all
abbrev pub invariant-loop-segment : goal.invariant-loop-segment
invariant-loop-segment l =
    l.text.items ++ segments_text (further_segments (shared_of l.own.bytes.now) (shared_of l.rest.bytes.now)) ≡ l.fn.text.items ++ segments_text (further_segments (shared_of l.own.bytes.now) (shared_of l.fn.said.bytes.now))

abbrev pub decreases-loop-segment : goal.decreases-loop-segment
decreases-loop-segment l = length l.rest.bytes.now
