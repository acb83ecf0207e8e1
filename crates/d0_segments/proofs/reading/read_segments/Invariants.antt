use Rattle.std.proofs.Common.{◌≡◌, true, length}
use Rattle.d0_segments.specs.Separators.{ends_segment}
use Rattle.d0_segments.specs.Texts.{segments_text}
use Rattle.d0_segments.specs.Views.{segments_parts}
use Rattle.d0_segments.specs.Lending.{SegmentsLie}
use Rattle.d0_segments.specs.Taking.{Takes}
use Rattle.d0_segments.proofs.reading.read_segments.Given as goal

abbrev pub invariant-loop-rest : goal.invariant-loop-rest
invariant-loop-rest l = record {
  taken : Takes l.fn.from (segments_text (segments_parts l.segments.items)) l.rest;
  ends : ends_segment l.rest.bytes.now ≡ true;
  lent : SegmentsLie l.fn.from.bytes.ref_ptr l.segments.items;
}

abbrev pub decreases-loop-rest : goal.decreases-loop-rest
decreases-loop-rest l = length l.rest.bytes.now
