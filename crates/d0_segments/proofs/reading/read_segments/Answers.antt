use Rattle.std.proofs.Common.{◌≡◌, ◌∷◌, ◌++◌, []}
use Rattle.d0_segments.proofs.Taken.{segments_taken, segments_lie}
use Rattle.d0_segments.proofs.reading.read_segments.Goals as goal

pub loop-rest-preserved : goal.loop-rest-preserved
loop-rest-preserved c =
    let more : c.push.new.self.items ≡ c.loop-rest.segments.items ++ c.in_ok-segment.segment ∷ [] = c.in_ok-push.ensures.items in
    rw more (record {
      taken = segments_taken c.args.from c.loop-rest.rest c.in_ok-segment.behind c.loop-rest.segments.items c.in_ok-segment.segment c.loop-rest.invariant.taken c.in_ok-segment.ensures.taken;
      ends = c.in_ok-segment.ensures.ends;
      lent = segments_lie c.args.from c.loop-rest.rest c.loop-rest.segments.items c.in_ok-segment.segment c.loop-rest.invariant.lent c.loop-rest.invariant.taken c.in_ok-segment.ensures.lent;
    })
