use Rattle.std.proofs.Common.{◌≡◌, ◌∷◌, ◌++◌, []}
use Rattle.d0_segments.proofs.Taken.{groups_taken, groups_lie, are_groups_more}
use Rattle.d0_segments.proofs.reading.read_groups.Goals as goal

pub loop-rest-preserved : goal.loop-rest-preserved
loop-rest-preserved c =
    let more : c.push.new.self.items ≡ c.loop-rest.groups.items ++ c.in_ok-segments.segments ∷ [] = c.in_ok-push.ensures.items in
    rw more (record {
      taken = groups_taken c.args.from c.loop-rest.rest c.in_ok-segments.behind c.loop-rest.groups.items c.in_ok-segments.segments c.loop-rest.invariant.taken c.in_ok-segments.ensures.taken;
      groups = are_groups_more c.loop-rest.groups.items c.in_ok-segments.segments c.loop-rest.invariant.groups c.in_ok-segments.ensures.group;
      ends = c.in_ok-segments.ensures.ends;
      lent = groups_lie c.args.from c.loop-rest.rest c.loop-rest.groups.items c.in_ok-segments.segments c.loop-rest.invariant.lent c.loop-rest.invariant.taken c.in_ok-segments.ensures.lent;
    })
