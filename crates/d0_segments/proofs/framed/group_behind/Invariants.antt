use Rattle.std.proofs.Common.{◌≡◌, ◌<◌, [], length}
use Rattle.std.specs.Prelude.{slice_index_or}
use Rattle.d0_segments.specs.Pieces.{groups_of}
use Rattle.d0_segments.proofs.framed.group_behind.Given as goal

-- the group that is looked for stands after this many others
abbrev pub invariant-loop-group : goal.invariant-loop-group
invariant-loop-group l = record {
  same : slice_index_or (groups_of l.rest.bytes.now) l.left [] ≡ slice_index_or (groups_of l.fn.body.bytes.now) l.fn.others [];
  there : l.left < length (groups_of l.rest.bytes.now);
}

abbrev pub decreases-loop-group : goal.decreases-loop-group
decreases-loop-group l = l.left
