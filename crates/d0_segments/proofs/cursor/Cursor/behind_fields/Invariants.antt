use Rattle.std.proofs.Common.{◌≡◌, ◌≤◌, length}
use Rattle.d0_segments.specs.Pieces.{shared_of}
use Rattle.d0_segments.proofs.cursor.Cursor.behind_fields.Given as goal

abbrev pub invariant-loop-behind : goal.invariant-loop-behind
invariant-loop-behind l = record {
  segments : shared_of l.fn.self.bytes.now ≡ shared_of l.rest.bytes.now;
  shorter : length l.rest.bytes.now ≤ length l.fn.self.bytes.now;
}

abbrev pub decreases-loop-behind : goal.decreases-loop-behind
decreases-loop-behind l = length l.rest.bytes.now
