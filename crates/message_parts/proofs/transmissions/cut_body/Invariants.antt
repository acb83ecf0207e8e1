use Rattle.std.proofs.Common.{◌≡◌, ◌+◌}
use Rattle.message_parts.specs.Added.{next_bytes, IsCutUpTo}
use Rattle.message_parts.proofs.transmissions.cut_body.Given as goal

-- the parts so far are those of the body up to this place
abbrev pub invariant-loop-left : goal.invariant-loop-left
invariant-loop-left l = record {
  whole : l.cutter.whole ≡ l.fn.cutter.whole;
  place : l.cutter.place + l.left ≡ l.fn.cutter.place + l.fn.size;
  parts : IsCutUpTo l.form l.fn.cutter.place (next_bytes l.fn.cutter l.fn.size) l.fn.cutter.parts l.within l.cutter.place (next_bytes l.cutter l.left) l.cutter.parts;
}

abbrev pub decreases-loop-left : goal.decreases-loop-left
decreases-loop-left l = l.left
