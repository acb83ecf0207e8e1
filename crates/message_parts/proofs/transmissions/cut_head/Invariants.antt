use Rattle.std.proofs.Common.{◌≡◌, ◌+◌, ◌-◌, ◌++◌, drop}
use Rattle.message_parts.specs.Steps.{head_parts, width_of}
use Rattle.message_parts.specs.Added.{next_bytes}
use Rattle.message_parts.proofs.transmissions.cut_head.Given as goal

-- the parts so far, and those of the rows that are left, are those of the head
abbrev pub invariant-loop-kind : goal.invariant-loop-kind
invariant-loop-kind l = record {
  whole : l.cutter.whole ≡ l.fn.cutter.whole;
  place : l.cutter.place + l.left ≡ l.fn.cutter.place + l.fn.size;
  widths : l.left - width_of (drop l.kind-index l.rows) ≡ l.fn.size - width_of l.rows;
  parts : l.cutter.parts ++ head_parts (drop l.kind-index l.rows) l.cutter.place (next_bytes l.cutter l.left) ≡ l.fn.cutter.parts ++ head_parts l.rows l.fn.cutter.place (next_bytes l.fn.cutter l.fn.size);
}
