use Rattle.std.proofs.Common.{◌≡◌, ◌-◌, ◌≤◌, length, take}
use Rattle.std.specs.Io.KnownBytes.{Appends}
use Rattle.program_io.proofs.output.write_output.Given as goal

-- what was written is a beginning of the bytes
abbrev pub invariant-loop-written : goal.invariant-loop-written
invariant-loop-written g l = record {
  within : l.written ≤ length l.bytes;
  front : Appends (g.K.Sink.contents l.fn.sink) (g.K.Sink.contents l.sink) (take l.written l.bytes);
  same_reference : g.K.Sink.loan l.sink ≡ g.K.Sink.loan l.fn.sink;
}

abbrev pub decreases-loop-written : goal.decreases-loop-written
decreases-loop-written g l = length l.bytes - l.written
