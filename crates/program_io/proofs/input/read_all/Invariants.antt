use Rattle.std.proofs.Common.{◌≡◌, ◌+◌, ◌≤◌, vec_len}
use Rattle.std.specs.Io.KnownBytes.{Consumes}
use Rattle.program_io.proofs.input.read_all.Given as goal

-- the bytes so far came from the front of what was left, one at least a call
abbrev pub invariant-loop : goal.invariant-loop
invariant-loop g l = record {
  front : Consumes (g.S.Source.remaining l.fn.source) (g.S.Source.remaining l.source) l.input.items;
  fits : vec_len l.input ≤ 16777216;
  counted : g.S.Source.calls l.source ≤ g.S.Source.calls l.fn.source + l.counter;
  room : vec_len l.chunk ≡ 65536;
  some : l.counter ≤ vec_len l.input;
}
