use Rattle.std.proofs.Common.{◌≡◌, ◌+◌, ◌*◌, ◌≤◌, ◌++◌, take, length}
use Rattle.input_text.specs.Printing.{printed}
use Rattle.input_text.proofs.printing.print_rest.Given as goal

-- the bytes so far are written, and there is room for the others
abbrev pub invariant-loop-byte : goal.invariant-loop-byte
invariant-loop-byte l = record {
  put : take l.end l.out ≡ take l.from l.initial.out ++ printed (take l.byte-index l.bytes);
  room : l.end ≤ l.from + 4 * l.byte-index;
  len : length l.out ≡ length l.initial.out;
}
