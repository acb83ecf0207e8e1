use Rattle.std.proofs.Common.{◌≡◌, ◌+◌, ◌*◌, ◌-◌, ◌≤◌, ◌++◌, take, length}
use Rattle.input_text.specs.Printing.{printed}
use Rattle.input_text.proofs.printing.print.Given as goal

-- the bytes so far are written, and there is room for the others
abbrev pub invariant-loop-place : goal.invariant-loop-place
invariant-loop-place l = record {
  within : l.place ≤ length l.bytes;
  put : take l.end l.out ≡ take l.from l.initial.out ++ printed (take l.place l.bytes);
  room : l.end ≤ l.from + 4 * l.place;
  len : length l.out ≡ length l.initial.out;
}

abbrev pub decreases-loop-place : goal.decreases-loop-place
decreases-loop-place l = length l.bytes - l.place
