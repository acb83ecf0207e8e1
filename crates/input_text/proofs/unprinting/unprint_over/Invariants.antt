use Rattle.std.proofs.Common.{◌≡◌, ◌-◌, ◌≤◌, take, length, drop}
use Rattle.input_text.specs.Printing.{unprinted, unprinted_from}
use Rattle.input_text.proofs.Reading.{onto_all}
use Rattle.input_text.proofs.unprinting.unprint_over.Given as goal

-- what was read, and what the rest spells, is what the whole text spells
abbrev pub invariant-loop-place : goal.invariant-loop-place
invariant-loop-place l = record {
  within : l.place ≤ length l.text;
  read : onto_all (take l.end l.out) (unprinted_from l.place 0 (drop l.place l.text)) ≡ unprinted l.text;
  behind : l.end ≤ l.place;
  len : length l.out ≡ length l.initial.out;
}

abbrev pub decreases-loop-place : goal.decreases-loop-place
decreases-loop-place l = length l.text - l.place

-- the same of the last bytes
abbrev pub invariant-loop-place-2 : goal.invariant-loop-place-2
invariant-loop-place-2 l = record {
  within : l.place ≤ length l.text;
  read : onto_all (take l.end l.out) (unprinted_from l.place 0 (drop l.place l.text)) ≡ unprinted l.text;
  behind : l.end ≤ l.place;
  len : length l.out ≡ length l.fn.out;
}

abbrev pub decreases-loop-place-2 : goal.decreases-loop-place-2
decreases-loop-place-2 l = length l.text - l.place
