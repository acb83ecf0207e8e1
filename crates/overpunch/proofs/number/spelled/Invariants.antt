use Rattle.std.proofs.Common.{◌≡◌, ◌≤◌, ◌-◌, length, take}
use Rattle.overpunch.specs.Number.{number_value}
use Rattle.overpunch.proofs.Texts.{AreDigitsUpTo}
use Rattle.overpunch.proofs.number.spelled.Given as goal

-- the bytes so far are digits, and what they spell
abbrev pub invariant-loop-place : goal.invariant-loop-place
invariant-loop-place l = record {
  within : l.place ≤ length l.text;
  digits : AreDigitsUpTo l.place l.text;
  value : l.value ≡ number_value (take l.place l.text);
}

abbrev pub decreases-loop-place : goal.decreases-loop-place
decreases-loop-place l = length l.text - l.place
