use Rattle.std.proofs.Common.{◌≡◌, ◌-◌, ◌≤◌, ◌∷◌, ◌++◌, drop, map}
use Rattle.std.specs.Prelude.{decimal}
use Rattle.world_report.specs.Words.{behind_spaces}
use Rattle.world_report.specs.Heads.{numbers_from}
use Rattle.world_report.proofs.numbers.put_numbers.Given as goal

-- the numbers so far, and then those that are left, of which the first stands in the text
abbrev pub invariant-loop-number : goal.invariant-loop-number
invariant-loop-number l = record {
  told : l.out.items ++ behind_spaces (map decimal (numbers_from l.number (l.past - l.number))) ≡ l.initial.out.items ++ behind_spaces (map decimal (numbers_from l.first (l.past - l.first)));
  text : drop l.start l.text ≡ 32 ∷ decimal l.number;
  within : l.start ≤ 45;
}
