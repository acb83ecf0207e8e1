use Rattle.std.proofs.Common.{◌≡◌, ◌+◌, ◌++◌, drop, map}
use Rattle.std.specs.Prelude.{decimal}
use Rattle.world_report.specs.Words.{lines_text}
use Rattle.world_report.specs.Rulings.{ruling_words}
use Rattle.world_report.specs.Places.{place_lines}
use Rattle.world_report.proofs.entries.put_told.Given as goal

-- the lines so far, and then those of the rulings that are left
abbrev pub invariant-loop-passed : goal.invariant-loop-passed
invariant-loop-passed l =
    l.out.items ++ lines_text (place_lines (decimal l.number) l.count l.code (l.passed + 1) (map ruling_words (drop l.passed l.rulings)))
    ≡ l.initial.out.items ++ lines_text (place_lines (decimal l.number) l.count l.code 1 (map ruling_words l.rulings))
