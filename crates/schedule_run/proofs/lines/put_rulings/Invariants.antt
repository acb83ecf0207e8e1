use Rattle.std.proofs.Common.{◌≡◌, ◌+◌, ◌++◌, drop, map}
use Rattle.std.specs.Prelude.{decimal, codes}
use Rattle.world_report.specs.Words.{lines_text}
use Rattle.world_report.specs.Rulings.{ruling_words}
use Rattle.schedule_run.specs.Told.{pharmacy_word}
use Rattle.schedule_run.proofs.Places.{headed}
use Rattle.schedule_run.proofs.lines.put_rulings.Given as goal

-- the lines so far, and then those of the rulings that are left
abbrev pub invariant-loop-passed : goal.invariant-loop-passed
invariant-loop-passed l =
    l.out.items ++ lines_text (headed (pharmacy_word l.pharmacy) (decimal l.number) l.count (codes "settled") (l.passed + 1) (map ruling_words (drop l.passed l.rulings)))
    ≡ l.initial.out.items ++ lines_text (headed (pharmacy_word l.pharmacy) (decimal l.number) l.count (codes "settled") 1 (map ruling_words l.rulings))
