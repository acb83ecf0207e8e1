use Rattle.std.proofs.Common.{◌≡◌, ◌+◌, ◌-◌, ◌++◌, [], replicate}
use Rattle.std.specs.Prelude.{decimal, codes}
use Rattle.world_report.specs.Words.{lines_text}
use Rattle.schedule_run.specs.Told.{open_lines, pharmacy_word}
use Rattle.schedule_run.proofs.Places.{headed}
use Rattle.schedule_run.proofs.lines.put_open.Given as goal

-- the lines so far, and then those of the places that are left
abbrev pub invariant-loop-passed : goal.invariant-loop-passed
invariant-loop-passed l =
    l.out.items ++ lines_text (headed (pharmacy_word l.pharmacy) (decimal l.number) l.count (codes "open") (l.passed + 1) (replicate (l.count - l.passed) []))
    ≡ l.initial.out.items ++ lines_text (open_lines l.pharmacy l.number l.count)
