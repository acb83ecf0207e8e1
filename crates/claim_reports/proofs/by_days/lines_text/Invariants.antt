use Rattle.std.proofs.Common.{◌≡◌, ◌++◌, drop}
use Rattle.std.specs.Prelude.{codes}
use Rattle.table_text.specs.Rows.{head_text}
use Rattle.claim_reports.specs.Daily.{daily_lines, moves_of}
use Rattle.claim_reports.specs.Statement.{line_names}
use Rattle.claim_reports.proofs.by_days.lines_text.Given as goal

-- the lines so far, and then those of the rulings that are left
abbrev pub invariant-loop-ruling : goal.invariant-loop-ruling
invariant-loop-ruling l =
    l.out.items ++ daily_lines l.pharmacy (l.before ++ moves_of l.rulings) (drop l.ruling-index l.rulings)
    ≡ head_text (line_names (codes "ruled_on")) ++ daily_lines l.pharmacy (l.before ++ moves_of l.rulings) l.rulings
