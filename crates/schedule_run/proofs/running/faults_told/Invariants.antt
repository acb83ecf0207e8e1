use Rattle.std.proofs.Common.{◌≡◌, ◌-◌, ◌++◌, length, replicate}
use Rattle.world_report.specs.Words.{lines_text}
use Rattle.schedule_run.specs.Told.{done_line}
use Rattle.schedule_run.proofs.running.faults_told.Given as goal

-- the lines so far, and then those of the faults that are left
abbrev pub invariant-loop : goal.invariant-loop
invariant-loop l = l.told.items ++ lines_text (replicate (length l.faults - l.index) done_line) ≡ lines_text (replicate (length l.faults) done_line)
