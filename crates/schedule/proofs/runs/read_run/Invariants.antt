use Rattle.std.proofs.Common.{◌≡◌}
use Rattle.std.specs.Str.Lines.{lines}
use Rattle.input_text.specs.Lines.{numbered_lines}
use Rattle.schedule.specs.Reading.{told_lines}
use Rattle.schedule.specs.Runs.{run_of}
use Rattle.schedule.proofs.RunLists.{going}
use Rattle.schedule.proofs.runs.read_run.Given as goal

-- the faults and commands so far, and then those of the lines that are left
abbrev pub invariant-loop-line : goal.invariant-loop-line
invariant-loop-line l = run_of (lines l.text) ≡ going l.faults.items l.commands.items (told_lines (numbered_lines l.line-iterator))
