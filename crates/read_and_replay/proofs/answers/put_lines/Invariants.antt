use Rattle.std.proofs.Common.{◌≡◌}
use Rattle.input_text.specs.Lines.{numbered_lines}
use Rattle.schedule.specs.Reading.{told_lines, spelled_in}
use Rattle.read_and_replay.specs.Entries.{entry_of, entries_in}
use Rattle.read_and_replay.specs.Lines.{lines_behind}
use Rattle.read_and_replay.proofs.answers.put_lines.Given as goal

-- the lines so far, and then those of the entries that are left
abbrev pub invariant-loop-line : goal.invariant-loop-line
invariant-loop-line l =
    lines_behind l.routes l.book l.output.items (spelled_in entry_of (told_lines (numbered_lines l.line-iterator))) ≡ lines_behind l.routes l.initial.book l.initial.output.items (entries_in l.input)
