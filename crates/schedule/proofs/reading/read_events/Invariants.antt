use Rattle.std.proofs.Common.{◌≡◌}
use Rattle.std.specs.Str.Lines.{lines}
use Rattle.input_text.specs.Lines.{numbered_lines}
use Rattle.schedule.specs.Events.{line_event}
use Rattle.schedule.specs.Reading.{told_lines, spelled_in, events_by}
use Rattle.schedule.proofs.EventLists.{joined}
use Rattle.schedule.proofs.reading.read_events.Given as goal

-- the events so far, and then those of the lines that are left
abbrev pub invariant-loop-line : goal.invariant-loop-line
invariant-loop-line l = events_by l.fn.living (lines l.text) ≡ joined l.events.items (spelled_in (line_event l.fn.living) (told_lines (numbered_lines l.line-iterator)))
