use Rattle.std.proofs.Common.{◌≡◌, ◌++◌, length}
use Rattle.std.specs.List.{list_any}
use Rattle.std.specs.Str.Lines.{lines}
use Rattle.input_text.specs.Lines.{numbered_lines}
use Rattle.schedule.specs.Division.{ended_lines, is_divider, schedule_lines, settings_lines}
use Rattle.schedule.proofs.Fronts.{texts}
use Rattle.schedule.proofs.division.front.Given as goal

-- the lines so far are written, and those that are left decide as all would
abbrev pub invariant-loop-line : goal.invariant-loop-line
invariant-loop-line l = record {
  written : l.settings.items ++ ended_lines (settings_lines (texts (numbered_lines l.lines))) ≡ l.fn.settings.items ++ ended_lines (settings_lines (lines l.fn.input));
  schedule : schedule_lines (texts (numbered_lines l.lines)) ≡ schedule_lines (lines l.fn.input);
  divided : list_any is_divider (texts (numbered_lines l.lines)) ≡ list_any is_divider (lines l.fn.input);
}

abbrev pub decreases-loop-line : goal.decreases-loop-line
decreases-loop-line l = length (numbered_lines l.lines)
