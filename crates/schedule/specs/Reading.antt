-- The events that the lines of a schedule spell.
use Rattle.std.specs.Prelude.{◌≡◌, ℕ, Bool, not, List, filter, find, Option, Some, None, is_none, option_map, Result, Ok, Err}
use Rattle.std.specs.List.{filter_map, enumerate_from}
use Rattle.std.specs.Str.Lines.{lines}
use Rattle.input_text.specs.Lines.{is_skipped}
use Rattle.world_setup.specs.declared.event.Event.{Event}
use Rattle.schedule.specs.Events.{event_of, living_event_of, line_event}
use Rattle.schedule.specs.declared.fault.ScheduleFault.{ScheduleFault}
use Rattle.schedule.specs.declared.fault.ScheduleFault.TheVariants.{OutOfMemory, Line}

-- a line and its number, from 1
abbrev pub NumberedLine : Type 0
NumberedLine = ℕ × List ℕ

-- the lines that are neither empty nor begin with `#`
abbrev pub told_lines : List NumberedLine → List NumberedLine
told_lines lines = filter (λ l. not (is_skipped l.1)) lines

-- the number of the first line that spells nothing
abbrev pub bad_line : {A : Type 0} → (List ℕ → Option A) → List NumberedLine → Option ℕ
bad_line spelled lines = option_map (λ (l : NumberedLine). l.0) (find (λ l. is_none (spelled l.1)) lines)

-- something, where there is no such line
abbrev pub unless_bad : {A : Type 0} → Option ℕ → A → Result A ℕ
unless_bad None a = Ok a
unless_bad (Some number) a = Err number

-- what some lines spell, or the number of the first of them that spells nothing
unfoldable pub spelled_in : {A : Type 0} → (List ℕ → Option A) → List NumberedLine → Result (List A) ℕ
spelled_in spelled lines = unless_bad (bad_line spelled lines) (filter_map (λ l. spelled l.1) lines)

-- the events of the lines of a schedule, in order, or the number of the first line that spells none; skipped lines are counted
abbrev pub events_of : List (List ℕ) → Result (List Event) ℕ
events_of lines = spelled_in event_of (told_lines (enumerate_from 1 lines))

-- the same where nodes live
abbrev pub living_events_of : List (List ℕ) → Result (List Event) ℕ
living_events_of lines = spelled_in living_event_of (told_lines (enumerate_from 1 lines))

-- the same for both
abbrev pub events_by : Bool → List (List ℕ) → Result (List Event) ℕ
events_by living lines = spelled_in (line_event living) (told_lines (enumerate_from 1 lines))

-- a schedule is refused for this cause; where memory ran out nothing is said
abbrev pub RefusedFor : ScheduleFault → Result (List Event) ℕ → Type 0
RefusedFor OutOfMemory spelled = Unit {0}
RefusedFor (Line number) spelled = spelled ≡ Err number
