-- What the input of a run asks for.
use Rattle.std.specs.Prelude.{ℕ, List, Option, Some, None, Result, Ok, Err}
use Rattle.std.specs.Str.Lines.{lines}
use Rattle.world_core.specs.Parts.{WorldParts}
use Rattle.schedule.specs.Division.{settings_text, schedule_lines}
use Rattle.schedule.specs.Runs.{RunParts, run_of}
use Rattle.program_io.specs.Scheduled.{world_in}
use Rattle.program_io.specs.declared.fault.InputFault.{InputFault}
use Rattle.program_io.specs.declared.fault.InputFault.TheVariants.{Settings, Line}

-- the settings come first
abbrev pub asked_from : Option WorldParts → Result RunParts ℕ → Result RunParts InputFault
asked_from None spelled = Err Settings
asked_from (Some w) (Ok run) = Ok run
asked_from (Some w) (Err number) = Err (Line number)

-- the faults of links and the commands of an input, which is settings that open a world, a line `---`, and a schedule; or what is bad in it
unfoldable pub asked_in : List ℕ → Result RunParts InputFault
asked_in input = asked_from (world_in (settings_text input)) (run_of (schedule_lines (lines input)))
