-- The faults and commands that the lines of a schedule of `run` spell.
use Rattle.std.specs.Prelude.{◌≡◌, ℕ, List, [], ◌∷◌, Option, Some, None, Result, Ok, Err}
use Rattle.std.specs.List.{enumerate_from}
use Rattle.world_setup.specs.declared.link.LinkFault.{LinkFault}
use Rattle.schedule.specs.declared.commands.Command.{Command}
use Rattle.schedule.specs.declared.runs.Run.{Run}
use Rattle.schedule.specs.declared.fault.ScheduleFault.{ScheduleFault}
use Rattle.schedule.specs.declared.fault.ScheduleFault.TheVariants.{OutOfMemory, Line}
use Rattle.schedule.specs.Commands.{command_of}
use Rattle.schedule.specs.Faults.{fault_of}
use Rattle.schedule.specs.Reading.{NumberedLine, told_lines, spelled_in}

-- faults, and the commands after them
pub record RunParts : Type 0 where
  pub faults : List LinkFault
  pub commands : List Command

-- the parts of a run as it is read
abbrev pub run_seen : Run → RunParts
run_seen run = record { faults = run.faults.items; commands = run.commands.items }

-- a fault before those of a run
abbrev pub fault_before : LinkFault → Result RunParts ℕ → Result RunParts ℕ
fault_before fault (Ok run) = Ok (record { faults = fault ∷ run.faults; commands = run.commands })
fault_before fault (Err number) = Err number

-- these faults, and commands that were read
abbrev pub with_faults : List LinkFault → Result (List Command) ℕ → Result RunParts ℕ
with_faults faults (Ok commands) = Ok (record { faults = faults; commands = commands })
with_faults faults (Err number) = Err number

-- a line that spells a fault is one of the faults; from the first that spells none on there are commands
abbrev pub begun_by : Option LinkFault → Result RunParts ℕ → Result (List Command) ℕ → Result RunParts ℕ
begun_by (Some fault) rest commands = fault_before fault rest
begun_by None rest commands = with_faults [] commands

-- the lines up to the first that spells no fault are faults; from there on each spells a command, and the first that spells none is told
abbrev pub run_in : List NumberedLine → Result RunParts ℕ
run_in [] = Ok (record { faults = []; commands = [] })
run_in (l ∷ rest) = begun_by (fault_of l.1) (run_in rest) (spelled_in command_of (l ∷ rest))

-- the fault that a line spells where it may still spell one: after no command
abbrev pub front_fault : List Command → List ℕ → Option LinkFault
front_fault [] line = fault_of line
front_fault (c ∷ cs) line = None

-- the faults and commands of the lines of a schedule, or the number of the first line that is neither in its place; skipped lines are counted
abbrev pub run_of : List (List ℕ) → Result RunParts ℕ
run_of lines = run_in (told_lines (enumerate_from 1 lines))

-- a schedule is refused for this cause; where memory ran out nothing is said
abbrev pub RunRefusedFor : ScheduleFault → Result RunParts ℕ → Type 0
RunRefusedFor OutOfMemory spelled = Unit {0}
RunRefusedFor (Line number) spelled = spelled ≡ Err number
