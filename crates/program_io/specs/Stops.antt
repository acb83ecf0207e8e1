-- Why a program stops, and what was written until then.
use Rattle.std.specs.Prelude.{ℕ, ◌≡◌, ◌<◌, ◌≤◌, ◌⊎◌, Bool, List, length, take, Option, Result, Ok, Err, IfSome, IsOk, IsTrue}
use Rattle.std.specs.Io.KnownBytes.{Appends}
use Rattle.world_settings.specs.declared.fault.SettingsFault.{SettingsFault}
use Rattle.world_settings.specs.declared.fault.SettingsFault.TheVariants as settings
use Rattle.schedule.specs.declared.fault.ScheduleFault.{ScheduleFault}
use Rattle.schedule.specs.declared.fault.ScheduleFault.TheVariants as lines
use Rattle.program_io.specs.declared.input.TheConstants.{MOST_INPUT}
use Rattle.program_io.specs.declared.fault.InputFault.{InputFault}
use Rattle.program_io.specs.declared.fault.InputFault.TheVariants.{Settings, Line}
use Rattle.program_io.specs.declared.fault.CheckFault.{CheckFault}
use Rattle.program_io.specs.declared.fault.CheckFault.TheVariants as check
use Rattle.program_io.specs.declared.fault.ProgramFault.{ProgramFault}
use Rattle.program_io.specs.declared.fault.ProgramFault.TheVariants.{OutOfMemory, Read, Input, Write}
use Rattle.program_io.specs.declared.words.Stop.{Stop}
use Rattle.program_io.specs.declared.words.Stop.TheVariants.{Usage, Fault}

-- the exit status: 2 where the words are wrong, else 1
abbrev pub exit_status : Stop → ℕ
exit_status Usage = 2
exit_status (Fault fault) = 1

-- why a text is no settings, as a check of the input tells it
abbrev pub settings_told : SettingsFault → CheckFault
settings_told settings.OutOfMemory = check.OutOfMemory
settings_told settings.Settings = check.Input Settings

-- why lines spell nothing, as a check of the input tells it
abbrev pub schedule_told : ScheduleFault → CheckFault
schedule_told lines.OutOfMemory = check.OutOfMemory
schedule_told (lines.Line number) = check.Input (Line number)

-- what a check finds, as a program tells it
abbrev pub check_told : CheckFault → ProgramFault
check_told check.OutOfMemory = OutOfMemory
check_told (check.Input why) = Input why

-- a call of the source failed, or the input is too long
abbrev pub IsUnread : Bool → Option (List ℕ) → Type 0
IsUnread failed input = IsTrue failed ⊎ IfSome input (λ bytes. MOST_INPUT < length bytes)

-- a check refuses an input for what is bad in it; want of memory says nothing
abbrev pub RefusedFor : {A : Type 0} → CheckFault → Result A InputFault → Type 0
RefusedFor check.OutOfMemory told = Unit {0}
RefusedFor (check.Input why) told = told ≡ Err why

-- an input that was read to its end is not too long, and nothing is bad in it
abbrev pub IsTaken : {A : Type 0} → List ℕ → Result A InputFault → Type 0
IsTaken input told = (length input ≤ MOST_INPUT) × IsOk told

-- what a fault says of the input; want of memory and a failed read say nothing
abbrev pub StopsFor : {A : Type 0} → ProgramFault → List ℕ → Result A InputFault → Type 0
StopsFor OutOfMemory input told = Unit {0}
StopsFor Read input told = Unit {0}
StopsFor (Input why) input told = (length input ≤ MOST_INPUT) × (told ≡ Err why)
StopsFor Write input told = IsTaken input told

-- an input has this output, and all of it was written
abbrev pub Written : {E : Type 0} → Option (List ℕ) → Option (List ℕ) → Result (List ℕ) E → Type 0
Written before after (Ok output) = Appends before after output
Written before after (Err why) = ⊥

-- a beginning of this text was written
abbrev pub AppendsSome : Option (List ℕ) → Option (List ℕ) → List ℕ → Type 0
AppendsSome before after text = (count : ℕ) × Appends before after (take count text)

-- an input has this output, and a beginning of it was written
abbrev pub BeginningWritten : {E : Type 0} → Option (List ℕ) → Option (List ℕ) → Result (List ℕ) E → Type 0
BeginningWritten before after (Ok output) = AppendsSome before after output
BeginningWritten before after (Err why) = ⊥
