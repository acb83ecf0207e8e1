-- What a run writes, and why it stops.
use Rattle.std.specs.Prelude.{◌≡◌, ℕ, ◌≤◌, Bool, true, false, not, ◌⊎◌, List, [], ◌++◌, length, take, Option, Result, Ok, IfErr, IfSome, OnOk, OnErr}
use Rattle.std.specs.Io.KnownBytes.{Appends}
use Rattle.world_setup.specs.declared.settings.WorldSettings.{WorldSettings}
use Rattle.world_core.specs.Parts.{WorldParts, context_of}
use Rattle.schedule.specs.Division.{settings_text}
use Rattle.schedule.specs.Runs.{RunParts}
use Rattle.node_logged.specs.Tills.{Till}
use Rattle.node_logged.specs.Verdicts.{IsRun}
use Rattle.node_logged.specs.declared.judging.verdict.Finished.{Finished}
use Rattle.node_threads.specs.declared.starting.StartFault.{StartFault}
use Rattle.node_threads.specs.declared.starting.StartFault.TheVariants as start
use Rattle.node_logged.specs.declared.judging.finish_fault.FinishFault.{FinishFault}
use Rattle.node_logged.specs.declared.judging.finish_fault.FinishFault.TheVariants as finish
use Rattle.world_report.specs.Words.{Line, lines_text}
use Rattle.world_report.specs.Nodes.{world_lines}
use Rattle.program_io.specs.Scheduled.{Opens}
use Rattle.program_io.specs.Stops.{IsTaken, StopsFor}
use Rattle.program_io.specs.declared.input.TheConstants.{MOST_INPUT}
use Rattle.program_io.specs.declared.fault.InputFault.{InputFault}
use Rattle.program_io.specs.declared.fault.ProgramFault.{ProgramFault}
use Rattle.program_io.specs.declared.fault.ProgramFault.TheVariants.{OutOfMemory, Read, Input, Write}
use Rattle.schedule_run.specs.declared.fault.RunFault.{RunFault}
use Rattle.schedule_run.specs.declared.fault.RunFault.TheVariants.{Program, Finish, NoThread}
use Rattle.schedule_run.specs.declared.fault.Unjudged.TheVariants as unjudged
use Rattle.schedule_run.specs.Asked.{asked_in}
use Rattle.schedule_run.specs.Told.{RunCutOff, RunTold}

-- the lines of the nodes of a world
abbrev pub node_lines : WorldParts → List Line
node_lines w = world_lines (context_of w) w.world

-- their text
abbrev pub nodes_text : WorldParts → List ℕ
nodes_text w = lines_text (node_lines w)

-- nodes of these settings ended in this world, of which the commands were told these lines: it is the world of a run that is judged by the tills of the
-- one who made the commands, so each receipt is an entry of a journal, each entry has its receipt, and the first answer that was told for a number is the journal's
pub record EndsAs (s : WorldSettings) (run : RunParts) (told : List Line) (world : WorldParts) : Type 0 where
  pub tills : List Till
  pub commands : RunTold run told tills
  pub end : Finished
  pub judged : IsRun s tills end end.logs.items
  pub world_is : world ≡ end.world

-- an output of nodes of these settings: what the commands were told, and after that the lines of the nodes of the world that they ended in
pub record IsReported (s : WorldSettings) (run : RunParts) (output : List ℕ) : Type 0 where
  pub told : List Line
  pub world : WorldParts
  pub ends : EndsAs s run told world
  pub whole : output ≡ lines_text (told ++ node_lines world)

-- a beginning of an output of nodes of these settings
pub record ReportCutOff (s : WorldSettings) (run : RunParts) (written : List ℕ) : Type 0 where
  pub output : List ℕ
  pub reported : IsReported s run output
  pub count : ℕ
  pub is : written ≡ take count output

-- what was written of nodes of these settings when the run stopped: a beginning of what its first commands were told, or of an output
abbrev pub IsStopped : WorldSettings → RunParts → List ℕ → Type 0
IsStopped s run written = RunCutOff run written ⊎ ReportCutOff s run written

-- an input asks for a run, and this is an output of it
pub record IsOutput (input output : List ℕ) : Type 0 where
  pub run : RunParts
  pub asked : asked_in input ≡ Ok run
  pub settings : WorldSettings
  pub opens : Opens (settings_text input) settings
  pub reported : IsReported settings run output

-- a beginning of what the first commands that an input asks for were told
pub record ToldCutOff (input written : List ℕ) : Type 0 where
  pub run : RunParts
  pub asked : asked_in input ≡ Ok run
  pub cut : RunCutOff run written

-- a beginning of an output of an input
pub record OutputCutOff (input written : List ℕ) : Type 0 where
  pub output : List ℕ
  pub whole : IsOutput input output
  pub count : ℕ
  pub is : written ≡ take count output

-- what was written when a run stopped: nothing, or a beginning of what the first commands were told, or of an output
abbrev pub IsBeginning : List ℕ → List ℕ → Type 0
IsBeginning input written = (written ≡ []) ⊎ (ToldCutOff input written ⊎ OutputCutOff input written)

-- bytes were appended of which this holds
abbrev pub AppendsFront : Option (List ℕ) → Option (List ℕ) → (List ℕ → Type 0) → Type 0
AppendsFront old new P = (written : List ℕ) × P written × Appends old new written

-- a writer has these bytes more, of which that holds
abbrev pub Writes : {W : Type 0} → (W → Option (List ℕ)) → W → W → (List ℕ → Type 0) → Type 0
Writes contents old new P = AppendsFront (contents old) (contents new) P

-- it has these lines more
abbrev pub WritesLines : {W : Type 0} → (W → Option (List ℕ)) → W → W → (List Line → Type 0) → Type 0
WritesLines contents old new P = (lines : List Line) × Appends (contents old) (contents new) (lines_text lines) × P lines

-- all commands of a run were told, and their lines written
pub record AllAreTold (old new : Option (List ℕ)) (run : RunParts) : Type 0 where
  pub lines : List Line
  pub written : Appends old new (lines_text lines)
  pub after : List Till
  pub told : RunTold run lines after

-- why the nodes do not start, as the run tells it
abbrev pub start_told : StartFault → RunFault
start_told start.OutOfMemory = Program OutOfMemory
start_told start.NoThread = NoThread

-- why what the nodes did is no run, as the run tells it
abbrev pub finish_told : FinishFault → RunFault
finish_told finish.OutOfMemory = Program OutOfMemory
finish_told (finish.TillMissing pharmacy logs) = Finish unjudged.TillMissing
finish_told (finish.ReceiptMissing logs) = Finish unjudged.ReceiptMissing
finish_told (finish.HeardDiffers logs) = Finish unjudged.HeardDiffers
finish_told (finish.Tangled logs) = Finish unjudged.Tangled

-- threads that have started end for these causes
abbrev pub is_late : ProgramFault → Bool
is_late OutOfMemory = true
is_late Read = false
is_late (Input why) = false
is_late Write = true

-- a run stops for these causes before anything is written
abbrev pub is_early : RunFault → Bool
is_early (Program why) = not (is_late why)
is_early (Finish why) = false
is_early NoThread = true

-- a run that was asked for stops for these causes
abbrev pub is_start : RunFault → Bool
is_start (Program why) = is_late why
is_start (Finish why) = true
is_start NoThread = true

-- what the nodes did is not judged to be a run
abbrev pub is_unjudged : RunFault → Bool
is_unjudged (Program why) = false
is_unjudged (Finish why) = true
is_unjudged NoThread = false

-- what the nodes did is judged only once all commands were told, and their lines written
abbrev pub JudgedLast : {A : Type 0} → Result A RunFault → Option (List ℕ) → Option (List ℕ) → RunParts → Type 0
JudgedLast result old new run = IfErr result (λ fault. is_unjudged fault ≡ true → AllAreTold old new run)

-- what a fault says of the input; nodes start only where nothing is bad in it
abbrev pub StopsRun : RunFault → List ℕ → Result RunParts InputFault → Type 0
StopsRun (Program why) input asked = StopsFor why input asked
StopsRun (Finish why) input asked = IsTaken input asked
StopsRun NoThread input asked = IsTaken input asked

-- what a run does from its input to its output, where its reader and its writer tell their bytes
pub record Runs {W : Type 0} (result : Result (Unit {0}) RunFault) (input : Option (List ℕ)) (contents : W → Option (List ℕ)) (old new : W) : Type 0 where
  -- what the commands were told was written, and after it the lines of the nodes, which bear out the numbers and answers that were told
  pub output : OnOk result (IfSome input (λ bytes. (output : List ℕ) × IsOutput bytes output × Appends (contents old) (contents new) output))
  -- an input is refused only for what is bad in it, and nodes start only where nothing is
  pub stops : IfErr result (λ fault. IfSome input (λ bytes. StopsRun fault bytes (asked_in bytes)))
  -- what is run was read to its end, and is not too long
  pub fits : OnOk result (IfSome input (λ bytes. length bytes ≤ MOST_INPUT))
  -- nothing is written before all is checked and the threads have started
  pub quiet : IfErr result (λ fault. is_early fault ≡ true → new ≡ old)
  -- where the run stops, nothing was written, or a beginning of what its first commands were told, or of an output
  pub beginning : OnErr result (IfSome input (λ bytes. AppendsFront (contents old) (contents new) (IsBeginning bytes)))
  -- what the nodes did is judged only once all commands were told, and their lines written
  pub told : IfErr result (λ fault. is_unjudged fault ≡ true → IfSome input (λ bytes. (run : RunParts) × (asked_in bytes ≡ Ok run) × AllAreTold (contents old) (contents new) run))
