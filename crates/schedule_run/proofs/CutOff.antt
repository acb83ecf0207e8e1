-- What was written when a run stopped.
use Rattle.std.proofs.Common.{◌≡◌, ℕ, suc, ◌+◌, take, List, [], ◌∷◌, ◌++◌, length, replicate, Option, Some, None, Result, Ok, Err, IfSome, ◌≤◌, refl, sym, ap, subst, ◌∙◌, append-nil, arith, inl, inr}
use Rattle.std.proofs.lemmas.Bool.{false≢true}
use Rattle.std.proofs.lemmas.List.{take_all}
use Rattle.std.specs.Prelude.{IfErr, OnErr, OnOk, ◌⊎◌}
use Rattle.std.specs.List.{AllByRecursion}
use Rattle.std.specs.Io.KnownBytes.{Appends}
use Rattle.schedule.specs.declared.commands.Command.{Command}
use Rattle.schedule.specs.Runs.{RunParts}
use Rattle.world_report.specs.Words.{Line, lines_text}
use Rattle.world_report.proofs.JoinedWords.{lines_text-append}
use Rattle.world_core.specs.Parts.{WorldParts}
use Rattle.world_setup.specs.declared.settings.WorldSettings.{WorldSettings}
use Rattle.world_settings.specs.Document.{document_seen}
use Rattle.schedule.specs.Division.{settings_text}
use Rattle.program_io.specs.Scheduled.{opened_world, world_in}
use Rattle.program_io.specs.Stops.{RefusedFor, StopsFor, check_told}
use Rattle.program_io.specs.declared.input.TheConstants.{MOST_INPUT}
use Rattle.program_io.specs.declared.fault.CheckFault.{CheckFault}
use Rattle.program_io.specs.declared.fault.CheckFault.TheVariants as check
use Rattle.program_io.specs.declared.fault.ProgramFault.{ProgramFault}
use Rattle.program_io.specs.declared.fault.ProgramFault.TheVariants as program
use Rattle.program_io.proofs.KnownOutput.{Appends-append}
use Rattle.node_logged.specs.Tills.{Till}
use Rattle.schedule_run.specs.Told.{AreTold, IsCutOff, IsEmpty, RunCutOff, RunTold, done_line}
use Rattle.schedule_run.specs.Asked.{asked_in}
use Rattle.schedule_run.specs.Output.{AllAreTold, AppendsFront, EndsAs, IsBeginning, IsStopped, Runs, node_lines}
use Rattle.schedule_run.specs.declared.fault.RunFault.TheVariants.{Program}

-- what is true at any fault
pub on_fault : {V E P : Type 0} (r : Result V E) → P → OnErr r P
on_fault (Ok v) p = tt
on_fault (Err e) p = p

pub if_fault : {V E : Type 0} {P : E → Type 0} (r : Result V E) → ((e : E) → P e) → IfErr r P
if_fault (Ok v) p = tt
if_fault (Err e) p = p e

-- what is true of any success
pub on_success : {V E P : Type 0} (r : Result V E) → P → OnOk r P
on_success (Ok v) p = p
on_success (Err e) p = tt

-- nothing was written
pub none_written : (known : Option (List ℕ)) → Appends known known []
none_written None = tt
none_written (Some bytes) = sym (append-nil bytes)

-- all of a text is a beginning of it
whole_front : (text : List ℕ) → text ≡ take (length text) text
whole_front text = sym (take_all (length text) text (omega arith))

-- a text, and a beginning of what stands after it
front_behind : (a b : List ℕ) (count : ℕ) → a ++ take count b ≡ take (length a + count) (a ++ b)
front_behind [] b count = let none : count ≡ 0 + count = omega arith in ap (λ (n : ℕ). take n b) none
front_behind (x ∷ a) b count =
    let next : suc (length a + count) ≡ suc (length a) + count = omega arith in
    ap (λ t. x ∷ t) (front_behind a b count) ∙ ap (λ (n : ℕ). take n (x ∷ (a ++ b))) next

-- lines, and a beginning of those after them
lines_behind : (lines more : List Line) (count : ℕ) → lines_text lines ++ take count (lines_text more) ≡ take (length (lines_text lines) + count) (lines_text (lines ++ more))
lines_behind lines more count =
    front_behind (lines_text lines) (lines_text more) count ∙ ap (take (length (lines_text lines) + count)) (sym (lines_text-append lines more))

-- the telling stopped between two commands
pub stopped_between : (old new : Option (List ℕ)) (commands : List Command) (made : ℕ) (before after : List Till) (lines : List Line) → Appends old new (lines_text lines) → AreTold (take made commands) before lines after
    → AppendsFront old new (IsCutOff commands before)
stopped_between old new commands made before after lines written told = (
  lines_text lines,
  record { made = made; lines = lines; after = after; told = told; count = length (lines_text lines); is = whole_front (lines_text lines) },
  written,
)

-- the telling stopped while the lines of a command were written
pub stopped_writing : (old mid new : Option (List ℕ)) (commands : List Command) (made : ℕ) (before after : List Till) (lines first : List Line) (text : List ℕ) → Appends old mid (lines_text lines) → text ≡ lines_text first
    → AreTold (take made commands) before (lines ++ first) after → (count : ℕ) × Appends mid new (take count text) → AppendsFront old new (IsCutOff commands before)
stopped_writing old mid new commands made before after lines first text written is told front =
    let count = front.0 in
    let more : Appends mid new (take count (lines_text first)) = subst (λ (t : List ℕ). Appends mid new (take count t)) is front.1 in (
      lines_text lines ++ take count (lines_text first),
      record { made = made; lines = lines ++ first; after = after; told = told; count = length (lines_text lines) + count; is = lines_behind lines first count },
      Appends-append old mid new (lines_text lines) (take count (lines_text first)) written more,
    )

-- no line of a run was written, or not all lines of its faults
faults_cut : (run : RunParts) (count : ℕ) → RunCutOff run (take count (lines_text (replicate (length run.faults) done_line)))
faults_cut run count =
    let faults = replicate (length run.faults) done_line in
    record { made = 0; lines = faults; after = []; told = ([], [], tt, sym (append-nil faults), (refl, refl)); count = count; is = refl }

pub stopped_before : (known : Option (List ℕ)) (run : RunParts) → AppendsFront known known (RunCutOff run)
stopped_before known run = ([], faults_cut run 0, none_written known)

pub stopped_in_faults : (old new : Option (List ℕ)) (run : RunParts) (text : List ℕ) → text ≡ lines_text (replicate (length run.faults) done_line) → (count : ℕ) × Appends old new (take count text) → AppendsFront old new (RunCutOff run)
stopped_in_faults old new run text is front =
    let lines = lines_text (replicate (length run.faults) done_line) in
    (take front.0 lines, faults_cut run front.0, subst (λ (t : List ℕ). Appends old new (take front.0 t)) is front.1)

-- the lines of the faults were written, and those of the commands were cut off
pub stopped_in_commands : (old mid new : Option (List ℕ)) (run : RunParts) (empty : List Till) (text : List ℕ) → AllByRecursion IsEmpty empty → text ≡ lines_text (replicate (length run.faults) done_line) → Appends old mid text
    → AppendsFront mid new (IsCutOff run.commands empty) → AppendsFront old new (RunCutOff run)
stopped_in_commands old mid new run empty text empties is one cut =
    let faults = replicate (length run.faults) done_line in
    let c = cut.1 in
    let first : Appends old mid (lines_text faults) = subst (λ (t : List ℕ). Appends old mid t) is one in
    let second : Appends mid new (take c.count (lines_text c.lines)) = subst (λ (t : List ℕ). Appends mid new t) c.is cut.2 in (
      lines_text faults ++ take c.count (lines_text c.lines),
      record {
        made = c.made;
        lines = faults ++ c.lines;
        after = c.after;
        told = (empty, c.lines, empties, refl, c.told);
        count = length (lines_text faults) + c.count;
        is = lines_behind faults c.lines c.count;
      },
      Appends-append old mid new (lines_text faults) (take c.count (lines_text c.lines)) first second,
    )

-- all lines of the commands were written
pub stopped_behind : (old new : Option (List ℕ)) (run : RunParts) → AllAreTold old new run → AppendsFront old new (RunCutOff run)
stopped_behind old new run all =
    let lines = all.lines in
    let every : run.commands ≡ take (length run.commands) run.commands = sym (take_all (length run.commands) run.commands (omega arith)) in (
      lines_text lines,
      record {
        made = length run.commands;
        lines = lines;
        after = all.after;
        told = subst (λ (cs : List Command). RunTold (record { faults = run.faults; commands = cs }) lines all.after) every all.told;
        count = length (lines_text lines);
        is = whole_front (lines_text lines);
      },
      all.written,
    )

-- nothing of what was asked for was written
pub asked_before : (known : Option (List ℕ)) (s : WorldSettings) (run : RunParts) → AppendsFront known known (IsStopped s run)
asked_before known s run = let b = stopped_before known run in (b.0, inl b.1, b.2)

-- the lines of the nodes were cut off
pub stopped_in_nodes : (old mid new : Option (List ℕ)) (s : WorldSettings) (run : RunParts) (told : List Line) (world : WorldParts) → EndsAs s run told world → Appends old mid (lines_text told)
    → (count : ℕ) × Appends mid new (take count (lines_text (node_lines world))) → AppendsFront old new (IsStopped s run)
stopped_in_nodes old mid new s run told world ends one front =
    let nodes = node_lines world in (
      lines_text told ++ take front.0 (lines_text nodes),
      inr (record {
        output = lines_text (told ++ nodes);
        reported = record { told = told; world = world; ends = ends; whole = refl };
        count = length (lines_text told) + front.0;
        is = lines_behind told nodes front.0;
      }),
      Appends-append old mid new (lines_text told) (take front.0 (lines_text nodes)) one front.1,
    )

-- nothing was written, whatever the input is
pub begun_before : (known input : Option (List ℕ)) → IfSome input (λ bytes. AppendsFront known known (IsBeginning bytes))
begun_before known None = tt
begun_before known (Some bytes) = ([], inl refl, none_written known)

-- what was written of the nodes of an input
pub begun_by : (old new : Option (List ℕ)) (input : List ℕ) (s : WorldSettings) (run : RunParts) → asked_in input ≡ Ok run → world_in (settings_text input) ≡ Some (opened_world (document_seen s))
    → AppendsFront old new (IsStopped s run) → AppendsFront old new (IsBeginning input)
begun_by old new input s run asked opens stopped = (stopped.0, by stopped.1, stopped.2)
  where
    by : IsStopped s run stopped.0 → IsBeginning input stopped.0
    by (inl cut) = inr (inl (record { run = run; asked = asked; cut = cut }))
    by (inr out) =
        inr (inr (record {
          output = out.output;
          whole = record { run = run; asked = asked; settings = s; opens = opens; reported = out.reported };
          count = out.count;
          is = out.is;
        }))

-- a run that could not be read
pub unread_stops : (why : ProgramFault) (input : Option (List ℕ)) → (why ≡ program.Read) ⊎ (why ≡ program.OutOfMemory) → IfSome input (λ bytes. StopsFor why bytes (asked_in bytes))
unread_stops why None cause = tt
unread_stops why (Some bytes) (inl is) = rw is tt
unread_stops why (Some bytes) (inr is) = rw is tt

-- an input that is refused
pub refused_stops : (why : CheckFault) (input : List ℕ) → length input ≤ MOST_INPUT → RefusedFor why (asked_in input) → StopsFor (check_told why) input (asked_in input)
refused_stops check.OutOfMemory input within refused = tt
refused_stops (check.Input why) input within refused = (within, refused)

-- no node was started, and nothing was written
pub never_ran : {W : Type 0} (input : Option (List ℕ)) (contents : W → Option (List ℕ)) (w : W) (why : ProgramFault)
    → IfSome input (λ bytes. StopsFor why bytes (asked_in bytes)) → Runs (Err (Program why)) input contents w w
never_ran input contents w why stops = record {
  output = tt;
  stops = stops;
  fits = tt;
  quiet = λ early. refl;
  beginning = begun_before (contents w) input;
  told = λ yes. absurd (false≢true yes);
}
