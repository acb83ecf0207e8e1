-- How a run ends: what was written, and which input it was.
use Rattle.std.proofs.Common.{◌≡◌, ℕ, ◌≤◌, true, take, drop, List, [], ◌∷◌, ◌++◌, length, replicate, Option, Some, None, Result, IfSome, refl, sym, ap, subst, ◌∙◌, append-nil, arith, inl, inr}
use Rattle.std.proofs.lemmas.Bool.{false≢true}
use Rattle.std.proofs.lemmas.List.{drop_all, length-map, length-set, take_all}
use Rattle.std.specs.Prelude.{is_ok}
use Rattle.std.specs.List.{AllByRecursion}
use Rattle.std.specs.Io.KnownBytes.{Appends}
use Rattle.schedule.specs.declared.commands.Command.{Command}
use Rattle.schedule.specs.declared.commands.Command.TheVariants.{Submit, Tick, Plan, Restart, Await}
use Rattle.schedule.specs.Runs.{RunParts}
use Rattle.world_report.specs.Words.{Line, lines_text}
use Rattle.node_logged.specs.Tills as tills
use Rattle.node_logged.specs.TillSeen.{till_seen}
use Rattle.node_logged.specs.LedgerSeen.{tills_seen}
use Rattle.node_logged.specs.declared.till.Till.{Till}
use Rattle.program_io.specs.declared.input.TheConstants.{MOST_INPUT}
use Rattle.program_io.specs.declared.fault.InputFault.{InputFault}
use Rattle.program_io.specs.declared.fault.ProgramFault.TheVariants as program
use Rattle.schedule_run.specs.declared.fault.RunFault.{RunFault}
use Rattle.schedule_run.specs.declared.fault.RunFault.TheVariants.{Program, Finish, NoThread}
use Rattle.schedule_run.specs.Told.{AreTold, IsEmpty, IsTold, RunTold, Tells, TillChanges, done_line}
use Rattle.schedule_run.specs.Output.{StopsRun, is_start}
use Rattle.schedule_run.proofs.Turns.{written_more}

-- what is true of the bytes that were read is true of those that the source has, where it tells them
pub known_is : (P : List ℕ → Type 0) (known : Option (List ℕ)) (input : List ℕ) → IfSome known (λ bytes. input ≡ bytes) → P input → IfSome known P
known_is P None input same p = tt
known_is P (Some bytes) input same p = subst P same p

-- a run that was asked for
pub started_stops : (fault : RunFault) (input : List ℕ) (asked : Result RunParts InputFault) → length input ≤ MOST_INPUT → is_ok asked ≡ true → is_start fault ≡ true → StopsRun fault input asked
started_stops (Program program.OutOfMemory) input asked within is start = tt
started_stops (Program program.Read) input asked within is start = tt
started_stops (Program (program.Input why)) input asked within is start = absurd (false≢true start)
started_stops (Program program.Write) input asked within is start = (within, is)
started_stops (Finish why) input asked within is start = (within, is)
started_stops NoThread input asked within is start = (within, is)

-- no command takes a till away or adds one
change_keeps : (pharmacy : ℕ) (Change : tills.Till → tills.Till → Type 0) (before after : List tills.Till) → TillChanges pharmacy Change before after → length after ≡ length before
change_keeps pharmacy Change before after changed = ap length changed.5 ∙ length-set before changed.0 changed.2

told_keeps : (command : Command) (before after : List tills.Till) (lines : List Line) → IsTold command before lines after → length after ≡ length before
told_keeps (Submit pharmacy text) before after lines (inl refused) = ap length refused.1
told_keeps (Submit pharmacy text) before after lines (inr taken) = change_keeps pharmacy (λ old new. new ≡ tills.with_receipt taken.0 text old) before after taken.2
told_keeps (Tick pharmacy) before after lines called = ap length called.1
told_keeps (Plan payer product price) before after lines called = ap length called.1
told_keeps (Restart node) before after lines called = ap length called.1
told_keeps (Await pharmacy number) before after lines (inl refused) = ap length refused.1
told_keeps (Await pharmacy number) before after lines (inr told) = change_keeps pharmacy (Tells pharmacy number lines) before after told

all_told_keep : (commands : List Command) (before after : List tills.Till) (lines : List Line) → AreTold commands before lines after → length after ≡ length before
all_told_keep [] before after lines none = ap length none.1
all_told_keep (c ∷ cs) before after lines told = all_told_keep cs told.2 after told.1 told.5 ∙ told_keeps c before told.2 told.0 told.4

-- as many written back as were lent
written_back : {A : Type 0} (items new : List A) (len : ℕ) → len ≡ length items → length new ≡ length items → take len (new ++ drop (length new) items) ≡ new
written_back items new len whole same =
    let rest : drop (length new) items ≡ [] = ap (λ (n : ℕ). drop n items) same ∙ drop_all (length items) items (omega arith) in
    ap (λ r. take len (new ++ r)) rest ∙ (ap (take len) (append-nil new) ∙ (ap (λ (n : ℕ). take n new) (whole ∙ sym same) ∙ take_all (length new) new (omega arith)))

-- the lines of faults, and after them those of commands
pub run_told : (before mid after : Option (List ℕ)) (run : RunParts) (items new : List Till) (len : ℕ) (text : List ℕ) → AllByRecursion IsEmpty (tills_seen items) → len ≡ length items
    → text ≡ lines_text (replicate (length run.faults) done_line) → Appends before mid text
    → (lines : List Line) × Appends mid after (lines_text lines) × AreTold run.commands (tills_seen items) lines (tills_seen new)
    → (lines : List Line) × Appends before after (lines_text lines) × RunTold run lines (tills_seen (take len (new ++ drop (length new) items)))
run_told before mid after run items new len text empty whole is one told =
    let faults = replicate (length run.faults) done_line in
    let same : length new ≡ length items = sym (length-map new till_seen) ∙ (all_told_keep run.commands (tills_seen items) (tills_seen new) told.0 told.2 ∙ length-map items till_seen) in
    let back = written_back items new len whole same in (
      faults ++ told.0,
      written_more before mid after faults told.0 (subst (λ (t : List ℕ). Appends before mid t) is one) told.1,
      (tills_seen items, told.0, empty, refl, subst (λ (ts : List Till). AreTold run.commands (tills_seen items) told.0 (tills_seen ts)) (sym back) told.2),
    )
