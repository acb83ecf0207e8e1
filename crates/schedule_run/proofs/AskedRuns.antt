-- When an input asks for a run.
use Rattle.std.proofs.Common.{◌≡◌, ℕ, List, Option, Some, Ok, Err, ap, ◌∙◌}
use Rattle.std.specs.Str.Lines.{lines}
use Rattle.world_core.specs.Parts.{WorldParts}
use Rattle.schedule.specs.Division.{settings_text, schedule_lines}
use Rattle.schedule.specs.Runs.{RunParts, run_of}
use Rattle.world_settings.specs.declared.fault.SettingsFault.{SettingsFault}
use Rattle.world_settings.specs.declared.fault.SettingsFault.TheVariants as settings
use Rattle.program_io.specs.declared.fault.InputFault.TheVariants.{Line}
use Rattle.program_io.specs.Scheduled.{world_in, OpensNone}
use Rattle.program_io.specs.Stops.{RefusedFor, settings_told}
use Rattle.schedule_run.specs.Asked.{asked_from, asked_in}

-- settings that open a world, and lines that spell a run
pub asked_is : (input : List ℕ) (w : WorldParts) (run : RunParts) → world_in (settings_text input) ≡ Some w → run_of (schedule_lines (lines input)) ≡ Ok run → asked_in input ≡ Ok run
unfolding asked_in
asked_is input w run opens spells =
    ap (λ (o : Option WorldParts). asked_from o (run_of (schedule_lines (lines input)))) opens ∙ ap (asked_from (Some w)) spells

-- a line that spells none
pub asked_stops : (input : List ℕ) (w : WorldParts) (number : ℕ) → world_in (settings_text input) ≡ Some w → run_of (schedule_lines (lines input)) ≡ Err number → asked_in input ≡ Err (Line number)
unfolding asked_in
asked_stops input w number opens spells =
    ap (λ (o : Option WorldParts). asked_from o (run_of (schedule_lines (lines input)))) opens ∙ ap (asked_from (Some w)) spells

-- settings that open none
pub asked_never : (input : List ℕ) (why : SettingsFault) → OpensNone why (world_in (settings_text input)) → RefusedFor (settings_told why) (asked_in input)
unfolding asked_in
asked_never input settings.OutOfMemory none = tt
asked_never input settings.Settings none = ap (λ (o : Option WorldParts). asked_from o (run_of (schedule_lines (lines input)))) none
