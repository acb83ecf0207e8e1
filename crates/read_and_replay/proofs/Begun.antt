-- What an input of a replay begins with.
use Rattle.std.proofs.Common.{◌≡◌, ℕ, List, Option, Some, Ok, Err, ap, ◌∙◌}
use Rattle.std.specs.Str.Lines.{lines}
use Rattle.world_setup.specs.declared.event.Event.{Event}
use Rattle.world_core.specs.Parts.{WorldParts}
use Rattle.schedule.specs.Division.{settings_text, schedule_lines}
use Rattle.schedule.specs.Reading.{events_of}
use Rattle.world_settings.specs.declared.fault.SettingsFault.{SettingsFault}
use Rattle.world_settings.specs.declared.fault.SettingsFault.TheVariants as settings
use Rattle.program_io.specs.declared.fault.InputFault.TheVariants.{Line}
use Rattle.program_io.specs.Scheduled.{world_in, scheduled_from, scheduled_of, OpensNone}
use Rattle.program_io.specs.Stops.{RefusedFor, settings_told}

-- an input whose settings open a world and whose lines spell events
pub scheduled_is : (input : List ℕ) (w : WorldParts) (events : List Event) → world_in (settings_text input) ≡ Some w → events_of (schedule_lines (lines input)) ≡ Ok events
    → scheduled_of input ≡ Ok (w, events)
unfolding scheduled_of
scheduled_is input w events opens spells =
    ap (λ (o : Option WorldParts). scheduled_from o (events_of (schedule_lines (lines input)))) opens ∙ ap (scheduled_from (Some w)) spells

-- a line that spells none
pub scheduled_stops : (input : List ℕ) (w : WorldParts) (number : ℕ) → world_in (settings_text input) ≡ Some w → events_of (schedule_lines (lines input)) ≡ Err number
    → scheduled_of input ≡ Err (Line number)
unfolding scheduled_of
scheduled_stops input w number opens spells =
    ap (λ (o : Option WorldParts). scheduled_from o (events_of (schedule_lines (lines input)))) opens ∙ ap (scheduled_from (Some w)) spells

-- settings that open none
pub scheduled_never : (input : List ℕ) (why : SettingsFault) → OpensNone why (world_in (settings_text input)) → RefusedFor (settings_told why) (scheduled_of input)
unfolding scheduled_of
scheduled_never input settings.OutOfMemory none = tt
scheduled_never input settings.Settings none = ap (λ (o : Option WorldParts). scheduled_from o (events_of (schedule_lines (lines input)))) none
