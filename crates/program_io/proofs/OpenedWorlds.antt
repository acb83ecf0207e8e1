-- When settings open a world, and what an input begins with.
use Rattle.std.proofs.Common.{◌≡◌, ℕ, Bool, true, false, ◌&&◌, List, length, Option, Some, None, is_none, option_map, Result, Ok, Err, refl, sym, ap, ◌∙◌}
use Rattle.std.specs.Prelude.{if◌then◌else◌}
use Rattle.std.specs.Option.{option_or}
use Rattle.std.specs.Str.Lines.{lines}
use Rattle.std.proofs.lemmas.List.{length-map}
use Rattle.bin_routes.specs.Fault.{first_fault}
use Rattle.bin_routes.specs.declared.fault.RoutesFault.{RoutesFault}
use Rattle.claim_model.specs.Settings.{SettingsFault, settings_fault}
use Rattle.world_setup.specs.Seen.{payer_seen, settings_seen}
use Rattle.world_setup.specs.declared.event.Event.{Event}
use Rattle.world_setup.specs.Taken.{named, world_fault}
use Rattle.world_setup.specs.declared.settings.WorldSettings.{WorldSettings}
use Rattle.world_setup.specs.declared.world_fault.WorldFault.{WorldFault}
use Rattle.world_setup.specs.declared.world_fault.WorldFault.TheVariants as fault
use Rattle.world_core.specs.Parts.{WorldParts}
use Rattle.world_settings.specs.Checked.{Spells}
use Rattle.world_settings.specs.Document.{document_seen, living_in}
use Rattle.schedule.specs.Division.{settings_text, schedule_lines}
use Rattle.schedule.specs.Reading.{living_events_of}
use Rattle.world_settings.specs.declared.fault.SettingsFault.{SettingsFault as ReadingFault}
use Rattle.world_settings.specs.declared.fault.SettingsFault.TheVariants as settings
use Rattle.program_io.specs.declared.fault.InputFault.{InputFault}
use Rattle.program_io.specs.declared.fault.InputFault.TheVariants.{Line}
use Rattle.program_io.specs.Scheduled.{is_taken, opened_world, opened_by, opened_if, living_world_in, scheduled_from, living_scheduled_of, OpensNone}
use Rattle.program_io.specs.Stops.{RefusedFor, settings_told}

none_both : (a : Option SettingsFault) (b : Option RoutesFault) → option_or (option_map named a) (option_map fault.BadRoute b) ≡ None → (is_none a && is_none b) ≡ true
none_both None None is = refl
none_both None (Some f) is = absurd cc
none_both (Some f) b is = absurd cc

some_one : (a : Option SettingsFault) (b : Option RoutesFault) (why : WorldFault) → option_or (option_map named a) (option_map fault.BadRoute b) ≡ Some why → (is_none a && is_none b) ≡ false
some_one None None why is = absurd cc
some_one None (Some f) why is = refl
some_one (Some f) b why is = refl

-- the test of a document, of settings as the code has them
test_is : (s : WorldSettings) → is_taken (document_seen s) ≡ (is_none (settings_fault (settings_seen s)) && is_none (first_fault (length s.payers.items) s.routes.items))
test_is s = ap (λ (n : ℕ). is_none (settings_fault (settings_seen s)) && is_none (first_fault n s.routes.items)) (length-map s.payers.items payer_seen)

pub opened_where : (s : WorldSettings) (w : WorldParts) → world_fault s ≡ None → w ≡ opened_world (document_seen s) → opened_by (document_seen s) ≡ Some w
opened_where s w none is =
    ap (λ (b : Bool). if b then Some (opened_world (document_seen s)) else None) (test_is s ∙ none_both (settings_fault (settings_seen s)) (first_fault (length s.payers.items) s.routes.items) none)
    ∙ ap (λ (v : WorldParts). Some v) (sym is)

pub opened_nowhere : (s : WorldSettings) (why : WorldFault) → world_fault s ≡ Some why → opened_by (document_seen s) ≡ None
opened_nowhere s why some =
    ap (λ (b : Bool). if b then Some (opened_world (document_seen s)) else None) (test_is s ∙ some_one (settings_fault (settings_seen s)) (first_fault (length s.payers.items) s.routes.items) why some)

-- wide settings that a text spells and a world takes open it
pub living_opens : (text : List ℕ) (s : WorldSettings) (w : WorldParts) → Spells text s → w ≡ opened_world (document_seen s) → living_world_in text ≡ Some w
unfolding living_world_in
living_opens text s w spells is = ap opened_if spells.spelled ∙ opened_where s w spells.taken is

-- others open none
pub living_opens_none : (text : List ℕ) (s : WorldSettings) (why : WorldFault) → living_in text ≡ Some (document_seen s) → world_fault s ≡ Some why → living_world_in text ≡ None
unfolding living_world_in
living_opens_none text s why spelled refused = ap opened_if spelled ∙ opened_nowhere s why refused

-- an input whose settings open a world and whose lines spell events
pub scheduled_is : (input : List ℕ) (w : WorldParts) (events : List Event) → living_world_in (settings_text input) ≡ Some w → living_events_of (schedule_lines (lines input)) ≡ Ok events
    → living_scheduled_of input ≡ Ok (w, events)
unfolding living_scheduled_of
scheduled_is input w events opens spells =
    ap (λ (o : Option WorldParts). scheduled_from o (living_events_of (schedule_lines (lines input)))) opens ∙ ap (scheduled_from (Some w)) spells

-- a line that spells none
pub scheduled_stops : (input : List ℕ) (w : WorldParts) (number : ℕ) → living_world_in (settings_text input) ≡ Some w → living_events_of (schedule_lines (lines input)) ≡ Err number
    → living_scheduled_of input ≡ Err (Line number)
unfolding living_scheduled_of
scheduled_stops input w number opens spells =
    ap (λ (o : Option WorldParts). scheduled_from o (living_events_of (schedule_lines (lines input)))) opens ∙ ap (scheduled_from (Some w)) spells

-- settings that open none
pub scheduled_never : (input : List ℕ) (why : ReadingFault) → OpensNone why (living_world_in (settings_text input)) → RefusedFor (settings_told why) (living_scheduled_of input)
unfolding living_scheduled_of
scheduled_never input settings.OutOfMemory none = tt
scheduled_never input settings.Settings none = ap (λ (o : Option WorldParts). scheduled_from o (living_events_of (schedule_lines (lines input)))) none
