-- What an input begins with: the opening world of its settings, and the events that its lines spell.
use Rattle.std.specs.Prelude.{◌≡◌, ℕ, Bool, ◌&&◌, List, length, Option, Some, None, is_none, Result, Ok, Err, if◌then◌else◌}
use Rattle.std.specs.Str.Lines.{lines}
use Rattle.bin_routes.specs.Fault.{first_fault}
use Rattle.claim_model.specs.Settings.{settings_fault, opening}
use Rattle.world_setup.specs.declared.event.Event.{Event}
use Rattle.world_setup.specs.declared.settings.WorldSettings.{WorldSettings}
use Rattle.world_core.specs.Parts.{WorldParts}
use Rattle.world_settings.specs.Document.{Document, document_seen, settings_in, living_in}
use Rattle.world_settings.specs.declared.fault.SettingsFault.{SettingsFault}
use Rattle.world_settings.specs.declared.fault.SettingsFault.TheVariants as settings
use Rattle.schedule.specs.Division.{settings_text, schedule_lines}
use Rattle.schedule.specs.Reading.{events_of, living_events_of}
use Rattle.program_io.specs.declared.fault.InputFault.{InputFault}
use Rattle.program_io.specs.declared.fault.InputFault.TheVariants.{Settings, Line}
use Rattle.world_setup.specs.Taken.{routes_with}

-- a world takes the settings: neither its nodes nor a row of routes is at fault
abbrev pub is_taken : Document → Bool
is_taken d = is_none (settings_fault d.world) && is_none (first_fault (length d.world.payers) d.routes)

-- the opening world of settings, with their routes
abbrev pub opened_world : Document → WorldParts
opened_world d = record { routes = routes_with d.world d.routes; world = opening d.world }

abbrev pub opened_by : Document → Option WorldParts
opened_by d = if is_taken d then Some (opened_world d) else None

abbrev pub opened_if : Option Document → Option WorldParts
opened_if None = None
opened_if (Some d) = opened_by d

-- the opening world of the settings that a text spells
unfoldable pub world_in : List ℕ → Option WorldParts
world_in text = opened_if (settings_in text)

-- the same of wide settings
unfoldable pub living_world_in : List ℕ → Option WorldParts
living_world_in text = opened_if (living_in text)

-- a text spells these settings, and a world takes them
abbrev pub Opens : List ℕ → WorldSettings → Type 0
Opens text settings = world_in text ≡ Some (opened_world (document_seen settings))

-- settings open no world for this cause; want of memory says nothing
abbrev pub OpensNone : SettingsFault → Option WorldParts → Type 0
OpensNone settings.OutOfMemory opened = Unit {0}
OpensNone settings.Settings opened = opened ≡ None

-- the settings come first
abbrev pub scheduled_from : Option WorldParts → Result (List Event) ℕ → Result (WorldParts × List Event) InputFault
scheduled_from None spelled = Err Settings
scheduled_from (Some w) (Ok events) = Ok (w, events)
scheduled_from (Some w) (Err number) = Err (Line number)

-- what an input begins with, which is settings, a line `---`, and a schedule; or what is bad in it
unfoldable pub scheduled_of : List ℕ → Result (WorldParts × List Event) InputFault
scheduled_of input = scheduled_from (world_in (settings_text input)) (events_of (schedule_lines (lines input)))

-- the same of wide settings, under which payers may ask
unfoldable pub living_scheduled_of : List ℕ → Result (WorldParts × List Event) InputFault
living_scheduled_of input = scheduled_from (living_world_in (settings_text input)) (living_events_of (schedule_lines (lines input)))
