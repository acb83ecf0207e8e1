-- The settings of a world that a table and a text spell.
use Rattle.std.specs.Prelude.{ℕ, ◌≡◌, Bool, true, false, List, [], ◌∷◌, map, codes, Option, Some, None, if◌then◌else◌}
use Rattle.std.specs.Str.{is_utf8}
use Rattle.input_text.specs.Options.{◌>>=◌}
use Rattle.toml.specs.Data.{Members}
use Rattle.toml.specs.Parse.{parse_document}
use Rattle.bin_routes.specs.Row.{Row}
use Rattle.claim_model.specs.Limits.{Limits, stated}
use Rattle.claim_model.specs.Settings.{WorldSettings}
use Rattle.world_setup.specs.Seen.{payer_seen, settings_seen}
use Rattle.world_setup.specs.declared.settings.WorldSettings.{WorldSettings as Opened}
use Rattle.world_settings.specs.declared.fault.SettingsFault.{SettingsFault}
use Rattle.world_settings.specs.declared.fault.SettingsFault.TheVariants.{OutOfMemory, Settings}
use Rattle.world_settings.specs.Values.{number_at}
use Rattle.world_settings.specs.Keys.{only_with}
use Rattle.world_settings.specs.Lists.{list_at}
use Rattle.world_settings.specs.Pharmacies.{pharmacy_in}
use Rattle.world_settings.specs.Payers.{switch_in, payer_in}
use Rattle.world_settings.specs.Routes.{route_in}
use Rattle.world_settings.specs.Limits.{limits_in, allows}
use Rattle.world_settings.specs.Profile.{answers_in}

-- what the nodes of a world are opened with, and the rows of its table of routes
pub record Document : Type 0 where
  pub world : WorldSettings
  pub routes : List Row

-- the keys of a document, each of which has to be there
abbrev pub document_keys : List (List ℕ)
document_keys = codes "again" ∷ codes "tries" ∷ codes "pharmacy" ∷ codes "switch" ∷ codes "payer" ∷ codes "route" ∷ []

-- the settings that the values of a table spell; in wide ones payers may ask, and answers carry what advices say beside their rulings or not, and
-- routes may be for some providers alone or lead to no payer
unfoldable pub document_with : (wide carries : Bool) → Members → Option Document
document_with wide carries table = do
  again ← number_at (codes "again") 4294967295 table
  tries ← number_at (codes "tries") 4294967295 table
  pharmacies ← list_at (pharmacy_in again tries) (codes "pharmacy") table
  switches ← list_at switch_in (codes "switch") table
  payers ← list_at (payer_in wide carries) (codes "payer") table
  routes ← list_at (route_in wide) (codes "route") table
  Some (record { world = record { pharmacies = pharmacies; switches = switches; payers = map payer_seen payers }; routes = routes })

-- settings, where they stay within the limits
abbrev pub allowed : Limits → Document → Option Document
allowed limits d = if allows limits d.world then Some d else None

-- the settings that the values of a table spell, within limits
abbrev pub settings_within : (wide carries : Bool) → Limits → Members → Option Document
settings_within wide carries limits table = document_with wide carries table >>= allowed limits

-- the settings that a table spells, within the stated limits
abbrev pub settings_of : Members → Option Document
settings_of table = only_with document_keys table (settings_within false false stated table)

-- the keys of a document that may state its limits, and whether answers are wide
abbrev pub living_keys : List (List ℕ)
living_keys = codes "limits" ∷ codes "answers" ∷ document_keys

-- the settings that the values of a table spell, within the limits that it states
abbrev pub living_with : Members → Option Document
living_with table = limits_in table >>= (λ limits. answers_in table >>= (λ carries. settings_within true carries limits table))

abbrev pub living_of : Members → Option Document
living_of table = only_with living_keys table (living_with table)

-- the settings that a text spells: it is UTF-8, a TOML document, and its table spells them
unfoldable pub settings_in : List ℕ → Option Document
settings_in text = if is_utf8 text then parse_document text >>= settings_of else None

-- the same of a text that may state its limits, as the programs that live read it
unfoldable pub living_in : List ℕ → Option Document
living_in text = if is_utf8 text then parse_document text >>= living_of else None

-- settings as the definitions have them
abbrev pub document_seen : Opened → Document
document_seen s = record { world = settings_seen s; routes = s.routes.items }

-- a text is refused for this cause; where memory ran out nothing is said
abbrev pub RefusedFor : SettingsFault → Option Document → Type 0
RefusedFor OutOfMemory spelled = Unit {0}
RefusedFor Settings spelled = spelled ≡ None
