-- Settings that a text spells and that a world takes.
use Rattle.std.specs.Prelude.{◌≡◌, ◌⊎◌, ⊤, ℕ, List, Some, None}
use Rattle.world_setup.specs.Taken.{world_fault}
use Rattle.world_setup.specs.declared.settings.WorldSettings.{WorldSettings}
use Rattle.world_setup.specs.declared.world_fault.WorldFault.{WorldFault}
use Rattle.world_setup.specs.declared.world_fault.WorldFault.TheVariants as world
use Rattle.world_settings.specs.Document.{document_seen, living_in}
use Rattle.world_settings.specs.declared.fault.Untaken.{Untaken}
use Rattle.world_settings.specs.declared.fault.Untaken.TheVariants.{OutOfMemory, Settings, World}

-- a text spells these settings, and a world takes them
pub record Spells (text : List ℕ) (settings : WorldSettings) : Type 0 where
  pub spelled : living_in text ≡ Some (document_seen settings)
  pub taken : world_fault settings ≡ None

-- a text spells settings, which no world takes for this cause
pub record SpellsNoWorld (text : List ℕ) (why : WorldFault) : Type 0 where
  pub settings : WorldSettings
  pub spelled : living_in text ≡ Some (document_seen settings)
  pub refused : world_fault settings ≡ Some why

-- a text spells no settings, or some that no world takes
abbrev pub SpellsNone : List ℕ → Type 0
SpellsNone text = (living_in text ≡ None) ⊎ ((why : WorldFault) × SpellsNoWorld text why)

-- why no settings are taken where a world refuses them for this cause
abbrev pub untaken_by : WorldFault → Untaken
untaken_by world.OutOfMemory = OutOfMemory
untaken_by world.TooMany = World world.TooMany
untaken_by world.NoNode = World world.NoNode
untaken_by world.SameProvider = World world.SameProvider
untaken_by (world.BadRoute why) = World (world.BadRoute why)

-- a text is refused for this cause as settings; where memory ran out nothing is said
abbrev pub IsUntaken : List ℕ → Untaken → Type 0
IsUntaken text OutOfMemory = ⊤
IsUntaken text Settings = living_in text ≡ None
IsUntaken text (World why) = SpellsNoWorld text why
