-- Texts of settings of which one has grown from the other.
use Rattle.std.specs.Prelude.{◌≡◌, ⊤, ℕ, List, Some}
use Rattle.world_setup.specs.declared.settings.WorldSettings.{WorldSettings}
use Rattle.world_settings.specs.Checked.{Spells, SpellsNone}
use Rattle.log_growth.specs.Compared.{HasGrownTo, first_ungrown}
use Rattle.log_growth.specs.declared.growth.GrowthFault.{GrowthFault}
use Rattle.log_growth.specs.declared.growth.GrowthFault.TheVariants.{OutOfMemory, OldSettings, NewSettings, NotGrown}
use Rattle.log_growth.specs.declared.ungrown.Ungrown.{Ungrown}

-- both spell settings that a world takes, and those of the first have grown to those of the second
pub record HasGrown (old new : List ℕ) : Type 0 where
  pub before : WorldSettings
  pub after : WorldSettings
  pub first : Spells old before
  pub second : Spells new after
  pub grows : HasGrownTo before after

-- both spell settings that a world takes, and this is the first thing that has not grown
pub record HasNotGrown (old new : List ℕ) (found : Ungrown) : Type 0 where
  pub before : WorldSettings
  pub after : WorldSettings
  pub first : Spells old before
  pub second : Spells new after
  pub is : first_ungrown before after ≡ Some found

-- texts are refused for this cause
abbrev pub IsNoGrowth : List ℕ → List ℕ → GrowthFault → Type 0
IsNoGrowth old new OutOfMemory = ⊤
IsNoGrowth old new OldSettings = SpellsNone old
IsNoGrowth old new NewSettings = SpellsNone new
IsNoGrowth old new (NotGrown found words) = HasNotGrown old new found
