-- When two settings are the same to every node.
use Rattle.std.specs.Prelude.{◌≡◌, ℕ, List, Option, option_map}
use Rattle.std.specs.Borrow.{Bor}
use Rattle.world_setup.specs.Seen.{settings_seen}
use Rattle.world_setup.specs.declared.settings.WorldSettings.{WorldSettings}

-- they open the same nodes, under the same routes
pub record AreAlike (a b : WorldSettings) : Type 0 where
  pub nodes : settings_seen a ≡ settings_seen b
  pub routes : a.routes.items ≡ b.routes.items

-- a product of a plan and its price, where there is one
abbrev pub priced : Option (Bor (List ℕ) × ℕ) → Option (List ℕ × ℕ)
priced o = option_map (λ p. (p.0.now, p.1)) o
