-- Rows for providers that are no pharmacy yet.
use Rattle.std.specs.Prelude.{ℕ, List}
use Rattle.std.specs.List.{AllByRecursion}
use Rattle.bin_routes.specs.Row.{Row}
use Rattle.bin_routes.specs.Table.{IsForOthers}
use Rattle.claim_model.specs.Settings.{WorldSettings}
use Rattle.settings_growth.specs.Growth.{IsOfPharmacy}

-- each of these rows is for some providers, of which none is a pharmacy of these settings
abbrev pub AreForNewcomers : WorldSettings → List Row → Type 0
AreForNewcomers s more = (qualifier provider : List ℕ) → IsOfPharmacy s qualifier provider → AllByRecursion (λ (row : Row). IsForOthers row qualifier provider) more
