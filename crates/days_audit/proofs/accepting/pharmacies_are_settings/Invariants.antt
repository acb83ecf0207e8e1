use Rattle.std.proofs.Common.{drop}
use Rattle.std.specs.List.{AllByRecursion}
use Rattle.claim_model.specs.Settings.{IsPharmacySettings}
use Rattle.days_audit.proofs.accepting.pharmacies_are_settings.Given as goal

-- where those that are left are such, all are
abbrev pub invariant-loop-each : goal.invariant-loop-each
invariant-loop-each l = AllByRecursion IsPharmacySettings (drop l.each-index l.settings) → AllByRecursion IsPharmacySettings l.settings
