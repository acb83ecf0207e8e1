use Rattle.std.proofs.Common.{◌≡◌, drop}
use Rattle.claim_model.specs.Settings.{some_provider_twice}
use Rattle.world_setup.proofs.Identities.{is_twice}
use Rattle.world_setup.proofs.identity.some_provider_twice.Given as goal

abbrev pub invariant-loop-settings : goal.invariant-loop-settings
invariant-loop-settings l = is_twice l.seen.keys (drop l.settings-index l.pharmacies) ≡ some_provider_twice l.pharmacies
