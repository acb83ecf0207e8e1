use Rattle.std.proofs.Common.{◌≡◌}
use Rattle.world_setup.proofs.settings.give_keys.Given as goal

-- to a clause all keys are equal, so nothing changes
abbrev pub invariant-loop-payer : goal.invariant-loop-payer
invariant-loop-payer l = l.payers ≡ l.fn.payers
