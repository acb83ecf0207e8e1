use Rattle.std.proofs.Common.{◌≡◌, take}
use Rattle.claim_profile.specs.Reject.{first_five_held}
use Rattle.claim_profile.proofs.reject.first_five.Given as goal

abbrev pub invariant-loop-holds : goal.invariant-loop-holds
invariant-loop-holds l = l.few ≡ first_five_held (take l.holds-index l.conditions)
