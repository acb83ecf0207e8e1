use Rattle.std.proofs.Common.{◌≡◌, take}
use Rattle.claim_profile.proofs.reject.Rejects.new.Given as goal

abbrev pub invariant-loop-code : goal.invariant-loop-code
invariant-loop-code l = l.few ≡ take l.code-index l.codes
