use Rattle.std.proofs.Common.{◌≡◌, take}
use Rattle.world_setup.proofs.settings.pharmacies_copied.Given as goal

-- the copies so far
abbrev pub invariant-loop-pharmacy : goal.invariant-loop-pharmacy
invariant-loop-pharmacy l = l.copies.items ≡ take l.pharmacy-index l.pharmacies
