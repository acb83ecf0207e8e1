use Rattle.std.proofs.Common.{◌≡◌, map, take}
use Rattle.world_setup.specs.Seen.{payer_seen}
use Rattle.world_setup.proofs.settings.payers_copied.Given as goal

-- the copies so far
abbrev pub invariant-loop-payer : goal.invariant-loop-payer
invariant-loop-payer l = map payer_seen l.copies.items ≡ map payer_seen (take l.payer-index l.payers)
