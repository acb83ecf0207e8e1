use Rattle.std.proofs.Common.{◌≡◌, ◌+◌, map, drop}
use Rattle.world_setup.specs.Seen.{payer_seen}
use Rattle.log_growth.specs.Compared.{first_other, payer_grows}
use Rattle.log_growth.proofs.payers.first_payer.Given as goal

-- what is left is compared as all is
abbrev pub invariant-loop-place : goal.invariant-loop-place
invariant-loop-place l =
    first_other payer_grows (l.place + 1) (map payer_seen (drop l.place l.old)) (map payer_seen (drop l.place l.new)) ≡ first_other payer_grows 1 (map payer_seen l.old) (map payer_seen l.new)
