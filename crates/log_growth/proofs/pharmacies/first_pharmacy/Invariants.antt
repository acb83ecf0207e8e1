use Rattle.std.proofs.Common.{◌≡◌, ◌+◌, drop}
use Rattle.log_growth.specs.Compared.{first_other, pharmacy_grows}
use Rattle.log_growth.proofs.pharmacies.first_pharmacy.Given as goal

-- what is left is compared as all is
abbrev pub invariant-loop-place : goal.invariant-loop-place
invariant-loop-place l = first_other pharmacy_grows (l.place + 1) (drop l.place l.old) (drop l.place l.new) ≡ first_other pharmacy_grows 1 l.old l.new
