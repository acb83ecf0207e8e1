use Rattle.std.proofs.Common.{◌≡◌, drop}
use Rattle.log_growth.specs.Compared.{same_prices}
use Rattle.log_growth.proofs.payers.same_prices.Given as goal

-- what is left is compared as all is
abbrev pub invariant-loop-place : goal.invariant-loop-place
invariant-loop-place l = same_prices (drop l.place l.old.prices) (drop l.place l.new.prices) ≡ same_prices l.old.prices l.new.prices
