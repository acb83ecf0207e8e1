use Rattle.std.proofs.Common.{drop}
use Rattle.settings_digest.specs.Said.{price_text}
use Rattle.settings_digest.specs.Fits.{FitsPrice}
use Rattle.settings_digest.proofs.Putting.{Puts}
use Rattle.settings_digest.proofs.nodes.put_each_price.Given as goal

-- what was put and then what is left is all
abbrev pub invariant-loop-place : goal.invariant-loop-place
invariant-loop-place l = Puts price_text FitsPrice l.fn.out.items l.out.items l.plan.prices (drop l.place l.plan.prices)
