use Rattle.std.proofs.Common.{◌≡◌, take}
use Rattle.node_logged.proofs.same_settings.have_same_prices.Given as goal

abbrev pub invariant-loop-place : goal.invariant-loop-place
invariant-loop-place l = take l.place l.a.prices ≡ take l.place l.b.prices
