use Rattle.std.proofs.Common.{◌≡◌}
use Rattle.toml.specs.View.{members_view}
use Rattle.world_settings.specs.Payers.{priced}
use Rattle.world_settings.proofs.payers.priced.Given as goal

-- the prices that are left, on the plan as it is, give the plan of them all
abbrev pub invariant-loop-product : goal.invariant-loop-product
invariant-loop-product l = priced l.plan (members_view l.product-iterator) ≡ priced l.fn.plan (members_view l.prices.entries)
