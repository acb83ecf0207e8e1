use Rattle.std.proofs.Common.{◌≡◌, drop}
use Rattle.log_audit.specs.Prices.{listed_price}
use Rattle.log_audit.proofs.revisions.prices.listed_price.Given as goal

-- no product so far is this one
abbrev pub invariant-loop-place : goal.invariant-loop-place
invariant-loop-place l = listed_price (drop l.place l.plan.prices) l.product ≡ listed_price l.plan.prices l.product
