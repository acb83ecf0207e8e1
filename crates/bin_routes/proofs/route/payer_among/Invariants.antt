use Rattle.std.proofs.Common.{◌≡◌, drop}
use Rattle.bin_routes.specs.Table.{ranged_payer}
use Rattle.bin_routes.proofs.route.payer_among.Given as goal

-- no route so far is for the header
abbrev pub invariant-loop-route : goal.invariant-loop-route
invariant-loop-route l = ranged_payer (drop l.route-index l.routes) l.pcn l.key ≡ ranged_payer l.routes l.pcn l.key
