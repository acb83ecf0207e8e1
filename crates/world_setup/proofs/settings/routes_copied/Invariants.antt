use Rattle.std.proofs.Common.{◌≡◌, take}
use Rattle.world_setup.proofs.settings.routes_copied.Given as goal

-- the copies so far
abbrev pub invariant-loop-route : goal.invariant-loop-route
invariant-loop-route l = l.copies.items ≡ take l.route-index l.routes
