use Rattle.std.proofs.Common.{◌≡◌, take}
use Rattle.node_logged.proofs.same_settings.are_alike.Given as goal

abbrev pub invariant-loop-place : goal.invariant-loop-place
invariant-loop-place g l = take l.place l.a ≡ take l.place l.b
