use Rattle.std.proofs.Common.{◌≡◌}
use Rattle.log_growth.specs.Rejected.{rerouted_to}
use Rattle.log_growth.proofs.rejected.all_rerouted.Given as goal

-- those so far
abbrev pub invariant-loop-place : goal.invariant-loop-place
invariant-loop-place l = l.found.items ≡ rerouted_to l.service l.pharmacy l.place
