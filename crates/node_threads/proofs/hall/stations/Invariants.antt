use Rattle.std.specs.Prelude.{◌≡◌, vec_len}
use Rattle.node_threads.proofs.hall.stations.Given as goal

abbrev pub invariant-loop-place : goal.invariant-loop-place
invariant-loop-place g l = vec_len l.stations ≡ l.place
