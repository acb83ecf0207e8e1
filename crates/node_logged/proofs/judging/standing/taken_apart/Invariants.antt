use Rattle.std.proofs.Common.{◌≡◌, ◌++◌, map}
use Rattle.std.specs.Vec.Iter.{into_iter_items}
use Rattle.node_log.specs.LogSeen.{logs_seen}
use Rattle.node_logged.specs.StandingSeen.{StandsWhole}
use Rattle.node_logged.proofs.judging.standing.taken_apart.Given as goal

abbrev pub invariant-loop-held : goal.invariant-loop-held
invariant-loop-held l = record {
  logs : logs_seen l.standing.logs.items ++ map (λ h. h.log) (into_iter_items l.held-iterator) ≡ map (λ h. h.log) l.fn.all.items;
  nodes : StandsWhole l.settings l.standing;
}
