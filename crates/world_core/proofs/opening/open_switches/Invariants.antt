use Rattle.std.proofs.Common.{◌≡◌, ◌++◌}
use Rattle.std.specs.Vec.Iter.{into_iter_items}
use Rattle.claim_model.specs.Settings.{switches_of}
use Rattle.world_core.proofs.opening.open_switches.Given as goal

abbrev pub invariant-loop-each : goal.invariant-loop-each
invariant-loop-each l = l.nodes.items ++ switches_of (into_iter_items l.each-iterator) ≡ switches_of l.fn.settings.items
