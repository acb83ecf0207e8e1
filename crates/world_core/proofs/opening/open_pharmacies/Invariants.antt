use Rattle.std.proofs.Common.{◌≡◌, ◌≤◌, ◌<◌, ◌+◌, ◌++◌, length}
use Rattle.std.specs.List.{AllByRecursion}
use Rattle.std.specs.Vec.Iter.{into_iter_items}
use Rattle.claim_model.specs.Settings.{IsPharmacySettings, pharmacies_from}
use Rattle.world_core.specs.Opening.{HasSwitches, OpensTimely}
use Rattle.world_core.proofs.opening.open_pharmacies.Given as goal

abbrev pub invariant-loop-each : goal.invariant-loop-each
invariant-loop-each l = record {
  few : length l.nodes.items + length (into_iter_items l.each-iterator) ≤ 65535;
  nodes_left : AllByRecursion HasSwitches (into_iter_items l.each-iterator);
  opened : l.nodes.items ++ pharmacies_from (length l.nodes.items + 1) (into_iter_items l.each-iterator) ≡ pharmacies_from 1 l.fn.settings.items;
  sized : AllByRecursion IsPharmacySettings (into_iter_items l.each-iterator) → AllByRecursion IsPharmacySettings l.fn.settings.items;
  timely : AllByRecursion OpensTimely (into_iter_items l.each-iterator) → AllByRecursion OpensTimely l.fn.settings.items;
}
