use Rattle.std.proofs.Common.{◌≡◌, ◌≤◌, ◌<◌, ◌+◌, ◌++◌, length, map}
use Rattle.std.specs.List.{AllByRecursion}
use Rattle.std.specs.Vec.Iter.{into_iter_items}
use Rattle.claim_model.specs.Settings.{payers_from}
use Rattle.world_setup.specs.Seen.{payer_seen}
use Rattle.world_core.specs.Opening.{HasSerial}
use Rattle.world_core.proofs.opening.open_payers.Given as goal

abbrev pub invariant-loop-each : goal.invariant-loop-each
invariant-loop-each l = record {
  some : 0 < l.number;
  few : l.number + length (into_iter_items l.each-iterator) ≤ 4097;
  opened : l.nodes.items ++ payers_from l.number (map payer_seen (into_iter_items l.each-iterator)) ≡ payers_from 1 (map payer_seen l.fn.settings.items);
  serials : AllByRecursion HasSerial (into_iter_items l.each-iterator) → AllByRecursion HasSerial l.fn.settings.items;
}
