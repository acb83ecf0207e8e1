use Rattle.payer_book.specs.PlaceMaps.{IsEmptyAt}
use Rattle.payer_book.proofs.book.place_map.empty_shards.Given as goal

abbrev pub invariant-loop : goal.invariant-loop
invariant-loop g l = IsEmptyAt g.K.PartialEq.eq l.shards.items
