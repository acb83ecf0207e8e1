-- An order in the making, as the model sees it.
use Rattle.std.specs.Prelude.{map}
use Rattle.world_setup.specs.Seen.{event_seen}
use Rattle.run_merge.specs.Line.{OrderParts}
use Rattle.run_merge.specs.LineSeen.{lines_seen}
use Rattle.run_merge.specs.declared.order.Order.{Order}

abbrev pub order_seen : Order → OrderParts
order_seen o = record { lines = lines_seen o.lines.items; packets = o.posted; events = map event_seen o.events.items }
