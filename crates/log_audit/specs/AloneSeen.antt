-- What logs come to by themselves, as the model sees it.
use Rattle.std.specs.Prelude.{ℕ, List, Result, Ok, Err, map}
use Rattle.claim_model.specs.Nodes.{AnyNode}
use Rattle.node_log.specs.LogSeen.{log_seen}
use Rattle.log_audit.specs.Lones as seen
use Rattle.log_audit.specs.declared.alone.log.Came.{Came}
use Rattle.log_audit.specs.declared.alone.log.Came.TheVariants.{Made, NotMade}
use Rattle.log_audit.specs.declared.alone.log.Lone.{Lone}

abbrev pub came_seen : Came → Result AnyNode (List ℕ)
came_seen (Made node) = Ok node
came_seen (NotMade line) = Err line.items

abbrev pub lone_seen : Lone → seen.Lone
lone_seen lone = record { log = log_seen lone.log.now; before = lone.before; torn = lone.torn; came = came_seen lone.came }

abbrev pub lones_seen : List Lone → List seen.Lone
lones_seen lones = map lone_seen lones
