use Rattle.std.proofs.Common.{◌≡◌, List, take}
use Rattle.claim_model.specs.Logs.{NodeLog}
use Rattle.node_logged.specs.Replayed.{AreOfWorld, ledgers_of}
use Rattle.node_logged.proofs.judging.worlds.ledgers_in.Given as goal

abbrev pub invariant-loop-place : goal.invariant-loop-place
invariant-loop-place l = (logs : List NodeLog) → AreOfWorld (ledgers_of l.settings logs) l.world.world → l.ledgers.items ≡ take l.place (ledgers_of l.settings logs)
