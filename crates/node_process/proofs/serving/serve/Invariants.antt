use Rattle.std.proofs.Common.{◌≤◌, ◌<◌, length}
use Rattle.node_process.specs.Acts.{heard}
use Rattle.node_process.specs.Safe.{owner_seen, IsTurn}
use Rattle.node_process.proofs.serving.serve.Given as goal

-- all that came was served and said, but what has begun of a line; there is room for more; and each turn took a byte at least
abbrev pub invariant-loop : goal.invariant-loop
invariant-loop g l =
    (IsTurn (owner_seen l.owner) (g.M.Machine.acts l.machine) l.service l.pending.items × (0 < length l.buffer)) × (l.counter ≤ length (heard (g.M.Machine.acts l.machine)))
