use Rattle.std.proofs.Common.{◌++◌, ◌+◌, ◌≤◌, length}
use Rattle.node_process.proofs.Hearing.{IsTaken}
use Rattle.node_process.proofs.pending.serve_heard.Given as goal

-- the lines that were served, what has begun of the next and what is left are all that came, and each turn takes a byte at least
abbrev pub invariant-loop : goal.invariant-loop
invariant-loop l = IsTaken l.initial.service (l.initial.pending.items ++ l.bytes) l.service l.pending.items l.rest × (l.counter + length l.rest ≤ length l.bytes)
