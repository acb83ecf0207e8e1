use Rattle.std.proofs.Common.{◌≡◌, length}
use Rattle.growing_logs.specs.Rejecting.{AreAllRows}
use Rattle.growing_logs.proofs.rows.rows_for.Given as goal

-- the rows of those before this place, as many as were read
abbrev pub invariant-loop-place : goal.invariant-loop-place
invariant-loop-place g l = AreAllRows l.grown l.text (g.L.Logs.found l.logs) l.rows.items × (length (g.L.Logs.found l.logs) ≡ l.place)
