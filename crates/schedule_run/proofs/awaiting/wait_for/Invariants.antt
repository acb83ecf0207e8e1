use Rattle.std.proofs.Common.{◌≡◌}
use Rattle.node_logged.specs.TillSeen.{till_seen}
use Rattle.schedule_run.proofs.awaiting.wait_for.Given as goal

-- while the request is open, the till hears nothing
abbrev pub invariant-loop-passed : goal.invariant-loop-passed
invariant-loop-passed g l = till_seen l.till ≡ till_seen l.initial.till
