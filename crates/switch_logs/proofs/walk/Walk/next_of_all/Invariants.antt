use Rattle.std.proofs.Common.{◌≡◌, map}
use Rattle.switch_logs.specs.MadeLogs.{who}
use Rattle.switch_logs.proofs.walk.Walk.next_of_all.Given as goal

-- they are who they were
abbrev pub invariant-loop-place : goal.invariant-loop-place
invariant-loop-place l = map who l.switches.switches.items ≡ map who l.fn.switches.switches.items
