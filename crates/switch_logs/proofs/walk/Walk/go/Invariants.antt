use Rattle.std.proofs.Common.{◌≡◌, map}
use Rattle.switch_logs.specs.MadeLogs.{who}
use Rattle.switch_logs.proofs.walk.Walk.go.Given as goal

-- they are who they were
abbrev pub invariant-loop : goal.invariant-loop
invariant-loop l = map who l.switches.switches.items ≡ map who l.fn.switches.switches.items
