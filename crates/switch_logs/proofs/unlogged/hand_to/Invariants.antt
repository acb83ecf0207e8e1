use Rattle.std.proofs.Common.{◌≡◌}
use Rattle.switch_logs.specs.MadeLogs.{who}
use Rattle.switch_logs.proofs.unlogged.hand_to.Given as goal

-- it is the same node still
abbrev pub invariant-loop-packet : goal.invariant-loop-packet
invariant-loop-packet l = who l.switch ≡ who l.fn.switch
