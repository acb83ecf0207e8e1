use Rattle.std.proofs.Common.{◌≡◌, ◌++◌, length}
use Rattle.log_audit.proofs.outgoing.Outgoing.put_text.Given as goal

-- what was put, and then what is left, is the whole
abbrev pub invariant-loop-left : goal.invariant-loop-left
invariant-loop-left g l = l.self ++ l.left ≡ l.initial.self ++ l.text

abbrev pub decreases-loop-left : goal.decreases-loop-left
decreases-loop-left g l = length l.left
