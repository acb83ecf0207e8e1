use Rattle.std.proofs.Common.{◌≡◌, map, take}
use Rattle.message_parts.specs.Causes.{cause_seen, condition_seen, holding}
use Rattle.message_parts.proofs.causes.collect.Given as goal

-- the causes so far
abbrev pub invariant-loop-condition : goal.invariant-loop-condition
invariant-loop-condition l = map cause_seen l.found.items ≡ holding (map condition_seen (take l.condition-index l.conditions))
