use Rattle.std.proofs.Common.{◌≡◌, ◌-◌, ◌≤◌}
use Rattle.codec.specs.Codecs.{u16, times}
use Rattle.codec.proofs.Loops.{after}
use Rattle.codec.proofs.lists.take_each.Given as goal

-- what was taken and then what is left is all
abbrev pub invariant-loop : goal.invariant-loop
invariant-loop l = times u16 l.fn.count l.fn.bytes ≡ after l.all.items (times u16 (l.fn.count - l.counter) l.rest)
