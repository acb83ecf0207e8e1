use Rattle.std.proofs.Common.{◌≡◌, ◌-◌, ◌++◌, replicate}
use Rattle.log_audit.proofs.tables.senders.note.Given as goal

-- those so far, and one for each packet that is left, are all
abbrev pub invariant-loop : goal.invariant-loop
invariant-loop l = l.senders.items ++ replicate (l.end - l.counter) l.number ≡ l.initial.senders.items ++ replicate (l.fn.sent.end - l.fn.sent.start) l.number
