use Rattle.std.proofs.Common.{◌≡◌, ◌++◌, drop, map}
use Rattle.world_report.specs.Words.{lines_text}
use Rattle.world_report.specs.Rulings.{paid_line}
use Rattle.world_report.proofs.lists.put_payments.Given as goal

-- the lines so far, and then those of what is left
abbrev pub invariant-loop-payment : goal.invariant-loop-payment
invariant-loop-payment l = l.out.items ++ lines_text (map paid_line (drop l.payment-index l.payments)) ≡ l.initial.out.items ++ lines_text (map paid_line l.payments)
