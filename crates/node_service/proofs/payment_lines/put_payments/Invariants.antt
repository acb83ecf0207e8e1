use Rattle.std.proofs.Common.{◌≡◌, ◌++◌, drop}
use Rattle.std.specs.List.{flat_map}
use Rattle.node_service.specs.Payments.{payment_line}
use Rattle.node_service.proofs.payment_lines.put_payments.Given as goal

-- the lines so far, and then those of the payments that are left
abbrev pub invariant-loop-payment : goal.invariant-loop-payment
invariant-loop-payment l = l.out.items ++ flat_map payment_line (drop l.payment-index l.payments) ≡ l.initial.out.items ++ flat_map payment_line l.payments
