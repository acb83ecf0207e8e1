use Rattle.std.proofs.Common.{◌≡◌, take, map}
use Rattle.node_service.specs.Payments.{counted_payment}
use Rattle.node_service.proofs.payments.counted_list.Given as goal

abbrev pub invariant-loop-payment : goal.invariant-loop-payment
invariant-loop-payment l = l.list.items ≡ map counted_payment (take l.payment-index l.paid)
