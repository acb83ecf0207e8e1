use Rattle.std.proofs.Common.{◌≡◌, take, map}
use Rattle.node_handle.specs.Payments.{plain}
use Rattle.node_handle.proofs.payments.plain_list.Given as goal

abbrev pub invariant-loop-payment : goal.invariant-loop-payment
invariant-loop-payment l = l.list.items ≡ map plain (take l.payment-index l.payments)
