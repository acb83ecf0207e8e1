use Rattle.std.proofs.Common.{◌++◌, ◌+◌, drop, List, subst}
use Rattle.std.proofs.lemmas.List.{drop_all}
use Rattle.node_logged.specs.Tills.{Receipt}
use Rattle.node_logged.specs.Marked.{Marks}
use Rattle.node_log.proofs.Lists.{left_at}
use Rattle.node_logged.proofs.judging.receipts.mark_all.Goals as goal

pub loop-receipt-preserved : goal.loop-receipt-preserved
loop-receipt-preserved c = λ left all m.
    c.mark.ensures (drop (c.loop-receipt.receipt-index + 1) c.args.receipts.now ++ left) all
    (subst (λ (xs : List Receipt). Marks c.args.ledger.now.entries (xs ++ left) all c.loop-receipt.marks)
    (left_at c.args.receipts.now c.loop-receipt.receipt-index c.receipt-item.result c.loop-receipt-test.true c.receipt-item.is)
    (c.loop-receipt.invariant left all m))

pub returns : goal.returns
returns c = λ left all m.
    subst (λ (xs : List Receipt). Marks c.args.ledger.now.entries (xs ++ left) all c.loop-receipt.marks)
    (drop_all c.loop-receipt.receipt-index c.args.receipts.now c.loop-receipt-test.false)
    (c.loop-receipt.invariant left all m)
