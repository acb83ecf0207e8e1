use Rattle.std.proofs.Common.{◌+◌, arith}
use Rattle.d0_segments.specs.Pieces.{shared_of, groups_of}
use Rattle.message_parts.specs.Findings.{findings_seen}
use Rattle.message_parts.proofs.NextFindings.{transaction_next, transactions_done}
use Rattle.message_parts.proofs.findings.of_transactions.Goals as goal

pub loop-place-preserved : goal.loop-place-preserved
loop-place-preserved c =
    let framed = c.args.framed.now in
    let l = c.loop-place in
    record {
      within = omega (arith, c.loop-place-test.true, c.group_count-count.ensures);
      all = transaction_next framed.header (shared_of framed.body.bytes.now) (groups_of framed.body.bytes.now) l.place (l.place + 1)
          (findings_seen l.findings.items) _ _ (omega (arith, c.loop-place-test.true, c.group_count-count.ensures)) l.invariant.all c.in_ok-put_transaction.ensures;
    }

pub returns : goal.returns
returns c =
    let framed = c.args.framed.now in
    let l = c.loop-place in
    transactions_done framed.header (shared_of framed.body.bytes.now) (groups_of framed.body.bytes.now) l.place (l.place + 1)
    (findings_seen l.findings.items) _ (omega (arith, c.loop-place-test.false, c.group_count-count.ensures)) l.invariant.all
