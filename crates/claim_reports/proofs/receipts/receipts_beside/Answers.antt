use Rattle.claim_reports.proofs.Received.{received_is}
use Rattle.claim_reports.proofs.receipts.receipts_beside.Goals as goal

pub returns-clause-made : goal.returns-clause-made
returns-clause-made c =
    received_is c.args.receipts.now c.args.entries.now c.args.packets.now c.args.pharmacy _ _ c.in_ok-entries.entries.items c.in_ok-sent.sent.items c.in_ok-told.told.items
    c.in_ok-held.held c.in_ok-came.came _ _ _ _ c.in_ok-entries.ensures.read (rw c.in_ok-to.ensures at c.in_ok-sent.ensures.read) c.in_ok-told.ensures.read
    (rw c.as_slice.ensures.value at c.in_ok-held.ensures) c.in_ok-came.ensures
    c.new-text.ensures.items c.in_ok-put_head.ensures c.as_slice-2.ensures.value c.in_ok-put_findings.ensures c.as_slice-3.ensures.value c.is_nothing_found-agrees.ensures
