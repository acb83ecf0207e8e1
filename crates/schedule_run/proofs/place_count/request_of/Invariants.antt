use Rattle.std.proofs.Common.{◌≡◌, drop}
use Rattle.schedule_run.specs.Places.{request_of}
use Rattle.schedule_run.proofs.place_count.request_of.Given as goal

-- the request is not that of a receipt so far
abbrev pub invariant-loop-receipt : goal.invariant-loop-receipt
invariant-loop-receipt l = request_of l.number (drop l.receipt-index l.receipts) ≡ request_of l.number l.receipts
