use Rattle.std.proofs.Common.{ap, arith, length}
use Rattle.growing_logs.proofs.Stepping.{rows_none, rows_next}
use Rattle.growing_logs.proofs.rows.rows_for.Goals as goal

pub loop-place-init : goal.loop-place-init
loop-place-init g c =
    (rows_none c.args.grown.now c.args.text.now (g.L.Logs.found c.args.logs.now) c.new-rows.result.items c.requires.unread c.new-rows.ensures.items, ap length c.requires.unread)

pub loop-place-preserved : goal.loop-place-preserved
loop-place-preserved g c =
    let lengths = ap length c.in_ok-bytes.ensures.read in
    let before = c.loop-place.invariant.1 in (
      rows_next c.args.grown.now c.args.text.now (g.L.Logs.found c.loop-place.logs) (g.L.Logs.found c.read.new.self) c.in_ok-bytes.bytes.items c.loop-place.rows.items c.in-Ok-Some.more c.extend_from_slice.new.self.items
          c.in_ok-bytes.ensures.read c.loop-place.invariant.0
          (rw c.as_slice.ensures.value at (rw c.in-Ok-Some.field-0-is at c.in-Ok-Some.ensures.rows))
          (rw c.as_slice-in-Ok-Some.ensures.value at c.in_ok-extend_from_slice-in-Ok-Some.ensures.items),
      omega (arith, lengths, before),
    )
