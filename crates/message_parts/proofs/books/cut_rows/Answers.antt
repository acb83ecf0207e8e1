use Rattle.message_parts.specs.AtRest.{row_told, stray_told}
use Rattle.message_parts.proofs.AtRest.{each_stops, each_done}
use Rattle.message_parts.proofs.books.cut_rows.Goals as goal

pub returns-then-not-whole-clause-told : goal.returns-then-not-whole-clause-told
returns-then-not-whole-clause-told c =
    each_stops row_told c.args.count c.loop.counter stray_told c.in_ok-whole.whole c.loop.cutter c.cut_row.new.cutter c.loop.carried.items c.cut_row.new.carried.items _
    c.loop-test.true c.if-not-whole.true c.in_ok-whole.ensures.told c.loop.invariant.told

pub returns-clause-told : goal.returns-clause-told
returns-clause-told c = each_done row_told c.args.count c.loop.counter stray_told c.loop.cutter c.loop.carried.items _ c.loop-test.false c.loop.invariant.told
