use Rattle.std.proofs.Common.{arith}
use Rattle.node_service.proofs.OpenEntries.{told_next, told_enough, told_all}
use Rattle.node_service.proofs.listing.put_entries.Goals as goal

pub returns-then-left-eq0 : goal.returns-then-left-eq0
returns-then-left-eq0 c = told_enough c.loop-place.out.items _ c.args.journal.now.entries c.loop-place.place c.loop-place.left c.if-left-eq0.true c.loop-place.invariant

pub loop-place-preserved : goal.loop-place-preserved
loop-place-preserved c = told_next c.loop-place.out.items c.put_next.new.out.items _ c.args.journal.now.entries c.loop-place.place c.loop-place.left c.in_ok-left.left (omega (arith, c.loop-place-test.true)) (omega (arith, c.if-left-eq0.false)) c.loop-place.invariant c.in_ok-left.ensures.text c.in_ok-left.ensures.left

pub returns : goal.returns
returns c = told_all c.loop-place.out.items _ c.args.journal.now.entries c.loop-place.place c.loop-place.left (omega (arith, c.loop-place-test.false)) c.loop-place.invariant
