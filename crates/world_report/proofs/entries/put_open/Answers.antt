use Rattle.std.proofs.Common.{◌∙◌}
use Rattle.std.specs.Prelude.{decimal}
use Rattle.world_report.proofs.Loops.{open_goes_on, open_is_done}
use Rattle.world_report.proofs.entries.put_open.Goals as goal

pub loop-passed-preserved : goal.loop-passed-preserved
loop-passed-preserved c =
    open_goes_on c.loop-passed.out.items c.put_open_place.new.out.items _ (decimal c.number-number.result) c.from-count.result c.code-code.result c.loop-passed.passed c.loop-passed-test.true c.in_ok-put_open_place.ensures c.loop-passed.invariant

pub returns : goal.returns
returns c =
    open_is_done c.loop-passed.out.items _ (decimal c.number-number.result) c.from-count.result c.code-code.result c.loop-passed.passed c.loop-passed-test.false c.loop-passed.invariant
    ∙ rw (c.number-number.ensures, c.code-code.ensures, c.from-count.ensures, c.count.ensures)
