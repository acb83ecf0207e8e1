use Rattle.std.proofs.Common.{◌∙◌}
use Rattle.std.specs.Prelude.{decimal}
use Rattle.world_report.specs.Rulings.{ruling_words}
use Rattle.world_report.proofs.Loops.{told_goes_on, told_is_done}
use Rattle.world_report.proofs.entries.put_told.Goals as goal

pub loop-passed-preserved : goal.loop-passed-preserved
loop-passed-preserved c =
    told_goes_on ruling_words c.loop-passed.out.items c.put_told_place.new.out.items _ (decimal c.number-number.result) c.from-count.result c.code-code.result c.args.rulings.now c.loop-passed.passed c.index-rulings-passed.result c.loop-passed-test.true c.index-rulings-passed.is
    c.in_ok-put_told_place.ensures c.loop-passed.invariant

pub returns : goal.returns
returns c =
    told_is_done ruling_words c.loop-passed.out.items _ (decimal c.number-number.result) c.from-count.result c.code-code.result c.args.rulings.now c.loop-passed.passed c.loop-passed-test.false c.loop-passed.invariant
    ∙ rw (c.number-number.ensures, c.code-code.ensures, c.from-count.ensures, c.count.ensures)
