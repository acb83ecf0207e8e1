use Rattle.std.proofs.Common.{[], refl, ◌∙◌}
use Rattle.std.specs.Prelude.{codes, decimal}
use Rattle.schedule_run.specs.Told.{pharmacy_word}
use Rattle.schedule_run.proofs.Places.{same_goes_on, same_is_done}
use Rattle.schedule_run.proofs.lines.put_open.Goals as goal

pub loop-passed-preserved : goal.loop-passed-preserved
loop-passed-preserved c =
    same_goes_on c.loop-passed.out.items c.put_open_place.new.out.items _ (pharmacy_word c.args.pharmacy) (decimal c.args.number) c.from-count.result (codes "open") [] c.loop-passed.passed c.loop-passed-test.true c.in_ok-put_open_place.ensures c.loop-passed.invariant

pub returns : goal.returns
returns c =
    same_is_done c.loop-passed.out.items _ (pharmacy_word c.args.pharmacy) (decimal c.args.number) c.from-count.result (codes "open") [] c.loop-passed.passed c.loop-passed-test.false c.loop-passed.invariant
    ∙ rw c.from-count.ensures refl
