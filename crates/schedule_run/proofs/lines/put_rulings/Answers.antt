use Rattle.std.specs.Prelude.{codes, decimal}
use Rattle.schedule_run.specs.Told.{pharmacy_word}
use Rattle.schedule_run.proofs.Places.{ruling_goes_on, rulings_are_done}
use Rattle.schedule_run.proofs.lines.put_rulings.Goals as goal

pub loop-passed-preserved : goal.loop-passed-preserved
loop-passed-preserved c =
    ruling_goes_on c.loop-passed.out.items c.put_settled_place.new.out.items _ (pharmacy_word c.args.pharmacy) (decimal c.args.number) _ (codes "settled") c.args.rulings.now c.loop-passed.passed c.index-rulings-passed.result c.loop-passed-test.true c.index-rulings-passed.is
    c.in_ok-put_settled_place.ensures c.loop-passed.invariant

pub returns : goal.returns
returns c =
    rulings_are_done c.loop-passed.out.items _ (pharmacy_word c.args.pharmacy) (decimal c.args.number) _ (codes "settled") c.args.rulings.now c.loop-passed.passed c.loop-passed-test.false c.loop-passed.invariant
