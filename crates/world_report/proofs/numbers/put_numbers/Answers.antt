use Rattle.std.proofs.Common.{List, ℕ, ◌++◌, ap, ◌∙◌}
use Rattle.std.specs.Prelude.{decimal}
use Rattle.world_report.proofs.NextDigits.{one_word}
use Rattle.world_report.proofs.Loops.{numbers_go_on, numbers_are_done}
use Rattle.world_report.proofs.numbers.put_numbers.Goals as goal

pub loop-number-preserved : goal.loop-number-preserved
loop-number-preserved c =
    let number = c.loop-number.number in
    let one = c.in_ok-put_end.ensures ∙ ap (λ (t : List ℕ). c.loop-number.out.items ++ t) (c.loop-number.invariant.text ∙ one_word (decimal c.loop-number.number)) in
    record {
      told = numbers_go_on c.loop-number.out.items c.put_end.new.out.items _ number c.args.past c.loop-number-test.true one c.loop-number.invariant.told;
      text = c.write_next-start.ensures.written;
      within = c.write_next-start.ensures.within;
    }

pub returns : goal.returns
returns c = numbers_are_done c.loop-number.out.items _ c.loop-number.number c.args.past c.loop-number-test.false c.loop-number.invariant.told
