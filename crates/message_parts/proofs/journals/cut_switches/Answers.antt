use Rattle.std.proofs.Common.{◌-◌, ◌∙◌, refl}
use Rattle.message_parts.specs.AtRest.{switch_told}
use Rattle.message_parts.proofs.AtRest.{each_next}
use Rattle.message_parts.proofs.journals.cut_switches.Goals as goal

pub loop-preserved : goal.loop-preserved
loop-preserved c = record {
  whole = c.in_ok-cut_mark.ensures.whole ∙ c.loop.invariant.whole;
  told = λ carried behind.
      each_next switch_told c.args.count c.loop.counter behind _ c.loop.cutter c.cut_mark.new.cutter carried carried _ c.loop-test.true refl
      (c.in_ok-cut_mark.ensures.told carried) (c.loop.invariant.told carried behind);
}
