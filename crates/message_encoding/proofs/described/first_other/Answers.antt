use Rattle.message_encoding.proofs.Others.{more_others}
use Rattle.message_encoding.proofs.described.first_other.Goals as goal

pub returns-then-parts-others-clause-first : goal.returns-then-parts-others-clause-first
returns-then-parts-others-clause-first c =
    let at = c.loop-place in
    more_others at.place c.args.parts.now c.args.others.now _ c.loop-place-test.false at.auto.place-end c.if-parts-others.true at.invariant.first
