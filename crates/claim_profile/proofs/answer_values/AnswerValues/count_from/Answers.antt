use Rattle.std.proofs.Common.{ap, sym, ◌∙◌}
use Rattle.claim_profile.specs.AnswerTally.{answer_seen, answer_counted}
use Rattle.claim_profile.proofs.AnswerCounting.{answer_counted-none}
use Rattle.claim_profile.proofs.answer_values.AnswerValues.count_from.Goals as goal

pub returns : goal.returns
returns c =
    let l = c.loop-segment in
    sym (answer_counted-none (answer_seen l.self)) ∙ ap (answer_counted (answer_seen l.self)) (sym c.in_default.ensures.segments) ∙ l.invariant
