use Rattle.std.proofs.Common.{◌<◌, ◌^◌, ◌∙◌, [], length, arith}
use Rattle.claim_reports.proofs.Telling.{neither, passed, tells_then}
use Rattle.claim_reports.proofs.ledger.period_of.Goals as goal

pub returns-in_err-moved-clause-refuses : goal.returns-in_err-moved-clause-refuses
returns-in_err-moved-clause-refuses c =
    let few : length c.args.before.now < 2 ^ 63 = omega arith in
    let few_more : length c.args.moves.now < 2 ^ 63 = omega arith in
    let first = c.in_ok-take_all.ensures.takes [] c.new-ledger.ensures in
    passed c.from_residual-in_err-moved.result _ _ c.from_residual-in_err-moved.ensures.1
    (tells_then _ _ _ (c.in_ok-take_all.ensures.refuses [] c.new-ledger.ensures (omega arith))
    (c.in_err-moved.ensures.refuses c.args.before.now first.is (omega arith)))

pub returns-clause-figures : goal.returns-clause-figures
returns-clause-figures c =
    let first = c.in_ok-take_all.ensures.takes [] c.new-ledger.ensures in
    let second = c.in_ok-moved.ensures.takes c.args.before.now first.is in
    record {
      begin = c.standing-begin.ensures ∙ first.is.standing;
      paid = second.paid;
      reversed = second.reversed;
      end = c.standing-end.ensures ∙ second.is.standing;
    }

pub returns-clause-closes : goal.returns-clause-closes
returns-clause-closes c =
    let first = c.in_ok-take_all.ensures.takes [] c.new-ledger.ensures in
    let second = c.in_ok-moved.ensures.takes c.args.before.now first.is in
    omega (arith, c.standing-begin.ensures, c.standing-end.ensures, second.balance)

pub returns-clause-refuses : goal.returns-clause-refuses
returns-clause-refuses c =
    let first = c.in_ok-take_all.ensures.takes [] c.new-ledger.ensures in
    neither _ _ (c.in_ok-take_all.ensures.refuses [] c.new-ledger.ensures (omega arith)) (c.in_ok-moved.ensures.refuses c.args.before.now first.is (omega arith))
