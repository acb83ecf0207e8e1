use Rattle.std.proofs.Common.{◌<◌, ◌^◌, [], length, arith}
use Rattle.claim_reports.proofs.Telling.{neither, passed, tells_then}
use Rattle.claim_reports.proofs.ledger.ledger_of.Goals as goal

pub returns-in_err-take_all-2-clause-refuses : goal.returns-in_err-take_all-2-clause-refuses
returns-in_err-take_all-2-clause-refuses c =
    let few : length c.args.before.now < 2 ^ 63 = omega arith in
    let few_more : length c.args.moves.now < 2 ^ 63 = omega arith in
    let first = c.in_ok-take_all.ensures.takes [] c.new-ledger.ensures in
    passed c.from_residual-in_err-take_all-2.result _ _ c.from_residual-in_err-take_all-2.ensures.1
    (tells_then _ _ _ (c.in_ok-take_all.ensures.refuses [] c.new-ledger.ensures (omega arith))
    (c.in_err-take_all-2.ensures.refuses c.args.before.now first.is (omega arith)))

pub returns-clause-is : goal.returns-clause-is
returns-clause-is c =
    let first = c.in_ok-take_all.ensures.takes [] c.new-ledger.ensures in
    let second = c.in_ok-take_all-2.ensures.takes c.args.before.now first.is in
    second.is

pub returns-clause-refuses : goal.returns-clause-refuses
returns-clause-refuses c =
    let first = c.in_ok-take_all.ensures.takes [] c.new-ledger.ensures in
    neither _ _ (c.in_ok-take_all.ensures.refuses [] c.new-ledger.ensures (omega arith)) (c.in_ok-take_all-2.ensures.refuses c.args.before.now first.is (omega arith))
