use Rattle.std.proofs.Common.{arith}
use Rattle.std.proofs.lemmas.List.{drop_all}
use Rattle.world_report.proofs.Lines.{txn_text}
use Rattle.world_report.proofs.rows.write_txn.Goals as goal

pub returns-clause-written : goal.returns-clause-written
returns-clause-written c =
    txn_text c.args.id c.from.result c.number.result _ _ _ _ (cc) (cc) (drop_all 45 c.args.text.now (omega arith)) c.digits_before-number.ensures.written c.byte_before-point.ensures.written c.digits_before.ensures.written
