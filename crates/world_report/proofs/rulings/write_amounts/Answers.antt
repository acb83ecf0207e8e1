use Rattle.std.proofs.Common.{arith}
use Rattle.std.proofs.lemmas.List.{drop_all}
use Rattle.world_report.proofs.Payments.{amounts_text}
use Rattle.world_report.proofs.rulings.write_amounts.Goals as goal

pub returns-clause-written : goal.returns-clause-written
returns-clause-written c =
    amounts_text c.args.text.now c.write_number-total.new.text c.write_number-copay.new.text c.write_number-fee.new.text c.write_number.new.text c.write_number-total.result c.write_number-copay.result c.write_number-fee.result c.write_number.result c.args.amounts c.cost.result c.fee.result c.copay.result c.total.result c.cost.ensures.value c.fee.ensures.value c.copay.ensures.value c.total.ensures.value (drop_all 61 c.args.text.now (omega arith))
    c.write_number-total.ensures.written c.write_number-copay.ensures.written c.write_number-fee.ensures.written c.write_number.ensures.written
