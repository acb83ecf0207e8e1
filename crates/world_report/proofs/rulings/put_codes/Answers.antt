use Rattle.std.proofs.Common.{arith}
use Rattle.std.proofs.lemmas.Result.{on_ok_weaker}
use Rattle.world_report.proofs.Payments.{codes_split_join}
use Rattle.world_report.proofs.rulings.put_codes.Goals as goal

pub returns : goal.returns
returns c =
    on_ok_weaker c.put_more_codes.result
    (λ last. codes_split_join c.args.out.now.items c.put_word-2.new.out.items c.put_more_codes.new.out.items c.args.codes.now c.first-item.result c.first-item.is (omega arith) (rw c.text.ensures at c.in_ok-put_word.ensures) last)
    c.put_more_codes.ensures
