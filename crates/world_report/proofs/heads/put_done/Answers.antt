use Rattle.std.proofs.Common.{[], ◌∷◌, ◌-◌, map}
use Rattle.std.specs.Prelude.{codes, decimal}
use Rattle.std.proofs.lemmas.Result.{on_ok_weaker}
use Rattle.world_report.specs.Heads.{numbers_from}
use Rattle.world_report.proofs.JoinedWords.{words_join, line_joins}
use Rattle.world_report.proofs.heads.put_done.Goals as goal

pub returns : goal.returns
returns c =
    let number = c.put_decimal.new.out.items in
    let packets = map decimal (numbers_from c.args.sent.start (c.args.sent.end - c.args.sent.start)) in
    let words = words_join number c.put_word.new.out.items c.put_numbers.new.out.items (codes "ok" ∷ []) packets c.in_ok-put_word.ensures c.in_ok-put_numbers.ensures in
    on_ok_weaker c.end_line.result
    (λ last. line_joins c.args.out.now.items number c.put_numbers.new.out.items _ (decimal c.args.event) (codes "ok" ∷ packets) c.in_ok-put_decimal.ensures.ok words last)
    c.end_line.ensures
