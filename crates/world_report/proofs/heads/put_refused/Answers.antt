use Rattle.std.proofs.Common.{[], ◌∷◌}
use Rattle.std.specs.Prelude.{codes, decimal}
use Rattle.std.proofs.lemmas.Result.{on_ok_weaker}
use Rattle.world_report.proofs.JoinedWords.{words_join, line_joins}
use Rattle.world_report.proofs.heads.put_refused.Goals as goal

pub returns : goal.returns
returns c =
    let number = c.put_decimal.new.out.items in
    let words = words_join number c.put_word.new.out.items c.put_word-2.new.out.items (codes "refused" ∷ []) (c.args.name.now ∷ []) c.in_ok-put_word.ensures c.in_ok-put_word-2.ensures in
    on_ok_weaker c.end_line.result
    (λ last. line_joins c.args.out.now.items number c.put_word-2.new.out.items _ (decimal c.args.event) (codes "refused" ∷ c.args.name.now ∷ []) c.in_ok-put_decimal.ensures.ok words last)
    c.end_line.ensures
