use Rattle.std.proofs.Common.{[], ◌∷◌}
use Rattle.std.proofs.lemmas.Result.{on_ok_weaker}
use Rattle.world_report.specs.Places.{place_mark, txn_name, row_words}
use Rattle.input_text.proofs.Joining.{lists_join}
use Rattle.world_report.proofs.JoinedWords.{words_join, line_joins}
use Rattle.world_report.proofs.rows.put_row_place.Goals as goal

pub returns : goal.returns
returns c =
    let start = c.args.out.now.items in
    let p = c.args.place.now in
    let told = row_words c.args.ruling.now c.args.reversed in
    let name = lists_join start c.put_txn.new.out.items c.put_mark.new.out.items (txn_name c.args.id) (place_mark p.count p.number) c.in_ok-put_txn.ensures c.in_ok-put_mark.ensures in
    let words = words_join c.put_mark.new.out.items c.put_word.new.out.items c.put_ruled.new.out.items (p.code ∷ []) told c.in_ok-put_word.ensures c.in_ok-put_ruled.ensures in
    on_ok_weaker c.end_line.result (λ last. line_joins start c.put_mark.new.out.items c.put_ruled.new.out.items _ _ (p.code ∷ told) name words last) c.end_line.ensures
