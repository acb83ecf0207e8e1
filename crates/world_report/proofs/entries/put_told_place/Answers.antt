use Rattle.std.proofs.Common.{[], ◌∷◌}
use Rattle.std.specs.Prelude.{decimal}
use Rattle.std.proofs.lemmas.Result.{on_ok_weaker}
use Rattle.world_report.specs.Rulings.{ruling_words}
use Rattle.world_report.specs.Places.{place_mark}
use Rattle.input_text.proofs.Joining.{lists_join}
use Rattle.world_report.proofs.JoinedWords.{words_join, line_joins}
use Rattle.world_report.proofs.entries.put_told_place.Goals as goal

pub returns : goal.returns
returns c =
    let start = c.args.out.now.items in
    let p = c.args.place.now in
    let told = ruling_words c.args.ruling.now in
    let name = lists_join start c.put_decimal.new.out.items c.put_mark.new.out.items (decimal c.args.number) (place_mark p.count p.number) c.in_ok-put_decimal.ensures.ok c.in_ok-put_mark.ensures in
    let words = words_join c.put_mark.new.out.items c.put_word.new.out.items c.put_ruling.new.out.items (p.code ∷ []) told c.in_ok-put_word.ensures c.in_ok-put_ruling.ensures in
    on_ok_weaker c.end_line.result (λ last. line_joins start c.put_mark.new.out.items c.put_ruling.new.out.items _ _ (p.code ∷ told) name words last) c.end_line.ensures
