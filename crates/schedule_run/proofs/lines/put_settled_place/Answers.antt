use Rattle.std.proofs.Common.{[], ◌∷◌, ◌++◌}
use Rattle.std.specs.Prelude.{codes, decimal}
use Rattle.std.proofs.lemmas.Result.{on_ok_weaker}
use Rattle.world_report.specs.Rulings.{ruling_words}
use Rattle.world_report.specs.Places.{place_mark}
use Rattle.world_report.proofs.JoinedWords.{words_join, line_joins}
use Rattle.schedule_run.specs.Told.{pharmacy_word}
use Rattle.schedule_run.proofs.lines.put_settled_place.Goals as goal

pub returns : goal.returns
returns c =
    let pharmacy = c.put_pharmacy.new.out.items in
    let name = decimal c.args.number ++ place_mark c.args.count c.args.place in
    let placed = c.put_place.new.out.items in
    let settled = c.put_word.new.out.items in
    let told = ruling_words c.args.ruling.now in
    let word = words_join pharmacy placed settled (name ∷ []) (codes "settled" ∷ []) c.in_ok-put_place.ensures c.in_ok-put_word.ensures in
    let words = words_join pharmacy settled c.put_ruling.new.out.items (name ∷ codes "settled" ∷ []) told word c.in_ok-put_ruling.ensures in
    on_ok_weaker c.end_line.result
    (λ last. line_joins c.args.out.now.items pharmacy c.put_ruling.new.out.items _ (pharmacy_word c.args.pharmacy) (name ∷ codes "settled" ∷ told) c.in_ok-put_pharmacy.ensures words last)
    c.end_line.ensures
