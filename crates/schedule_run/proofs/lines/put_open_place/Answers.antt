use Rattle.std.proofs.Common.{[], ◌∷◌, ◌++◌}
use Rattle.std.specs.Prelude.{codes, decimal}
use Rattle.std.proofs.lemmas.Result.{on_ok_weaker}
use Rattle.world_report.specs.Places.{place_mark}
use Rattle.world_report.proofs.JoinedWords.{words_join, line_joins}
use Rattle.schedule_run.specs.Told.{pharmacy_word}
use Rattle.schedule_run.proofs.lines.put_open_place.Goals as goal

pub returns : goal.returns
returns c =
    let pharmacy = c.put_pharmacy.new.out.items in
    let name = decimal c.args.number ++ place_mark c.args.count c.args.place in
    let told = c.put_word.new.out.items in
    let words = words_join pharmacy c.put_place.new.out.items told (name ∷ []) (codes "open" ∷ []) c.in_ok-put_place.ensures c.in_ok-put_word.ensures in
    on_ok_weaker c.end_line.result
    (λ last. line_joins c.args.out.now.items pharmacy told _ (pharmacy_word c.args.pharmacy) (name ∷ codes "open" ∷ []) c.in_ok-put_pharmacy.ensures words last)
    c.end_line.ensures
