use Rattle.std.proofs.Common.{[], ◌∷◌}
use Rattle.std.specs.Prelude.{decimal}
use Rattle.std.proofs.lemmas.Result.{on_ok_weaker}
use Rattle.world_report.specs.Heads.{power_word}
use Rattle.world_report.proofs.JoinedWords.{words_join}
use Rattle.world_report.proofs.heads.put_state.Goals as goal

pub returns : goal.returns
returns c =
    let start = c.args.out.now.items in
    let word = rw c.power_word.ensures at c.in_ok-put_word.ensures in
    let two = words_join start c.put_word.new.out.items c.put_word-2.new.out.items (power_word c.args.up ∷ []) (c.args.noun.now ∷ []) word c.in_ok-put_word-2.ensures in
    on_ok_weaker c.put_number.result (λ last. words_join start c.put_word-2.new.out.items c.put_number.new.out.items (power_word c.args.up ∷ c.args.noun.now ∷ []) (decimal c.args.count ∷ []) two last) c.put_number.ensures
