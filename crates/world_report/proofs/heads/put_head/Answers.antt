use Rattle.std.proofs.Common.{[], ◌∷◌}
use Rattle.std.specs.Prelude.{decimal}
use Rattle.std.proofs.lemmas.Result.{on_ok_weaker}
use Rattle.world_report.specs.Heads.{power_word}
use Rattle.world_report.proofs.JoinedWords.{words_join, line_joins}
use Rattle.world_report.proofs.heads.put_head.Goals as goal

pub returns : goal.returns
returns c =
    let kind = c.extend_from_slice.new.self.items in
    let tail = power_word c.args.up ∷ c.args.noun.now ∷ decimal c.args.count ∷ [] in
    let words = words_join kind c.put_number.new.out.items c.put_state.new.out.items (decimal c.args.number ∷ []) tail c.in_ok-put_number.ensures c.in_ok-put_state.ensures in
    on_ok_weaker c.end_line.result
    (λ last. line_joins c.args.out.now.items kind c.put_state.new.out.items _ c.args.kind.now (decimal c.args.number ∷ tail) c.in_ok-extend_from_slice.ensures.items words last)
    c.end_line.ensures
