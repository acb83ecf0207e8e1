use Rattle.std.proofs.Common.{ℕ, List, ◌++◌, ap, ◌∙◌}
use Rattle.std.specs.Prelude.{is_ok}
use Rattle.svg_text.specs.Pieces.{Words, words_text}
use Rattle.svg_text.proofs.Joining.{more_if}
use Rattle.svg_text.proofs.drawing.Drawing.words.Goals as goal

pub invariant_of-self : goal.invariant_of-self
invariant_of-self c =
    let text = words_text c.args.face c.args.anchor c.args.at c.args.words.now in
    more_if (is_ok c.extend_from_slice.result) c.self.inside.text.items c.extend_from_slice.new.self.items c.as_slice.result.now (Words c.args.face c.args.anchor c.args.at c.args.words.now)
    c.extend_from_slice.ensures.items
    (c.as_slice.ensures.value ∙ (c.in_ok-put_words.ensures ∙ ap (λ (t : List ℕ). t ++ text) c.new-piece.ensures.items))
    c.self.invariant
