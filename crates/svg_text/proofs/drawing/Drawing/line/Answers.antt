use Rattle.std.proofs.Common.{ℕ, List, ◌++◌, ap, ◌∙◌}
use Rattle.std.specs.Prelude.{is_ok}
use Rattle.svg_text.specs.Pieces.{Line, line_text}
use Rattle.svg_text.proofs.Joining.{more_if}
use Rattle.svg_text.proofs.drawing.Drawing.line.Goals as goal

pub invariant_of-self : goal.invariant_of-self
invariant_of-self c =
    let text = line_text c.args.stroke c.args.from c.args.to in
    more_if (is_ok c.extend_from_slice.result) c.self.inside.text.items c.extend_from_slice.new.self.items c.as_slice.result.now (Line c.args.stroke c.args.from c.args.to)
    c.extend_from_slice.ensures.items
    (c.as_slice.ensures.value ∙ (c.in_ok-put_line.ensures ∙ ap (λ (t : List ℕ). t ++ text) c.new-piece.ensures.items))
    c.self.invariant
