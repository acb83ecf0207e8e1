use Rattle.std.proofs.Common.{ℕ, List, ◌++◌, ap, ◌∙◌}
use Rattle.std.specs.Prelude.{is_ok}
use Rattle.svg_text.specs.Pieces.{Box, box_text}
use Rattle.svg_text.proofs.Joining.{more_if}
use Rattle.svg_text.proofs.drawing.Drawing.rect.Goals as goal

pub invariant_of-self : goal.invariant_of-self
invariant_of-self c =
    let text = box_text c.args.fill c.args.corner c.args.size in
    more_if (is_ok c.extend_from_slice.result) c.self.inside.text.items c.extend_from_slice.new.self.items c.as_slice.result.now (Box c.args.fill c.args.corner c.args.size)
    c.extend_from_slice.ensures.items
    (c.as_slice.ensures.value ∙ (c.in_ok-put_box.ensures ∙ ap (λ (t : List ℕ). t ++ text) c.new-piece.ensures.items))
    c.self.invariant
