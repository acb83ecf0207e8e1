use Rattle.std.proofs.Common.{ℕ, List, [], ◌++◌, ap, ◌∙◌}
use Rattle.std.specs.Prelude.{codes}
use Rattle.svg_text.specs.Framing.{framed}
use Rattle.svg_text.specs.Picture.{head_text}
use Rattle.svg_text.proofs.Joining.{three_join, is_picture}
use Rattle.svg_text.proofs.drawing.Drawing.file.Goals as goal

pub returns-clause-picture : goal.returns-clause-picture
returns-clause-picture c =
    let f = framed c.args.frame.now in
    let body = c.self.inside.text.items in
    let head = c.in_ok-put_head.ensures ∙ ap (λ (t : List ℕ). t ++ head_text f) c.new-file.ensures.items in
    let elements = rw c.as_slice.ensures.value at c.in_ok-extend_from_slice.ensures.items in
    is_picture f body c.extend_from_slice-2.new.self.items c.self.invariant
    (three_join [] c.put_head.new.out.items c.extend_from_slice.new.self.items c.extend_from_slice-2.new.self.items (head_text f) body (codes "</svg>\n")
    head elements c.in_ok-extend_from_slice-2.ensures.items)
