use Rattle.std.specs.Prelude.{codes, decimal}
use Rattle.svg_text.specs.Picture.{view_text}
use Rattle.svg_text.proofs.Joining.{five_join}
use Rattle.svg_text.proofs.frame.put_view.Goals as goal

pub returns : goal.returns
unfolding view_text
returns c =
    five_join c.args.out.now.items c.extend_from_slice.new.self.items c.put_decimal.new.out.items c.extend_from_slice-2.new.self.items c.put_decimal-2.new.out.items c.extend_from_slice-3.new.self.items
    (codes " viewBox=\"0 0 ") (decimal c.args.size.width) (codes " ") (decimal c.args.size.height) (codes "\">\n")
    c.in_ok-extend_from_slice.ensures.items c.in_ok-put_decimal.ensures.ok c.in_ok-extend_from_slice-2.ensures.items c.in_ok-put_decimal-2.ensures.ok c.in_ok-extend_from_slice-3.ensures.items
