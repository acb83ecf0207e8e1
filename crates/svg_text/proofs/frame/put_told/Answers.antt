use Rattle.std.specs.Prelude.{codes}
use Rattle.svg_text.specs.Escaping.{escaped}
use Rattle.svg_text.specs.Picture.{told_text}
use Rattle.svg_text.proofs.Joining.{five_join}
use Rattle.svg_text.proofs.frame.put_told.Goals as goal

pub returns : goal.returns
unfolding told_text
returns c =
    five_join c.args.out.now.items c.extend_from_slice.new.self.items c.put_escaped.new.out.items c.extend_from_slice-2.new.self.items c.put_escaped-2.new.out.items c.extend_from_slice-3.new.self.items
    (codes "<title id=\"title\">") (escaped c.args.title.now) (codes "</title>\n<desc id=\"description\">") (escaped c.args.description.now) (codes "</desc>\n")
    c.in_ok-extend_from_slice.ensures.items c.in_ok-put_escaped.ensures c.in_ok-extend_from_slice-2.ensures.items c.in_ok-put_escaped-2.ensures c.in_ok-extend_from_slice-3.ensures.items
