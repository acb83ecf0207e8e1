use Rattle.svg_text.specs.Picture.{arrowhead}
use Rattle.input_text.proofs.Joining.{lists_join}
use Rattle.svg_text.proofs.frame.put_arrowhead.Goals as goal

pub returns : goal.returns
unfolding arrowhead
returns c =
    lists_join c.args.out.now.items c.extend_from_slice.new.self.items c.extend_from_slice-2.new.self.items _ _
    c.in_ok-extend_from_slice.ensures.items c.in_ok-extend_from_slice-2.ensures.items
