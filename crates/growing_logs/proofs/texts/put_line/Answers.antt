use Rattle.std.specs.Prelude.{codes}
use Rattle.growing_logs.specs.Texts.{line_text}
use Rattle.growing_logs.proofs.Joining.{four_join}
use Rattle.growing_logs.proofs.texts.put_line.Goals as goal

pub returns : goal.returns
unfolding line_text
returns c =
    four_join c.args.lines.now.items c.extend_from_slice.new.self.items c.extend_from_slice-2.new.self.items c.extend_from_slice-3.new.self.items c.extend_from_slice-4.new.self.items
    c.args.name.now (codes ": ") c.args.told.now (codes "\n")
    c.in_ok-extend_from_slice.ensures.items c.in_ok-extend_from_slice-2.ensures.items c.in_ok-extend_from_slice-3.ensures.items c.in_ok-extend_from_slice-4.ensures.items
