use Rattle.std.specs.Prelude.{codes}
use Rattle.growing_logs.specs.Texts.{refused_text, said_text}
use Rattle.growing_logs.proofs.Joining.{three_join, from_nothing}
use Rattle.growing_logs.proofs.texts.refused_text.Goals as goal

pub returns : goal.returns
unfolding refused_text
returns c =
    from_nothing c.new-text.result.items c.extend_from_slice-2.new.self.items (refused_text c.args.node c.args.why.now c.args.hint.now) c.new-text.ensures.items
    (three_join c.new-text.result.items c.put_said.new.out.items c.extend_from_slice.new.self.items c.extend_from_slice-2.new.self.items
    (said_text c.args.node (codes " does not go over: ")) c.args.why.now c.args.hint.now
    c.in_ok-put_said.ensures c.in_ok-extend_from_slice.ensures.items c.in_ok-extend_from_slice-2.ensures.items)
