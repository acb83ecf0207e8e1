use Rattle.std.specs.Prelude.{codes}
use Rattle.input_text.proofs.Joining.{lists_join}
use Rattle.growing_logs.specs.Texts.{unread_text}
use Rattle.growing_logs.proofs.Joining.{from_nothing}
use Rattle.growing_logs.proofs.texts.unread_text.Goals as goal

pub returns : goal.returns
unfolding unread_text
returns c =
    from_nothing c.new-text.result.items c.extend_from_slice-2.new.self.items (unread_text c.args.why.now) c.new-text.ensures.items
    (lists_join c.new-text.result.items c.extend_from_slice.new.self.items c.extend_from_slice-2.new.self.items (codes "does not go over: ") c.args.why.now
    c.in_ok-extend_from_slice.ensures.items c.in_ok-extend_from_slice-2.ensures.items)
