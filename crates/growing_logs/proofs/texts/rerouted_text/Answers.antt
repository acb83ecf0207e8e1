use Rattle.std.specs.Prelude.{codes, decimal}
use Rattle.growing_logs.specs.Texts.{rerouted_text, said_text}
use Rattle.growing_logs.proofs.Joining.{three_join, from_nothing}
use Rattle.growing_logs.proofs.texts.rerouted_text.Goals as goal

pub returns : goal.returns
unfolding rerouted_text
returns c =
    from_nothing c.new-text.result.items c.extend_from_slice.new.self.items (rerouted_text c.args.node c.args.entry) c.new-text.ensures.items
    (three_join c.new-text.result.items c.put_said.new.out.items c.put_decimal.new.out.items c.extend_from_slice.new.self.items
    (said_text c.args.node (codes " does not go over: entry ")) (decimal c.args.entry) (codes " was rejected for want of a route, and its request has one now")
    c.in_ok-put_said.ensures c.in_ok-put_decimal.ensures.ok c.in_ok-extend_from_slice.ensures.items)
