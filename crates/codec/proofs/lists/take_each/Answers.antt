use Rattle.std.proofs.Common.{◌≡◌, ◌+◌, ◌-◌, ℕ, List, Option, Some, None, option_map, ap, sym, ◌∙◌}
use Rattle.std.specs.Borrow.{Bor}
use Rattle.codec.specs.Codecs.{u16, times}
use Rattle.codec.proofs.Loops.{take_more, take_stops, after}
use Rattle.codec.proofs.lists.take_each.Goals as goal

pub returns-in_default : goal.returns-in_default
returns-in_default c =
    sym (c.loop.invariant ∙ take_stops u16 c.args.count c.loop.counter c.loop.all.items c.loop.rest.now c.loop-test.true (sym c.take_u16.ensures ∙ ap (option_map _) c.in_default.is))

pub loop-preserved : goal.loop-preserved
loop-preserved c =
    c.loop.invariant
    ∙ take_more u16 c.args.count c.loop.counter c.loop.all.items c.loop.rest.now c.in-Some.one c.in-Some.after.now c.loop-test.true (sym c.take_u16.ensures ∙ ap (option_map _) c.in-Some.is)
    ∙ ap (λ (xs : List ℕ). after xs (times u16 (c.args.count - (c.loop.counter + 1)) c.in-Some.after.now)) (sym c.in_ok-push.ensures.items)
