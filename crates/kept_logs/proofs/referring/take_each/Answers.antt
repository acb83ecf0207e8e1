use Rattle.std.proofs.Common.{◌+◌, ◌-◌, ◌∙◌, ap, sym, arith}
use Rattle.codec.specs.Codecs.{times}
use Rattle.kept_logs.proofs.Loops.{taken_none, taken_some}
use Rattle.codec.proofs.Loops.{after, take_more, take_stops, take_ends}
use Rattle.kept_logs.specs.Rests.{reference_codec}
use Rattle.kept_logs.proofs.referring.take_each.Goals as goal

pub returns-in_default : goal.returns-in_default
returns-in_default c =
    sym (c.loop.invariant.same ∙ take_stops reference_codec c.args.count c.loop.counter c.loop.all.items c.loop.rest.now c.loop-test.true (taken_none _ c.in_ok-one.field-0 _ c.in_ok-one.ensures c.in_default.is))

pub loop-preserved : goal.loop-preserved
loop-preserved c =
    let step = take_more reference_codec c.args.count c.loop.counter c.loop.all.items c.loop.rest.now c.in-Some.one c.in-Some.after.now c.loop-test.true (taken_some _ c.in_ok-one.field-0 _ _ c.in_ok-one.ensures c.in-Some.is) in
    record {
      in_count = omega arith;
      same = c.loop.invariant.same ∙ step ∙ ap (λ d. after d (times reference_codec (c.args.count - (c.loop.counter + 1)) c.in-Some.after.now)) (sym c.in_ok-push.ensures.items);
    }

pub returns : goal.returns
returns c = sym (c.loop.invariant.same ∙ take_ends reference_codec c.args.count c.loop.counter c.loop.all.items c.loop.rest.now c.loop-test.false)
