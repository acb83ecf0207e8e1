use Rattle.std.proofs.Common.{◌+◌, ◌-◌, ◌∷◌, [], ◌∙◌, map, ap, sym, arith}
use Rattle.std.proofs.lemmas.List.{map-append}
use Rattle.world_setup.specs.Seen.{sent_seen}
use Rattle.codec.specs.Codecs.{times}
use Rattle.codec.proofs.Loops.{after, take_more, take_stops, take_ends}
use Rattle.kept_logs.specs.Records.{sent_codec}
use Rattle.kept_logs.proofs.Loops.{taken_none, taken_some}
use Rattle.kept_logs.proofs.records.take_sents.Goals as goal

pub returns-in_default : goal.returns-in_default
returns-in_default c =
    sym (c.loop.invariant.same ∙ take_stops sent_codec c.args.count c.loop.counter (map sent_seen c.loop.all.items) c.loop.rest.now c.loop-test.true (taken_none _ c.in_ok-one.field-0 _ c.in_ok-one.ensures c.in_default.is))

pub loop-preserved : goal.loop-preserved
loop-preserved c =
    let done = map sent_seen c.loop.all.items in
    let one = sent_seen c.in-Some.one in
    let step = take_more sent_codec c.args.count c.loop.counter done c.loop.rest.now one c.in-Some.after.now c.loop-test.true (taken_some _ c.in_ok-one.field-0 _ _ c.in_ok-one.ensures c.in-Some.is) in
    record {
      in_count = omega arith;
      same = c.loop.invariant.same ∙ step ∙ ap (λ d. after d (times sent_codec (c.args.count - (c.loop.counter + 1)) c.in-Some.after.now)) (sym (ap (map sent_seen) c.in_ok-push.ensures.items ∙ map-append sent_seen c.loop.all.items (c.in-Some.one ∷ [])));
    }

pub returns : goal.returns
returns c = sym (c.loop.invariant.same ∙ take_ends sent_codec c.args.count c.loop.counter (map sent_seen c.loop.all.items) c.loop.rest.now c.loop-test.false)
