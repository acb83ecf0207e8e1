use Rattle.std.proofs.Common.{◌≡◌, ◌≤◌, ◌<◌, length, take, drop, ap, ◌∙◌, arith}
use Rattle.std.proofs.lemmas.List.{length-take}
use Rattle.message_parts.specs.Added.{next_bytes}
use Rattle.message_parts.proofs.Bodies.{cut_more, done}
use Rattle.message_parts.proofs.transmissions.cut_body.Goals as goal

pub loop-left-preserved : goal.loop-left-preserved
loop-left-preserved c =
    let is : c.front_of-front.result.now ≡ next_bytes c.loop-left.cutter c.loop-left.left = c.front_of-front.ensures ∙ ap (take c.loop-left.left) c.left.ensures.left in
    let le : c.next_step-step.result.count ≤ c.loop-left.left =
    omega (arith, c.next_step-step.ensures.room, ap length is, length-take c.loop-left.left (drop c.loop-left.cutter.place c.loop-left.cutter.whole)) in
    let some : 0 < length c.front_of-front.result.now = omega (arith, c.next_step-step.ensures.room, c.next_step-step.ensures.some) in
    record {
      whole = c.in_ok-cut.ensures.whole ∙ c.loop-left.invariant.whole;
      place = omega (arith, c.in_ok-cut.ensures.place, c.loop-left.invariant.place);
      parts = cut_more c.args.form c.args.cutter.now c.loop-left.cutter c.cut.new.self c.args.size c.loop-left.left c.next_step-step.result.count c.loop-left.within
          c.next_step-step.result.within c.next_step-step.result.kind c.front_of-front.result.now c.loop-left.invariant.parts
          c.in_ok-cut.ensures.whole c.in_ok-cut.ensures.place c.in_ok-cut.ensures.parts is some c.next_step-step.ensures.kind c.next_step-step.ensures.count
          c.next_step-step.ensures.within le;
    }

pub returns-clause-parts : goal.returns-clause-parts
returns-clause-parts c =
    let none : c.loop-left.left ≡ 0 = omega arith in
    done c.args.form c.args.cutter.now.place (next_bytes c.args.cutter.now c.args.size) c.args.cutter.now.parts c.loop-left.within c.loop-left.cutter.place c.loop-left.left
    (drop c.loop-left.cutter.place c.loop-left.cutter.whole) c.loop-left.cutter.parts c.loop-left.invariant.parts none
