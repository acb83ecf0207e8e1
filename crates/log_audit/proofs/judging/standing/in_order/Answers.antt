use Rattle.std.proofs.Common.{◌∙◌, sym}
use Rattle.std.specs.BTreeMap.{get}
use Rattle.std.specs.Ordering.{nat_cmp}
use Rattle.log_audit.proofs.Ends.{none_taken, one_taken, taken_all}
use Rattle.log_audit.proofs.judging.standing.in_order.Goals as goal

pub loop-place-init : goal.loop-place-init
loop-place-init g c = none_taken (get nat_cmp c.args.nodes) c.new-list.result.items c.new-list.ensures.items

pub loop-place-preserved : goal.loop-place-preserved
loop-place-preserved g c =
    one_taken (get nat_cmp c.args.nodes) (get nat_cmp c.loop-place.nodes) (get nat_cmp c.remove.new.self) c.loop-place.place c.loop-place.list.items c.push.new.self.items c.in-Some.node c.loop-place.invariant
    (sym c.in-Some.is ∙ c.remove.ensures.value) (λ q apart. c.remove.ensures.updates.2 q apart) c.in_ok-push-in-Some.ensures.items

pub returns : goal.returns
returns g c = taken_all (get nat_cmp c.args.nodes) (get nat_cmp c.loop-place.nodes) c.loop-place.place c.args.count c.loop-place.list.items c.loop-place.auto.place-end c.loop-place-test.false c.loop-place.invariant
