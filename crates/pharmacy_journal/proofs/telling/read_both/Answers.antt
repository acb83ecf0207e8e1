use Rattle.std.proofs.Common.{◌+◌, ◌∙◌, arith, drop, map}
use Rattle.pharmacy_journal.specs.Entries.{kept_of}
use Rattle.pharmacy_journal.specs.Counting.{outcomes, outcomes_of, has_auth}
use Rattle.pharmacy_journal.proofs.Payable.{listed_step, named_step, reversed_step, outcomes-at}
use Rattle.pharmacy_journal.proofs.telling.read_both.Goals as goal

pub loop-slot-preserved : goal.loop-slot-preserved
loop-slot-preserved c =
    let i = c.loop-slot.slot-index in
    let slot = c.slot-item.result in
    let one = outcomes_of (kept_of slot).request (kept_of slot).answer in
    let before = outcomes (map kept_of (drop i c.args.slots.now)) in
    let after = outcomes (map kept_of (drop (i + 1) c.args.slots.now)) in
    let parts = outcomes-at c.args.slots.now i slot (omega arith) c.slot-item.is in
    record {
      number = omega (arith, c.loop-slot.invariant.number);
      views = listed_step c.loop-slot.views.items c.push.new.self.items c.in_ok-view.view c.args.slots.now i c.loop-slot.number slot (omega arith) c.slot-item.is c.in_ok-push.ensures.items c.in_ok-view.ensures.seen ∙ c.loop-slot.invariant.views;
      named = named_step c.loop-slot.told.named.items c.take_slot.new.told.named.items one before after c.in_ok-take_slot.ensures.named parts ∙ c.loop-slot.invariant.named;
      reversed = λ a. reversed_step a (has_auth c.loop-slot.told.reversed.keys a) (has_auth c.take_slot.new.told.reversed.keys a) one before after (c.in_ok-take_slot.ensures.reversed a) parts ∙ c.loop-slot.invariant.reversed a;
    }
