use Rattle.std.proofs.Common.{map, sym, subst, arith}
use Rattle.pharmacy_journal.specs.declared.slot.Slot.{Slot}
use Rattle.pharmacy_journal.specs.Entries.{kept_of}
use Rattle.pharmacy_journal.specs.Counting.{outcomes}
use Rattle.pharmacy_journal.specs.Telling.{told_by, NamesMore, ReversesMore}
use Rattle.pharmacy_journal.proofs.Tellings.{told_next}
use Rattle.pharmacy_journal.proofs.teller.Teller.next.Goals as goal

pub invariant_of-self : goal.invariant_of-self
invariant_of-self c =
    let t = c.self.inside in
    let is = c.index-self-self.is in
    let named = subst (λ (slot : Slot). NamesMore t.told c.tell.new.told (told_by slot)) (sym is) c.in-Ok.ensures.named in
    let reversed = subst (λ (slot : Slot). ReversesMore t.told c.tell.new.told (told_by slot)) (sym is) c.in-Ok.ensures.reversed in
    told_next t.told c.tell.new.told t.slots.now t.passed c.index-self-self.result (outcomes (map kept_of t.slots.now)) (omega arith) is named reversed c.self.invariant
