use Rattle.std.proofs.Common.{refl}
use Rattle.std.proofs.lemmas.Option.{slice_get_read}
use Rattle.pharmacy_journal.proofs.Entering.{set-settled_at}
use Rattle.pharmacy_journal.proofs.hearing.settle_at.Goals as goal

pub returns : goal.returns
returns c =
    let is = slice_get_read c.args.slots.now.items _ c.args.place c.index_mut.result.now refl c.requires.in_range c.index_mut.ensures.value in
    set-settled_at c.args.slots.now.items c.args.place c.index_mut.result.now c.replace_with.new.dest c.args.answer is c.replace_with.ensures
