use Rattle.message_parts.specs.Added.{Tells}
use Rattle.message_parts.specs.AtRest.{entry_told, flag_told}
use Rattle.message_parts.proofs.AtRest.{if_ok, entry, entry_short}
use Rattle.message_parts.proofs.journals.cut_entry.Goals as goal

pub returns-then-not-whole-clause-told : goal.returns-then-not-whole-clause-told
returns-then-not-whole-clause-told c =
    entry_short c.in_ok-whole.whole c.args.cutter.now c.cut_mark.new.cutter c.cut_text.new.cutter c.args.carried.now.items c.cut_text.new.carried.items c.if-not-whole.true
    (c.in_ok-cut_mark.ensures.told c.args.carried.now.items) c.in_ok-whole.ensures.told

pub returns-clause-told : goal.returns-clause-told
returns-clause-told c =
    if_ok (λ w. Tells flag_told w c.cut_text.new.cutter c.cut_flag.new.cutter c.cut_text.new.carried.items c.cut_flag.new.carried.items)
    (λ w. Tells entry_told w c.args.cutter.now c.cut_flag.new.cutter c.args.carried.now.items c.cut_flag.new.carried.items) c.cut_flag.result
    (λ w. entry c.in_ok-whole.whole w c.args.cutter.now c.cut_mark.new.cutter c.cut_text.new.cutter c.cut_flag.new.cutter
    c.args.carried.now.items c.cut_text.new.carried.items c.cut_flag.new.carried.items c.if-not-whole.false
    (c.in_ok-cut_mark.ensures.told c.args.carried.now.items) c.in_ok-whole.ensures.told) c.cut_flag.ensures.told
