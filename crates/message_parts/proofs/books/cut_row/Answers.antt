use Rattle.message_parts.specs.declared.layout.Form.TheVariants.{Answer}
use Rattle.message_parts.specs.Added.{Tells}
use Rattle.message_parts.specs.AtRest.{text_told, row_told}
use Rattle.message_parts.proofs.AtRest.{if_ok, row, row_short}
use Rattle.message_parts.proofs.books.cut_row.Goals as goal

pub returns-then-not-whole-clause-told : goal.returns-then-not-whole-clause-told
returns-then-not-whole-clause-told c =
    row_short c.in_ok-whole.whole c.args.cutter.now c.cut_mark.new.cutter c.cut_mark-2.new.cutter c.cut_text.new.cutter c.args.carried.now.items c.cut_text.new.carried.items c.if-not-whole.true
    (c.in_ok-cut_mark.ensures.told c.args.carried.now.items) (c.in_ok-cut_mark-2.ensures.told c.args.carried.now.items) c.in_ok-whole.ensures.told

pub returns-clause-told : goal.returns-clause-told
returns-clause-told c =
    if_ok (λ w. Tells (text_told Answer) w c.cut_text.new.cutter c.cut_text-2.new.cutter c.cut_text.new.carried.items c.cut_text-2.new.carried.items)
    (λ w. Tells row_told w c.args.cutter.now c.cut_text-2.new.cutter c.args.carried.now.items c.cut_text-2.new.carried.items) c.cut_text-2.result
    (λ w. row c.in_ok-whole.whole w c.args.cutter.now c.cut_mark.new.cutter c.cut_mark-2.new.cutter c.cut_text.new.cutter c.cut_text-2.new.cutter
    c.args.carried.now.items c.cut_text.new.carried.items c.cut_text-2.new.carried.items c.if-not-whole.false
    (c.in_ok-cut_mark.ensures.told c.args.carried.now.items) (c.in_ok-cut_mark-2.ensures.told c.args.carried.now.items) c.in_ok-whole.ensures.told) c.cut_text-2.ensures.told
