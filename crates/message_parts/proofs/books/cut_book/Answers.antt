use Rattle.std.proofs.Common.{ℕ, List, true, subst, ap, ◌∙◌}
use Rattle.message_parts.specs.declared.part.PartKind.{PartKind}
use Rattle.message_parts.specs.Added.{Tells, TellsAll}
use Rattle.message_parts.specs.AtRest.{book_rows, count_at, each_told, row_told, stray_told, book_told, head_told}
use Rattle.message_parts.proofs.AtRest.{on_ok, book}
use Rattle.message_parts.proofs.books.cut_book.Goals as goal

pub returns-clause-told : goal.returns-clause-told
unfolding book_rows
returns-clause-told c =
    on_ok (TellsAll (each_told row_told c.count_at-rows.result stray_told) c.cut_products.new.cutter c.cut_rows.new.cutter c.args.carried.now.items c.cut_rows.new.carried.items)
    (TellsAll book_told c.args.cutter.now c.cut_rows.new.cutter c.args.carried.now.items c.cut_rows.new.carried.items) c.cut_rows.result
    (book c.count_at-products.result c.count_at-rows.result c.args.cutter.now c.cut_marks.new.cutter c.cut_products.new.cutter c.cut_rows.new.cutter
    c.args.carried.now.items c.cut_rows.new.carried.items
    (c.count_at-products.ensures ∙ ap (count_at 21) c.left.ensures.left) (c.count_at-rows.ensures ∙ ap (count_at 25) c.left-2.ensures.left)
    (subst (λ (rows : List (PartKind × ℕ)). Tells (head_told rows) true c.args.cutter.now c.cut_marks.new.cutter c.args.carried.now.items c.args.carried.now.items) c.as_slice.ensures (c.in_ok-cut_marks.ensures.told c.args.carried.now.items)) (c.in_ok-cut_products.ensures.told c.args.carried.now.items)) c.cut_rows.ensures.told
