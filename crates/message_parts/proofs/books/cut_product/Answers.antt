use Rattle.std.proofs.Common.{List, true, ap, ◌∙◌}
use Rattle.message_parts.specs.declared.dissecting.Carried.{Carried}
use Rattle.message_parts.specs.declared.marks.Mark.TheVariants.{Price}
use Rattle.message_parts.specs.declared.part.PartKind.TheVariants.{Mark}
use Rattle.message_parts.specs.Added.{Tells}
use Rattle.message_parts.specs.AtRest.{short_length, piece_told, product_told}
use Rattle.message_parts.proofs.AtRest.{on_ok, product}
use Rattle.message_parts.proofs.books.cut_product.Goals as goal

pub returns-clause-told : goal.returns-clause-told
returns-clause-told c =
    on_ok ((x : List Carried) → Tells (piece_told (Mark Price) 4) true c.cut_mark-2.new.cutter c.cut_mark-3.new.cutter x x)
    ((x : List Carried) → Tells product_told true c.args.cutter.now c.cut_mark-3.new.cutter x x) c.cut_mark-3.result
    (λ last x. product c.short_length-size.result c.args.cutter.now c.cut_mark.new.cutter c.cut_mark-2.new.cutter c.cut_mark-3.new.cutter x
    (c.short_length-size.ensures ∙ ap short_length c.left.ensures.left) (c.in_ok-cut_mark.ensures.told x) (c.in_ok-cut_mark-2.ensures.told x) (last x)) c.cut_mark-3.ensures.told
