use Rattle.std.proofs.Common.{◌-◌, ◌∙◌, refl}
use Rattle.message_parts.specs.AtRest.{product_told}
use Rattle.message_parts.proofs.AtRest.{each_next}
use Rattle.message_parts.proofs.books.cut_products.Goals as goal

pub loop-preserved : goal.loop-preserved
loop-preserved c = record {
  whole = c.in_ok-cut_product.ensures.whole ∙ c.loop.invariant.whole;
  told = λ carried behind.
      each_next product_told c.args.count c.loop.counter behind _ c.loop.cutter c.cut_product.new.cutter carried carried _ c.loop-test.true refl
      (c.in_ok-cut_product.ensures.told carried) (c.loop.invariant.told carried behind);
}
