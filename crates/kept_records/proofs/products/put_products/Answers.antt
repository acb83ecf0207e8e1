use Rattle.std.proofs.Common.{◌++◌, List, ℕ, sym, ap, ◌∙◌, take, append_assoc}
use Rattle.std.specs.List.{slice_get}
use Rattle.kept_records.specs.Products.{products_text, text_there}
use Rattle.kept_records.proofs.PlanLoops.{products_more}
use Rattle.kept_records.proofs.products.put_products.Goals as goal

pub loop-place-preserved : goal.loop-place-preserved
loop-place-preserved c =
    let prices = c.args.plan.now.prices in
    let place = c.loop-place.place in
    let more = products_more prices place in
    c.in_ok-put_product_of.ensures
    ∙ ap (λ (t : List ℕ). t ++ text_there (slice_get prices place)) c.loop-place.invariant
    ∙ append_assoc c.args.out.now.items (products_text (take place prices)) (text_there (slice_get prices place))
    ∙ ap (λ (t : List ℕ). c.args.out.now.items ++ t) (sym more)
