use Rattle.std.proofs.Common.{◌≡◌, ◌++◌, take}
use Rattle.kept_records.specs.Products.{products_text}
use Rattle.kept_records.proofs.products.put_products.Given as goal

abbrev pub invariant-loop-place : goal.invariant-loop-place
invariant-loop-place l = l.out.items ≡ l.fn.out.items ++ products_text (take l.place l.plan.prices)
