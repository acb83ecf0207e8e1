-- Writing products one after the other.
use Rattle.std.proofs.Common.{◌≡◌, ℕ, zero, suc, ◌+◌, List, [], ◌∷◌, ◌++◌, take, refl, sym, ap, ◌∙◌, append_assoc, add-one}
use Rattle.std.specs.List.{slice_get}
use Rattle.std.proofs.lemmas.List.{append-nil}
use Rattle.plan_rules.specs.Prices.{Prices}
use Rattle.kept_records.specs.Products.{product_codec, products_text, text_there}

-- one product more is put
suc_products : (prices : Prices) (i : ℕ) → products_text (take (suc i) prices) ≡ products_text (take i prices) ++ text_there (slice_get prices i)
suc_products [] zero = refl
suc_products [] (suc i) = refl
suc_products (e ∷ prices) zero = append-nil (product_codec.text e)
suc_products (e ∷ prices) (suc i) =
    ap (λ (t : List ℕ). product_codec.text e ++ t) (suc_products prices i) ∙ sym (append_assoc (product_codec.text e) (products_text (take i prices)) (text_there (slice_get prices i)))

pub products_more : (prices : Prices) (i : ℕ) → products_text (take (i + 1) prices) ≡ products_text (take i prices) ++ text_there (slice_get prices i)
products_more prices i = rw (add-one i) (suc_products prices i)
