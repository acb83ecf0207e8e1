-- Prices are a finite map.
use Rattle.std.proofs.Common.{◌≡◌, ℕ, not, cond, List, None, refl, sym, ap, ◌∙◌}
use Rattle.std.specs.declared.cmp.Ordering.{Ordering}
use Rattle.std.specs.declared.cmp.Ordering.TheVariants.{Less, Equal, Greater}
use Rattle.std.specs.Ordering.{eq_by_cmp, is_eq, ordering_reverse}
use Rattle.std.specs.Cmp.{alike_right, tied_itself}
use Rattle.std.specs.Cmp.Lexicographic.{nat_list_cmp_total}
use Rattle.std.specs.FinMap.{slice_cmp-IsAntisymmetric, nat_cmp-IsAntisymmetric}
use Rattle.std.specs.FinMap.Entries.{find-where_key}
use Rattle.plan_rules.specs.Prices.{Prices, by_bytes, price_of, without_product}

turned : {A : Type 0} (o : Ordering) (x y : A) → cond (not (is_eq (ordering_reverse o))) x y ≡ cond (is_eq o) y x
turned Less x y = refl
turned Equal x y = refl
turned Greater x y = refl

pub price_of-without : (prices : Prices) (product other : List ℕ) → price_of (without_product prices product) other ≡ cond (is_eq (by_bytes other product)) None (price_of prices other)
price_of-without prices product other =
    let kept = λ (q : List ℕ). not (eq_by_cmp by_bytes product q) in
    find-where_key by_bytes kept other (λ q tied. ap (λ o. not (is_eq o)) (sym (alike_right nat_list_cmp_total other q product tied))) prices
    ∙ ap (λ o. cond (not (is_eq o)) (price_of prices other) None) (nat_list_cmp_total.antisymm product other)
    ∙ turned (by_bytes other product) (price_of prices other) None

pub tied_product : (product other : List ℕ) → by_bytes other product ≡ Equal → other ≡ product
tied_product product other tied = slice_cmp-IsAntisymmetric nat_cmp-IsAntisymmetric other product tied

pub product_tied : (product other : List ℕ) → other ≡ product → by_bytes other product ≡ Equal
product_tied product other same = ap (λ (q : List ℕ). by_bytes q product) same ∙ tied_itself nat_list_cmp_total product
