use Rattle.std.proofs.Common.{◌≡◌, suc, ◌==◌, true, List, [], ◌∷◌, length, refl, sym, ap, ◌∙◌, arith, eqb-true}
use Rattle.bin_routes.specs.Row.{Row}
use Rattle.bin_routes.specs.Table.{RouteMaps}
use Rattle.bin_routes.proofs.Payers.{ranged_without}
use Rattle.bin_routes.proofs.table.Routes.payer.Goals as goal

none : (rows : List Row) → (length rows == 0) ≡ true → rows ≡ []
none [] e = refl
none (r ∷ rows) e = let none_left : suc (length rows) ≡ 0 = eqb-true (suc (length rows)) 0 e in absurd (omega (arith, none_left))

pub returns-then-is_empty : goal.returns-then-is_empty
returns-then-is_empty c =
    let left = ap (λ (m : RouteMaps). m.ranged) (sym c.self.view_is) ∙ (sym c.as_slice.ensures.value ∙ none c.as_slice.result.now (sym c.is_empty.ensures ∙ c.if-is_empty.true)) in
    rw (← c.key.view_is) (c.route.ensures ∙ sym (ranged_without c.args.self.now _ left))
