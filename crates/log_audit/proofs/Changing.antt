-- The rows of changes, each told after those before it, or not.
use Rattle.std.proofs.Common.{◌≡◌, ℕ, ◌+◌, ◌<◌, ◌≤◌, List, [], ◌∷◌, ◌++◌, length, take, drop, get_or, map, sym, ap, ◌∙◌}
use Rattle.std.specs.Prelude.{Option, None, option_map}
use Rattle.std.proofs.lemmas.List.{at_drop_more, drop_all, take_more, map-append}
use Rattle.table_text.specs.Members.{Row}
use Rattle.table_text.specs.Rows.{rows_text}
use Rattle.table_text.specs.declared.layout.Style.TheVariants.{Csv}
use Rattle.log_audit.specs.Following.{rows_behind, row_if}
use Rattle.log_audit.proofs.Joining.{no_rows, block_goes_on, block_ends}

module _ {A B : Type 0} (seen : A → B) (told : List B → B → List Row) where
  -- those of one change more, after the changes so far
  pub rows_go_on : (a b whole : List ℕ) (xs : List A) (i : ℕ) (d : A) → i < length xs
      → b ≡ a ++ rows_text Csv (told (map seen (take i xs)) (seen (get_or xs i d)))
      → a ++ rows_text Csv (rows_behind told (map seen (take i xs)) (map seen (drop i xs))) ≡ whole
      → b ++ rows_text Csv (rows_behind told (map seen (take (i + 1) xs)) (map seen (drop (i + 1) xs))) ≡ whole
  rows_go_on a b whole xs i d lt one so_far =
      let x = get_or xs i d in
      let front = map seen (take i xs) in
      let more = drop (i + 1) xs in
      let rows = told front (seen x) in
      let text = λ (left : List A). a ++ rows_text Csv (rows_behind told front (map seen left)) in
      let said = sym (at_drop_more text xs i d lt) ∙ so_far in
      let fronts : map seen (take (i + 1) xs) ≡ front ++ seen x ∷ [] =
      ap (λ (t : List A). map seen t) (take_more xs i d lt) ∙ map-append seen (take i xs) (x ∷ []) in
      ap (λ (t : List B). b ++ rows_text Csv (rows_behind told t (map seen more))) fronts
      ∙ block_goes_on Csv a b whole rows (rows_behind told (front ++ seen x ∷ []) (map seen more)) one said

  pub rows_are_done : (a whole : List ℕ) (before : List B) (xs : List A) (i : ℕ) → length xs ≤ i
      → a ++ rows_text Csv (rows_behind told before (map seen (drop i xs))) ≡ whole → a ≡ whole
  rows_are_done a whole before xs i le so_far =
      block_ends Csv a whole (sym (ap (λ (left : List A). a ++ rows_text Csv (rows_behind told before (map seen left))) (drop_all i xs le)) ∙ so_far)

-- a change of which nothing is told
pub nothing_told : {V : Type 0} (row : V → Row) (a : List ℕ) (o : Option V) → o ≡ None → a ≡ a ++ rows_text Csv (row_if row o)
nothing_told {V} row a o none = no_rows Csv a ∙ ap (λ (v : Option V). a ++ rows_text Csv (row_if row v)) (sym none)

-- the same, by what is seen of it
pub unseen_told : {U V : Type 0} (row : V → Row) (seen : U → V) (a : List ℕ) (u : Option U) (o : Option V) → u ≡ None → option_map seen u ≡ o → a ≡ a ++ rows_text Csv (row_if row o)
unseen_told {U} row seen a u o none is = nothing_told row a o (sym is ∙ ap (λ (v : Option U). option_map seen v) none)
