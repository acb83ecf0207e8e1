-- Rows that lead a key to a payer: each table of routes finds the first that a function gives of rows, and it gives one payer.
use Rattle.std.proofs.Common.{◌≡◌, ℕ, Bool, true, false, ◌&&◌, cond, List, [], ◌∷◌, map, filter, Option, Some, None, is_none, is_some, refl, sym, ap, ◌∙◌}
use Rattle.std.specs.Prelude.{bytes_eq, find as first_of}
use Rattle.std.specs.Option.{option_or, option_map}
use Rattle.std.specs.List.{filter_map, cons_option}
use Rattle.std.specs.Ordering.{nat_cmp, is_le, is_gt, eq_by_cmp}
use Rattle.std.specs.declared.cmp.Ordering.{Ordering}
use Rattle.std.specs.declared.cmp.Ordering.TheVariants.{Less, Equal, Greater}
use Rattle.std.specs.Cmp.{IsTotalOrder, both_tied}
use Rattle.std.specs.Cmp.Lexicographic.{slice_cmp, texts_ties, nat_list_cmp_total}
use Rattle.std.specs.FinMap.{find, get-from_entries}
use Rattle.std.proofs.lemmas.Cmp.{then_total, on_total, upto}
use Rattle.std.proofs.lemmas.Bool.{and_parts, and_from}
use Rattle.std.proofs.lemmas.Option.{none-some, cond_some}
use Rattle.bin_routes.specs.Key.{RouteKey}
use Rattle.bin_routes.specs.Providers.{Providers, is_up_to, have, overlap, meet, has_provider}
use Rattle.bin_routes.specs.Row.{Row, leading, filled, filled_row, same_pcn, same_key}
use Rattle.bin_routes.specs.Table.{bin_cmp, processor_cmp, is_ranged, exact_entry, other_entry, fits, ranged_payer, routes_of, payer_of}
use Rattle.claim_model.proofs.Tests.{bytes_same, bytes_self}
use Rattle.log_growth.proofs.TableRows.{Alone, In, Untaken, first, from_leading, leading_takes, one_row, same_pcns}

-- ---- what is found in a table

-- the value of an entry whose key ties with this one
abbrev pub hit : {K : Type 0} → (K → K → Ordering) → K → Option (K × ℕ) → Option ℕ
hit R key None = None
hit R key (Some e) = cond (eq_by_cmp R key e.0) (Some e.1) None

abbrev pub hit_by : {K : Type 0} → (K → K → Ordering) → (Row → Option (K × ℕ)) → K → Row → Option ℕ
hit_by R entry key x = hit R key (entry (filled_row x))

front_of : (t : Bool) (n : ℕ) (rest : Option ℕ) → cond t (Some n) rest ≡ option_or (cond t (Some n) None) rest
front_of true n rest = refl
front_of false n rest = refl

pub found_first : {K : Type 0} (R : K → K → Ordering) (entry : Row → Option (K × ℕ)) (key : K) (rows : List Row) → find R key (filter_map entry (map filled_row rows)) ≡ first (hit_by R entry key) rows
found_first R entry key [] = refl
found_first {K} R entry key (x ∷ rows) = front (entry (filled_row x)) ∙ ap (option_or (hit_by R entry key x)) (found_first R entry key rows)
  where
    front : (o : Option (K × ℕ)) → find R key (cons_option o (filter_map entry (map filled_row rows))) ≡ option_or (hit R key o) (find R key (filter_map entry (map filled_row rows)))
    front None = refl
    front (Some e) = front_of (eq_by_cmp R key e.0) e.1 (find R key (filter_map entry (map filled_row rows)))

abbrev pub ranged_hit : Option (List ℕ) → RouteKey → Row → Option ℕ
ranged_hit pcn key x = cond (is_ranged x) (cond (fits pcn key (filled_row x)) (Some x.payer) None) None

abbrev pub exact_hit : RouteKey → Row → Option ℕ
exact_hit key = hit_by processor_cmp exact_entry (key.bin, key.pcn)

abbrev pub other_hit : RouteKey → Row → Option ℕ
other_hit key = hit_by bin_cmp other_entry key.bin

ranged_first : (pcn : Option (List ℕ)) (key : RouteKey) (rows : List Row) → ranged_payer (filter is_ranged (map filled_row rows)) pcn key ≡ first (ranged_hit pcn key) rows
ranged_first pcn key [] = refl
ranged_first pcn key (x ∷ rows) = front (is_ranged x) ∙ ap (option_or (ranged_hit pcn key x)) (ranged_first pcn key rows)
  where
    test : (u : Bool) → option_map (λ (row : Row). row.payer) (cond u (Some (filled_row x)) (first_of (fits pcn key) (filter is_ranged (map filled_row rows))))
        ≡ option_or (cond u (Some x.payer) None) (ranged_payer (filter is_ranged (map filled_row rows)) pcn key)
    test true = refl
    test false = refl

    front : (t : Bool) → ranged_payer (cond t (filled_row x ∷ filter is_ranged (map filled_row rows)) (filter is_ranged (map filled_row rows))) pcn key
        ≡ option_or (cond t (cond (fits pcn key (filled_row x)) (Some x.payer) None) None) (ranged_payer (filter is_ranged (map filled_row rows)) pcn key)
    front true = test (fits pcn key (filled_row x))
    front false = refl

processors_total : IsTotalOrder processor_cmp
processors_total = then_total (on_total (λ (t : List ℕ × List ℕ). t.0) nat_list_cmp_total) (on_total (λ (t : List ℕ × List ℕ). t.1) nat_list_cmp_total)

-- the payer of a key without a processor control number, and of any key, by the rows
abbrev pub bin_payer : List Row → RouteKey → Option ℕ
bin_payer rows key = option_or (first (ranged_hit None key) rows) (first (other_hit key) rows)

abbrev pub paid_by : List Row → RouteKey → Option ℕ
paid_by rows key = option_or (first (ranged_hit (Some key.pcn) key) rows) (option_or (first (exact_hit key) rows) (bin_payer rows key))

pub payer_is : (all : List Row) (key : RouteKey) → payer_of (routes_of all) key ≡ paid_by (leading all) key
unfolding payer_of routes_of
payer_is all key =
    let rows : List Row = leading all in
    let exact = get-from_entries processors_total (filter_map exact_entry (map filled_row rows)) (key.bin, key.pcn) ∙ found_first processor_cmp exact_entry (key.bin, key.pcn) rows in
    let other = get-from_entries nat_list_cmp_total (filter_map other_entry (map filled_row rows)) key.bin ∙ found_first bin_cmp other_entry key.bin rows in
    λ i. option_or (ranged_first (Some key.pcn) key rows i) (option_or (exact i) (option_or (ranged_first None key rows i) (other i)))

-- ---- what is known of a row that is found

-- it is for the BIN of a key, this processor control number, and such providers
pub record Serves (whom : Option Providers → Type 0) (pcn : Option (List ℕ)) (key : RouteKey) (row : Row) (payer : ℕ) : Type 0 where
  pub bin_is : row.bin ≡ key.bin
  pub pcn_is : option_map filled row.pcn ≡ pcn
  pub has : whom row.providers
  pub pays : row.payer ≡ payer

abbrev pub IsForAll : Option Providers → Type 0
IsForAll o = o ≡ None

abbrev pub IsForKey : RouteKey → Option Providers → Type 0
IsForKey key o = has_provider o key.qualifier key.provider ≡ true

pub serves_exact : (key : RouteKey) (x : Row) (payer : ℕ) → exact_hit key x ≡ Some payer → Serves IsForAll (Some key.pcn) key x payer
serves_exact key x payer e = known x.providers (option_map filled x.pcn) refl refl e
  where
    tied : (a b : List ℕ × List ℕ) → (bytes_eq a.0 b.0 && bytes_eq a.1 b.1) ≡ eq_by_cmp processor_cmp a b
    tied a b = both_tied _ _ (slice_cmp nat_cmp a.0 b.0) (slice_cmp nat_cmp a.1 b.1) (texts_ties a.0 b.0) (texts_ties a.1 b.1)

    known : (o : Option Providers) (p : Option (List ℕ)) → x.providers ≡ o → option_map filled x.pcn ≡ p
        → hit processor_cmp (key.bin, key.pcn) (cond (is_some o) None (option_map (λ (q : List ℕ). ((x.bin, q), x.payer)) p)) ≡ Some payer → Serves IsForAll (Some key.pcn) key x payer
    known (Some r) p whom is e = absurd (none-some payer e)
    known None None whom is e = absurd (none-some payer e)
    known None (Some q) whom is e =
        let h = cond_some (eq_by_cmp processor_cmp (key.bin, key.pcn) (x.bin, q)) x.payer payer e in
        let t = and_parts (bytes_eq key.bin x.bin) (bytes_eq key.pcn q) (tied (key.bin, key.pcn) (x.bin, q) ∙ h.0) in
        record { bin_is = sym (bytes_same key.bin x.bin t.0); pcn_is = is ∙ ap Some (sym (bytes_same key.pcn q t.1)); has = whom; pays = h.1 }

pub serves_other : (key : RouteKey) (x : Row) (payer : ℕ) → other_hit key x ≡ Some payer → Serves IsForAll None key x payer
serves_other key x payer e = known x.providers (option_map filled x.pcn) refl refl e
  where
    known : (o : Option Providers) (p : Option (List ℕ)) → x.providers ≡ o → option_map filled x.pcn ≡ p
        → hit bin_cmp key.bin (cond (is_some o) None (cond (is_none p) (Some (x.bin, x.payer)) None)) ≡ Some payer → Serves IsForAll None key x payer
    known (Some r) p whom is e = absurd (none-some payer e)
    known None (Some q) whom is e = absurd (none-some payer e)
    known None None whom is e =
        let h = cond_some (eq_by_cmp bin_cmp key.bin x.bin) x.payer payer e in
        record { bin_is = sym (bytes_same key.bin x.bin (texts_ties key.bin x.bin ∙ h.0)); pcn_is = is; has = whom; pays = h.1 }

pub serves_ranged : (pcn : Option (List ℕ)) (key : RouteKey) (x : Row) (payer : ℕ) → ranged_hit pcn key x ≡ Some payer → Serves (IsForKey key) pcn key x payer
unfolding fits
serves_ranged pcn key x payer e =
    let h = cond_some (fits pcn key (filled_row x)) x.payer payer (within (is_ranged x) e) in
    let f = and_parts _ (has_provider x.providers key.qualifier key.provider) h.0 in
    let q = and_parts (bytes_eq x.bin key.bin) (same_pcn (option_map filled x.pcn) pcn) f.0 in
    record { bin_is = bytes_same x.bin key.bin q.0; pcn_is = same_pcns (option_map filled x.pcn) pcn q.1; has = f.1; pays = h.1 }
  where
    within : (t : Bool) → cond t (cond (fits pcn key (filled_row x)) (Some x.payer) None) None ≡ Some payer → cond (fits pcn key (filled_row x)) (Some x.payer) None ≡ Some payer
    within true e = e
    within false e = absurd (none-some payer e)

-- ---- a function gives one payer of rows without a fault

le_not_gt : (r : Ordering) → is_le r ≡ true → is_gt r ≡ false
le_not_gt Less e = refl
le_not_gt Equal e = refl
le_not_gt Greater e = absurd cc

not_gt_le : (r : Ordering) → is_gt r ≡ false → is_le r ≡ true
not_gt_le Less e = refl
not_gt_le Equal e = refl
not_gt_le Greater e = absurd cc

up_through : (a b c : List ℕ) → is_up_to a b ≡ true → is_up_to b c ≡ true → is_up_to a c ≡ true
up_through a b c e f = not_gt_le (slice_cmp nat_cmp a c) (upto nat_list_cmp_total a b c (le_not_gt (slice_cmp nat_cmp a b) e) (le_not_gt (slice_cmp nat_cmp b c) f))

ranges_meet : (key : RouteKey) (o p : Option Providers) → IsForKey key o → IsForKey key p → meet o p ≡ true
unfolding have overlap
ranges_meet key None p e f = absurd cc
ranges_meet key (Some a) None e f = absurd cc
ranges_meet key (Some a) (Some b) e f =
    let p = and_parts (bytes_eq a.qualifier key.qualifier) _ e in
    let q = and_parts (bytes_eq b.qualifier key.qualifier) _ f in
    let s = and_parts (is_up_to a.first key.provider) (is_up_to key.provider a.last) p.1 in
    let t = and_parts (is_up_to b.first key.provider) (is_up_to key.provider b.last) q.1 in
    let same = bytes_same a.qualifier key.qualifier p.0 ∙ sym (bytes_same b.qualifier key.qualifier q.0) in
    and_from (bytes_eq a.qualifier b.qualifier) _ (ap (λ (z : List ℕ). bytes_eq z b.qualifier) same ∙ bytes_self b.qualifier)
    (and_from (is_up_to a.first b.last) (is_up_to b.first a.last) (up_through a.first key.provider b.last s.0 t.1) (up_through b.first key.provider a.last t.0 s.1))

pcn_self : (p : Option (List ℕ)) → same_pcn p p ≡ true
pcn_self None = refl
pcn_self (Some p) = bytes_self p

module _ (rows : List Row) (none : Untaken [] rows) (key : RouteKey) where
  one_payer : (whom : Option Providers → Type 0) → ((o p : Option Providers) → whom o → whom p → meet o p ≡ true) → (pcn : Option (List ℕ)) (x y : Row) (a b : ℕ) → In x (leading rows) → In y (leading rows)
      → Serves whom pcn key x a → Serves whom pcn key y b → a ≡ b
  one_payer whom meets pcn x y a b i j s t =
      let v = from_leading x rows i in
      let w = from_leading y rows j in
      let same = one_row [] rows x y none v.0 w.0 (leading_takes x y v.1 w.1 (same_keys y x b a t s)) (leading_takes y x w.1 v.1 (same_keys x y a b s t)) in
      sym s.pays ∙ (ap (λ (z : Row). z.payer) same ∙ t.pays)
    where
      same_keys : (x y : Row) (a b : ℕ) → Serves whom pcn key x a → Serves whom pcn key y b → same_key (filled_row x) (filled_row y) ≡ true
      same_keys x y a b s t =
          and_from _ _
          (and_from _ _ (ap (λ (z : List ℕ). bytes_eq z y.bin) (s.bin_is ∙ sym t.bin_is) ∙ bytes_self y.bin)
          (ap (λ (z : Option (List ℕ)). same_pcn z (option_map filled y.pcn)) (s.pcn_is ∙ sym t.pcn_is) ∙ pcn_self (option_map filled y.pcn)))
          (meets x.providers y.providers s.has t.has)

  all_meet : (o p : Option Providers) → IsForAll o → IsForAll p → meet o p ≡ true
  all_meet o p e f = ap (λ (z : Option Providers). meet z p) e ∙ ap (meet None) f

  pub one_ranged : (pcn : Option (List ℕ)) → Alone (ranged_hit pcn key) (leading rows)
  one_ranged pcn x y a b i j e f = one_payer (IsForKey key) (ranges_meet key) pcn x y a b i j (serves_ranged pcn key x a e) (serves_ranged pcn key y b f)

  pub one_exact : Alone (exact_hit key) (leading rows)
  one_exact x y a b i j e f = one_payer IsForAll all_meet (Some key.pcn) x y a b i j (serves_exact key x a e) (serves_exact key y b f)

  pub one_other : Alone (other_hit key) (leading rows)
  one_other x y a b i j e f = one_payer IsForAll all_meet None x y a b i j (serves_other key x a e) (serves_other key y b f)
