-- The payers of rows without a fault are within the number of payers.
use Rattle.std.proofs.Common.{◌≡◌, ℕ, ◌≤◌, Bool, true, false, not, ◌&&◌, cond, leb, nat_le, List, [], ◌∷◌, ◌++◌, map, filter, length, Option, Some, None, IfSome, is_some, is_none, option_map, refl, ap, ◌∙◌, append-nil}
use Rattle.std.specs.declared.cmp.Ordering.{Ordering}
use Rattle.std.specs.Ordering.{eq_by_cmp}
use Rattle.std.specs.Option.{option_or, option_map_or}
use Rattle.std.specs.Prelude.{find as first}
use Rattle.std.specs.Str.{bytes_eq}
use Rattle.std.specs.List.{filter_map, cons_option, AllByRecursion}
use Rattle.std.proofs.lemmas.List.{map-append}
use Rattle.std.proofs.lemmas.List.Elements.{filter_map-append, filter-append}
use Rattle.bin_routes.specs.Key.{RouteKey}
use Rattle.bin_routes.specs.Providers.{has_provider}
use Rattle.std.specs.FinMap.{FinMap, find, get, from_entries, get-from_entries}
use Rattle.std.proofs.lemmas.Bool.{and_parts, leb-true}
use Rattle.bin_routes.specs.declared.fault.RoutesFault.{RoutesFault}
use Rattle.bin_routes.specs.declared.fault.RoutesFault.TheVariants.{BadBin, NoSuchPayer, BadPcn}
use Rattle.bin_routes.specs.Row.{Row, leads, leading, is_bin, has_pcn, filled_row, same_pcn}
use Rattle.bin_routes.specs.Fault.{is_payer, has_end, text_fault, row_fault, is_taken, fault_behind, first_fault}
use Rattle.bin_routes.specs.Table.{RouteMaps, bin_cmp, processor_cmp, is_ranged, exact_entry, other_entry, key_text, rejected_key, entry_by, rejected_entry, routes_of, among, payer_at, fits, ranged_payer, payer_of, stays_rejected, payer_under, IsForOthers}
use Rattle.bin_routes.proofs.Maps.{processors_total, bins_total}

abbrev pub IsAmong : ℕ → ℕ → Type 0
IsAmong payers payer = (1 ≤ payer) × (payer ≤ payers)

-- each row has a payer of these
abbrev pub HavePayers : ℕ → List Row → Type 0
HavePayers payers [] = Unit {0}
HavePayers payers (row ∷ rows) = IsAmong payers row.payer × HavePayers payers rows

-- each entry has one
abbrev LeadTo : {K : Type 0} → ℕ → List (K × ℕ) → Type 0
LeadTo payers [] = Unit {0}
LeadTo payers (e ∷ es) = IsAmong payers e.1 × LeadTo payers es

first_none : (a b : Option RoutesFault) → option_or a b ≡ None → (a ≡ None) × (b ≡ None)
first_none None b e = (refl, e)
first_none (Some f) b e = absurd cc

test_passed : (t : Bool) (f : RoutesFault) (next : Option RoutesFault) → cond (not t) (Some f) next ≡ None → (t ≡ true) × (next ≡ None)
test_passed true f next e = (refl, e)
test_passed false f next e = absurd cc

chosen : (b x y : Bool) → cond b x y ≡ true → b ≡ true → x ≡ true
chosen true x y e is = e
chosen false x y e is = absurd cc

payer_passed : (payers place : ℕ) (row : Row) → text_fault payers place row ≡ None → leads row ≡ true → IsAmong payers row.payer
unfolding text_fault
payer_passed payers place row e leading_is =
    let a = test_passed (is_bin row.bin) (BadBin place) _ e in
    let b = test_passed (has_pcn row.pcn) (BadPcn place) _ a.1 in
    let c = test_passed (has_end payers row) (NoSuchPayer place) _ b.1 in
    let payer = chosen (leads row) (is_payer payers row.payer) (is_some row.pcn && is_some row.providers) c.0 leading_is in
    let low = and_parts (leb 1 row.payer) (leb row.payer payers && leb row.payer 9999) payer in
    let high = and_parts (leb row.payer payers) (leb row.payer 9999) low.1 in
    (leb-true 1 row.payer low.0, leb-true row.payer payers high.0)

put_leading : (payers : ℕ) (b : Bool) (row : Row) (rest : List Row) → (b ≡ true → IsAmong payers row.payer) → HavePayers payers rest → HavePayers payers (cond b (row ∷ rest) rest)
put_leading payers true row rest h g = (h refl, g)
put_leading payers false row rest h g = g

pub have_payers : (payers : ℕ) (earlier rows : List Row) → fault_behind payers earlier rows ≡ None → HavePayers payers (leading rows)
have_payers payers earlier [] e = tt
have_payers payers earlier (row ∷ rows) e =
    let here = first_none (row_fault payers (length earlier) row (is_taken earlier row)) (fault_behind payers (earlier ++ row ∷ []) rows) e in
    let text = first_none (text_fault payers (length earlier) row) _ here.0 in
    put_leading payers (leads row) row (leading rows) (payer_passed payers (length earlier) row text.0) (have_payers payers (earlier ++ row ∷ []) rows here.1)

exact_put : (payers : ℕ) (bin : List ℕ) (payer : ℕ) (pcn : Option (List ℕ)) (ranged : Bool) (rest : List ((List ℕ × List ℕ) × ℕ)) → IsAmong payers payer → LeadTo payers rest → LeadTo payers (cons_option (cond ranged None (option_map (λ p. ((bin, p), payer)) pcn)) rest)
exact_put payers bin payer pcn true rest h g = g
exact_put payers bin payer None false rest h g = g
exact_put payers bin payer (Some p) false rest h g = (h, g)

exact_lead : (payers : ℕ) (rows : List Row) → HavePayers payers rows → LeadTo payers (filter_map exact_entry (map filled_row rows))
exact_lead payers [] h = tt
exact_lead payers (row ∷ rows) h = exact_put payers row.bin row.payer (filled_row row).pcn (is_ranged row) (filter_map exact_entry (map filled_row rows)) h.0 (exact_lead payers rows h.1)

other_put : (payers : ℕ) (bin : List ℕ) (payer : ℕ) (pcn : Option (List ℕ)) (ranged : Bool) (rest : List (List ℕ × ℕ)) → IsAmong payers payer → LeadTo payers rest → LeadTo payers (cons_option (cond ranged None (cond (is_none pcn) (Some (bin, payer)) None)) rest)
other_put payers bin payer pcn true rest h g = g
other_put payers bin payer None false rest h g = (h, g)
other_put payers bin payer (Some p) false rest h g = g

other_lead : (payers : ℕ) (rows : List Row) → HavePayers payers rows → LeadTo payers (filter_map other_entry (map filled_row rows))
other_lead payers [] h = tt
other_lead payers (row ∷ rows) h = other_put payers row.bin row.payer (filled_row row).pcn (is_ranged row) (filter_map other_entry (map filled_row rows)) h.0 (other_lead payers rows h.1)

found_leads : {K : Type 0} (R : K → K → Ordering) (payers : ℕ) (q : K) (es : List (K × ℕ)) → LeadTo payers es → IfSome (find R q es) (IsAmong payers)
found_leads R payers q [] h = tt
found_leads R payers q (e ∷ es) h =
    elim (eq_by_cmp R q e.0) as (λ t. IfSome (cond t (Some e.1) (find R q es)) (IsAmong payers)) [
      | true ↦ h.0
      | false ↦ found_leads R payers q es h.1
    ]

either : (payers : ℕ) (a b : Option ℕ) → IfSome a (IsAmong payers) → IfSome b (IsAmong payers) → IfSome (option_or a b) (IsAmong payers)
either payers None b h g = g
either payers (Some x) b h g = h

exact_leads : (payers : ℕ) (rows : List Row) (bin pcn : List ℕ) → HavePayers payers rows → IfSome (get (from_entries {R = processor_cmp} (filter_map exact_entry (map filled_row rows))) (bin, pcn)) (IsAmong payers)
exact_leads payers rows bin pcn have =
    rw (get-from_entries processors_total (filter_map exact_entry (map filled_row rows)) (bin, pcn)) (found_leads processor_cmp payers (bin, pcn) (filter_map exact_entry (map filled_row rows)) (exact_lead payers rows have))

other_leads : (payers : ℕ) (rows : List Row) (bin : List ℕ) → HavePayers payers rows → IfSome (get (from_entries {R = bin_cmp} (filter_map other_entry (map filled_row rows))) bin) (IsAmong payers)
other_leads payers rows bin have =
    rw (get-from_entries bins_total (filter_map other_entry (map filled_row rows)) bin) (found_leads bin_cmp payers bin (filter_map other_entry (map filled_row rows)) (other_lead payers rows have))

-- rows for some providers alone

first_leads : (payers : ℕ) (test : Row → Bool) (b : Bool) (r : Row) (rest : List Row) → IsAmong payers r.payer → IfSome (option_map (λ (row : Row). row.payer) (first test rest)) (IsAmong payers)
    → IfSome (option_map (λ (row : Row). row.payer) (cond b (Some r) (first test rest))) (IsAmong payers)
first_leads payers test true r rest h g = h
first_leads payers test false r rest h g = g

kept_leads : (payers : ℕ) (test : Row → Bool) (b : Bool) (r : Row) (rest : List Row) → IsAmong payers r.payer → IfSome (option_map (λ (row : Row). row.payer) (first test rest)) (IsAmong payers)
    → IfSome (option_map (λ (row : Row). row.payer) (first test (cond b (r ∷ rest) rest))) (IsAmong payers)
kept_leads payers test true r rest h g = first_leads payers test (test r) r rest h g
kept_leads payers test false r rest h g = g

ranged_leads : (payers : ℕ) (test : Row → Bool) (rows : List Row) → HavePayers payers rows → IfSome (option_map (λ (row : Row). row.payer) (first test (filter is_ranged (map filled_row rows)))) (IsAmong payers)
ranged_leads payers test [] h = tt
ranged_leads payers test (r ∷ rs) h = kept_leads payers test (is_ranged (filled_row r)) (filled_row r) (filter is_ranged (map filled_row rs)) h.0 (ranged_leads payers test rs h.1)

pub ranged_within : (payers : ℕ) (rows : List Row) (key : RouteKey) → first_fault payers rows ≡ None → IfSome (payer_of (routes_of rows) key) (IsAmong payers)
unfolding first_fault payer_of routes_of
ranged_within payers rows key none =
    let have = have_payers payers [] rows none in
    either payers (ranged_payer (filter is_ranged (map filled_row (leading rows))) (Some key.pcn) key) _ (ranged_leads payers (fits (Some key.pcn) key) (leading rows) have)
    (either payers (get (from_entries {R = processor_cmp} (filter_map exact_entry (map filled_row (leading rows)))) (key.bin, key.pcn)) _ (exact_leads payers (leading rows) key.bin key.pcn have)
    (either payers (ranged_payer (filter is_ranged (map filled_row (leading rows))) None key) _ (ranged_leads payers (fits None key) (leading rows) have) (other_leads payers (leading rows) key.bin have)))

pub ranged_without : (maps : RouteMaps) (key : RouteKey) → maps.ranged ≡ [] → payer_of maps key ≡ payer_at maps key.bin key.pcn
unfolding payer_of payer_at
ranged_without maps key e =
    ap (λ (rows : List Row). option_or (ranged_payer rows (Some key.pcn) key) (option_or (get maps.exact (key.bin, key.pcn)) (option_or (ranged_payer rows None key) (get maps.others key.bin)))) e

-- rows for other providers, after the others

not_fit : (pcn : Option (List ℕ)) (key : RouteKey) (row : Row) → has_provider row.providers key.qualifier key.provider ≡ false → fits pcn key row ≡ false
unfolding fits
not_fit pcn key row e = ap (λ (b : Bool). (bytes_eq row.bin key.bin && same_pcn row.pcn pcn) && b) e ∙ never (bytes_eq row.bin key.bin && same_pcn row.pcn pcn)
  where
    never : (b : Bool) → (b && false) ≡ false
    never true = refl
    never false = refl

none_fit : (pcn : Option (List ℕ)) (key : RouteKey) (more : List Row) → AllByRecursion (λ (row : Row). IsForOthers row key.qualifier key.provider) more → first (fits pcn key) (filter is_ranged (map filled_row more)) ≡ None
none_fit pcn key [] all = refl
none_fit pcn key (r ∷ more) all =
    ap (λ (b : Bool). first (fits pcn key) (cond b (filled_row r ∷ filter is_ranged (map filled_row more)) (filter is_ranged (map filled_row more)))) all.0.ranged
    ∙ (ap (λ (b : Bool). cond b (Some (filled_row r)) (first (fits pcn key) (filter is_ranged (map filled_row more)))) (not_fit pcn key (filled_row r) all.0.not_it) ∙ none_fit pcn key more all.1)

first_behind : (test : Row → Bool) (xs ys : List Row) → first test ys ≡ None → first test (xs ++ ys) ≡ first test xs
first_behind test [] ys e = e
first_behind test (x ∷ xs) ys e = ap (cond (test x) (Some x)) (first_behind test xs ys e)

no_exact : (qualifier provider : List ℕ) (more : List Row) → AllByRecursion (λ (row : Row). IsForOthers row qualifier provider) more → filter_map exact_entry (map filled_row more) ≡ []
no_exact qualifier provider [] all = refl
no_exact qualifier provider (r ∷ more) all =
    ap (λ (b : Bool). cons_option (cond b None (option_map (λ p. ((r.bin, p), r.payer)) (filled_row r).pcn)) (filter_map exact_entry (map filled_row more))) all.0.ranged ∙ no_exact qualifier provider more all.1

no_other : (qualifier provider : List ℕ) (more : List Row) → AllByRecursion (λ (row : Row). IsForOthers row qualifier provider) more → filter_map other_entry (map filled_row more) ≡ []
no_other qualifier provider [] all = refl
no_other qualifier provider (r ∷ more) all =
    ap (λ (b : Bool). cons_option (cond b None (cond (is_none (filled_row r).pcn) (Some (r.bin, r.payer)) None)) (filter_map other_entry (map filled_row more))) all.0.ranged ∙ no_other qualifier provider more all.1

-- the maps of rows that lead to payers
abbrev maps_of : FinMap bin_cmp ℕ → List Row → RouteMaps
maps_of rejected rows = record {
  exact = from_entries (filter_map exact_entry (map filled_row rows));
  others = from_entries (filter_map other_entry (map filled_row rows));
  ranged = filter is_ranged (map filled_row rows);
  rejected = rejected;
  switches = 0;
}

leading_added : (r : FinMap bin_cmp ℕ) (rows more : List Row) (key : RouteKey) → AllByRecursion (λ (row : Row). IsForOthers row key.qualifier key.provider) more
    → payer_of (maps_of r (rows ++ more)) key ≡ payer_of (maps_of r rows) key
unfolding payer_of
leading_added r rows more key all =
    let filled : map filled_row (rows ++ more) ≡ map filled_row rows ++ map filled_row more = map-append filled_row rows more in
    let exact : filter_map exact_entry (map filled_row (rows ++ more)) ≡ filter_map exact_entry (map filled_row rows) =
    ap (filter_map exact_entry) filled ∙ (filter_map-append exact_entry (map filled_row rows) (map filled_row more)
    ∙ (ap (λ (es : List ((List ℕ × List ℕ) × ℕ)). filter_map exact_entry (map filled_row rows) ++ es) (no_exact key.qualifier key.provider more all) ∙ append-nil (filter_map exact_entry (map filled_row rows)))) in
    let others : filter_map other_entry (map filled_row (rows ++ more)) ≡ filter_map other_entry (map filled_row rows) =
    ap (filter_map other_entry) filled ∙ (filter_map-append other_entry (map filled_row rows) (map filled_row more)
    ∙ (ap (λ (es : List (List ℕ × ℕ)). filter_map other_entry (map filled_row rows) ++ es) (no_other key.qualifier key.provider more all) ∙ append-nil (filter_map other_entry (map filled_row rows)))) in
    let ranged : filter is_ranged (map filled_row (rows ++ more)) ≡ filter is_ranged (map filled_row rows) ++ filter is_ranged (map filled_row more) =
    ap (filter is_ranged) filled ∙ filter-append is_ranged (map filled_row rows) (map filled_row more) in
    let asked : (pcn : Option (List ℕ)) → ranged_payer (filter is_ranged (map filled_row (rows ++ more))) pcn key ≡ ranged_payer (filter is_ranged (map filled_row rows)) pcn key =
    λ pcn. ap (option_map (λ (row : Row). row.payer)) (ap (first (fits pcn key)) ranged ∙ first_behind (fits pcn key) (filter is_ranged (map filled_row rows)) (filter is_ranged (map filled_row more)) (none_fit pcn key more all)) in
    rw (exact, others, asked (Some key.pcn), asked None) refl

all_lead : (qualifier provider : List ℕ) (more : List Row) → AllByRecursion (λ (row : Row). IsForOthers row qualifier provider) more → AllByRecursion (λ (row : Row). leads row ≡ true) more
all_lead qualifier provider [] all = tt
all_lead qualifier provider (r ∷ more) all = (all.0.leading, all_lead qualifier provider more all.1)

all_leading : (rows : List Row) → AllByRecursion (λ (row : Row). leads row ≡ true) rows → leading rows ≡ rows
all_leading [] all = refl
all_leading (r ∷ rows) all = ap (λ (b : Bool). cond b (r ∷ leading rows) (leading rows)) all.0 ∙ ap (λ (rs : List Row). r ∷ rs) (all_leading rows all.1)

no_entry : (o : Option ℕ) (key : Option (List ℕ)) → is_none o ≡ true → entry_by o key ≡ None
no_entry None key e = refl
no_entry (Some last) key e = absurd cc

no_rejected : (rows : List Row) → AllByRecursion (λ (row : Row). leads row ≡ true) rows → filter_map rejected_entry (map filled_row rows) ≡ []
no_rejected [] all = refl
no_rejected (r ∷ rows) all =
    ap (λ (e : Option (List ℕ × ℕ)). cons_option e (filter_map rejected_entry (map filled_row rows))) (no_entry r.rejected (rejected_key (filled_row r)) all.0) ∙ no_rejected rows all.1

-- the payer of a key under a number, by the payer of the key and by what stays rejected
abbrev under : FinMap bin_cmp ℕ → Option ℕ → ℕ → RouteKey → Option ℕ
under rejected payer number key = cond (option_map_or (λ last. nat_le number last) (get rejected (key_text key)) false) None payer

pub ranged_added : (rows more : List Row) (number : ℕ) (key : RouteKey) → AllByRecursion (λ (row : Row). IsForOthers row key.qualifier key.provider) more
    → payer_under (routes_of (rows ++ more)) number key ≡ payer_under (routes_of rows) number key
unfolding payer_under routes_of
ranged_added rows more number key all =
    let lead = all_lead key.qualifier key.provider more all in
    let r : FinMap bin_cmp ℕ = from_entries (filter_map rejected_entry (map filled_row rows)) in
    let led : leading (rows ++ more) ≡ leading rows ++ more = filter-append leads rows more ∙ ap (λ (rs : List Row). leading rows ++ rs) (all_leading more lead) in
    let entries : filter_map rejected_entry (map filled_row (rows ++ more)) ≡ filter_map rejected_entry (map filled_row rows) =
    ap (filter_map rejected_entry) (map-append filled_row rows more) ∙ (filter_map-append rejected_entry (map filled_row rows) (map filled_row more)
    ∙ (ap (λ (es : List (List ℕ × ℕ)). filter_map rejected_entry (map filled_row rows) ++ es) (no_rejected more lead) ∙ append-nil (filter_map rejected_entry (map filled_row rows)))) in
    ap (λ (es : List (List ℕ × ℕ)). under (from_entries es) (payer_of (maps_of (from_entries es) (leading (rows ++ more))) key) number key) entries
    ∙ (ap (λ (rs : List Row). under r (payer_of (maps_of r rs) key) number key) led
    ∙ ap (λ (o : Option ℕ). under r o number key) (leading_added r (leading rows) more key all))

led_by : (b : Bool) (o : Option ℕ) (payer : ℕ) → cond b None o ≡ Some payer → o ≡ Some payer
led_by true o payer e = absurd cc
led_by false o payer e = e

pub number_led : (maps : RouteMaps) (number : ℕ) (key : RouteKey) (payer : ℕ) → payer_under maps number key ≡ Some payer → payer_of maps key ≡ Some payer
unfolding payer_under
number_led maps number key payer e = led_by (stays_rejected maps number key) (payer_of maps key) payer e

nothing_there : (es : List (List ℕ × ℕ)) (key : List ℕ) → es ≡ [] → get (from_entries {R = bin_cmp} es) key ≡ None
nothing_there es key e = get-from_entries bins_total es key ∙ ap (find bin_cmp key) e

pub number_without : (rows : List Row) (number : ℕ) (key : RouteKey) → AllByRecursion (λ (row : Row). leads row ≡ true) rows → payer_under (routes_of rows) number key ≡ payer_of (routes_of rows) key
unfolding payer_under routes_of
number_without rows number key all =
    ap (λ (o : Option ℕ). cond (option_map_or (λ last. nat_le number last) o false) None (payer_of (routes_of rows) key))
    (nothing_there (filter_map rejected_entry (map filled_row rows)) (key_text key) (no_rejected rows all))

-- how many switches there are says nothing of it
pub number_among : (maps : RouteMaps) (switches number : ℕ) (key : RouteKey) → payer_under (among switches maps) number key ≡ payer_under maps number key
unfolding payer_under payer_of
number_among maps switches number key = refl

pub routed_payer : (payers : ℕ) (rows : List Row) (bin pcn : List ℕ) → first_fault payers rows ≡ None → IfSome (payer_at (routes_of rows) bin pcn) (IsAmong payers)
unfolding first_fault payer_at routes_of
routed_payer payers rows bin pcn none =
    let have = have_payers payers [] rows none in
    either payers (get (from_entries {R = processor_cmp} (filter_map exact_entry (map filled_row (leading rows)))) (bin, pcn)) (get (from_entries {R = bin_cmp} (filter_map other_entry (map filled_row (leading rows)))) bin)
    (exact_leads payers (leading rows) bin pcn have) (other_leads payers (leading rows) bin have)
