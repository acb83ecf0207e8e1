-- The maps of rows have the keys of the rows, and a further row is one further entry.
use Rattle.std.proofs.Common.{◌≡◌, ℕ, suc, ◌+◌, ◌<◌, Bool, true, false, ◌&&◌, ◌||◌, cond, List, [], ◌∷◌, ◌++◌, map, filter, length, get_or, take, drop, Option, Some, None, is_some, is_none, option_map, refl, sym, ap, ◌∙◌, arith, append-nil}
use Rattle.std.specs.Option.{option_or, option_map_or}
use Rattle.std.specs.List.{list_any, filter_map, cons_option}
use Rattle.std.specs.Str.{bytes_eq}
use Rattle.std.specs.Ordering.{nat_cmp, eq_by_cmp}
use Rattle.std.specs.Cmp.{both_tied}
use Rattle.std.specs.Cmp.Lexicographic.{slice_cmp, texts_ties}
use Rattle.std.specs.FinMap.{FinMap, find, contains_key, insert, from_entries, from_entries_push, get-from_entries}
use Rattle.std.proofs.lemmas.List.{map-append, take_more, length-take}
use Rattle.std.proofs.lemmas.List.Elements.{filter_map-append, filter-append}
use Rattle.std.proofs.Math.Seq.{drop-cons}
use Rattle.bin_routes.specs.declared.fault.RoutesFault.{RoutesFault}
use Rattle.bin_routes.specs.declared.fault.RoutesFault.TheVariants.{SameRow}
use Rattle.bin_routes.specs.Providers.{Providers, meet}
use Rattle.bin_routes.specs.Row.{Row, leads, leading, filled, filled_row, same_pcn, same_key}
use Rattle.bin_routes.specs.Fault.{row_fault, text_fault, is_among, is_taken, fault_behind}
use Rattle.bin_routes.specs.Table.{RouteMaps, bin_cmp, processor_cmp, is_ranged, exact_entry, other_entry, key_by, entry_by, rejected_entry, routes_of, has_leading, has_rejected, has_key, with_leading, with_entry, with_row}
use Rattle.bin_routes.proofs.Maps.{processors_total, exact_processors, bins_total, exact_bins}

bin_tied : (a b : List ℕ) → bytes_eq a b ≡ eq_by_cmp bin_cmp a b
bin_tied a b = texts_ties a b

processor_tied : (a b : List ℕ × List ℕ) → (bytes_eq a.0 b.0 && bytes_eq a.1 b.1) ≡ eq_by_cmp processor_cmp a b
processor_tied a b = both_tied _ _ (slice_cmp nat_cmp a.0 b.0) (slice_cmp nat_cmp a.1 b.1) (texts_ties a.0 b.0) (texts_ties a.1 b.1)

found_first : (t s : Bool) (x : ℕ) (o : Option ℕ) (rest : Bool) → s ≡ t → is_some o ≡ rest → is_some (cond t (Some x) o) ≡ (s || rest)
found_first true s x o rest e f = rw e refl
found_first false s x o rest e f = rw e f

never : (b : Bool) → (b && false) ≡ false
never true = refl
never false = refl

always : (b : Bool) → (b && true) ≡ b
always true = refl
always false = refl

-- one row, for a key without a processor control number
other_step : (bin other : List ℕ) (payer : ℕ) (pcn : Option (List ℕ)) (providers : Option Providers) (rest : List (List ℕ × ℕ)) (any : Bool) → is_some (find bin_cmp bin rest) ≡ any
    → is_some (find bin_cmp bin (cons_option (cond (is_some providers) None (cond (is_none pcn) (Some (other, payer)) None)) rest)) ≡ (((bytes_eq bin other && same_pcn None pcn) && meet None providers) || any)
other_step bin other payer None None rest any e =
    found_first (eq_by_cmp bin_cmp bin other) ((bytes_eq bin other && true) && true) payer (find bin_cmp bin rest) any (always (bytes_eq bin other && true) ∙ (always (bytes_eq bin other) ∙ bin_tied bin other)) e
other_step bin other payer (Some pcn) None rest any e = e ∙ sym (ap (λ (b : Bool). b || any) (always (bytes_eq bin other && false) ∙ never (bytes_eq bin other)))
other_step bin other payer pcn (Some p) rest any e = e ∙ sym (ap (λ (b : Bool). b || any) (never (bytes_eq bin other && same_pcn None pcn)))

other_found : (bin : List ℕ) (payer : ℕ) (rows : List Row) → is_some (find bin_cmp bin (filter_map other_entry rows)) ≡ list_any (same_key (record { bin = bin; pcn = None; providers = None; payer = payer; rejected = None })) rows
other_found bin payer [] = refl
other_found bin payer (r ∷ rs) = other_step bin r.bin r.payer r.pcn r.providers (filter_map other_entry rs) _ (other_found bin payer rs)

-- one row, for a key with one
exact_step : (bin other key : List ℕ) (payer : ℕ) (pcn : Option (List ℕ)) (providers : Option Providers) (rest : List ((List ℕ × List ℕ) × ℕ)) (any : Bool) → is_some (find processor_cmp (bin, key) rest) ≡ any
    → is_some (find processor_cmp (bin, key) (cons_option (cond (is_some providers) None (option_map (λ p. ((other, p), payer)) pcn)) rest)) ≡ (((bytes_eq bin other && same_pcn (Some key) pcn) && meet None providers) || any)
exact_step bin other key payer None None rest any e = e ∙ sym (ap (λ (b : Bool). b || any) (always (bytes_eq bin other && false) ∙ never (bytes_eq bin other)))
exact_step bin other key payer (Some pcn) None rest any e =
    found_first (eq_by_cmp processor_cmp (bin, key) (other, pcn)) ((bytes_eq bin other && bytes_eq key pcn) && true) payer (find processor_cmp (bin, key) rest) any (always (bytes_eq bin other && bytes_eq key pcn) ∙ processor_tied (bin, key) (other, pcn)) e
exact_step bin other key payer pcn (Some p) rest any e = e ∙ sym (ap (λ (b : Bool). b || any) (never (bytes_eq bin other && same_pcn (Some key) pcn)))

exact_found : (bin key : List ℕ) (payer : ℕ) (rows : List Row) → is_some (find processor_cmp (bin, key) (filter_map exact_entry rows)) ≡ list_any (same_key (record { bin = bin; pcn = Some key; providers = None; payer = payer; rejected = None })) rows
exact_found bin key payer [] = refl
exact_found bin key payer (r ∷ rs) = exact_step bin r.bin key r.payer r.pcn r.providers (filter_map exact_entry rs) _ (exact_found bin key payer rs)

-- the key of a row for some providers alone is that of such a row
ranged_step : (same : Bool) (providers : Providers) (r : Row) (rest : List Row) (test : Row → Bool) (o : Option Providers) (is : r.providers ≡ o) (any : Bool) → list_any test (filter is_ranged rest) ≡ any
    → test r ≡ (same && meet (Some providers) o) → (test r || any) ≡ list_any test (cond (is_some o) (r ∷ filter is_ranged rest) (filter is_ranged rest))
ranged_step same providers r rest test None is any e t = ap (λ (b : Bool). b || any) (t ∙ never same) ∙ sym e
ranged_step same providers r rest test (Some p) is any e t = ap (λ (b : Bool). test r || b) (sym e)

ranged_found : (row : Row) (providers : Providers) (rows : List Row) → row.providers ≡ Some providers → list_any (same_key row) rows ≡ list_any (same_key row) (filter is_ranged rows)
ranged_found row providers [] is = refl
ranged_found row providers (r ∷ rs) is =
    ap (λ (b : Bool). same_key row r || b) (ranged_found row providers rs is)
    ∙ ranged_step (bytes_eq row.bin r.bin && same_pcn row.pcn r.pcn) providers r rs (same_key row) r.providers refl (list_any (same_key row) (filter is_ranged rs)) refl
    (ap (λ (o : Option Providers). (bytes_eq row.bin r.bin && same_pcn row.pcn r.pcn) && meet o r.providers) is)

key_is : (bin : List ℕ) (pcn : Option (List ℕ)) (providers : Option Providers) (payer : ℕ) (earlier : List Row)
    → list_any (same_key (record { bin = bin; pcn = pcn; providers = providers; payer = payer; rejected = None })) (map filled_row (leading earlier))
    ≡ has_leading (routes_of earlier) (record { bin = bin; pcn = pcn; providers = providers; payer = payer; rejected = None })
unfolding routes_of
key_is bin pcn (Some p) payer earlier = ranged_found (record { bin = bin; pcn = pcn; providers = Some p; payer = payer; rejected = None }) p (map filled_row (leading earlier)) refl
key_is bin None None payer earlier =
    sym (ap is_some (get-from_entries bins_total (filter_map other_entry (map filled_row (leading earlier))) bin) ∙ other_found bin payer (map filled_row (leading earlier)))
key_is bin (Some pcn) None payer earlier =
    sym (ap is_some (get-from_entries processors_total (filter_map exact_entry (map filled_row (leading earlier))) (bin, pcn)) ∙ exact_found bin pcn payer (map filled_row (leading earlier)))

-- an entry has a key where the map of the entries has it
any_found : (key : List ℕ) (es : List (List ℕ × ℕ)) → is_some (find bin_cmp key es) ≡ list_any (λ (e : List ℕ × ℕ). bytes_eq key e.0) es
any_found key [] = refl
any_found key (e ∷ es) = found_first (eq_by_cmp bin_cmp key e.0) (bytes_eq key e.0) e.1 (find bin_cmp key es) (list_any (λ (f : List ℕ × ℕ). bytes_eq key f.0) es) (bin_tied key e.0) (any_found key es)

among_is : (es : List (List ℕ × ℕ)) (key : Option (List ℕ)) → is_among es key ≡ option_map_or (contains_key (from_entries {R = bin_cmp} es)) key false
among_is es None = refl
among_is es (Some key) = sym (ap is_some (get-from_entries bins_total es key) ∙ any_found key es)

taken_by : (earlier : List Row) (bin : List ℕ) (pcn : Option (List ℕ)) (providers : Option Providers) (payer : ℕ) (rejected : Option ℕ)
    → is_taken earlier (record { bin = bin; pcn = pcn; providers = providers; payer = payer; rejected = rejected })
    ≡ has_key (routes_of earlier) (filled_row (record { bin = bin; pcn = pcn; providers = providers; payer = payer; rejected = rejected }))
unfolding routes_of
taken_by earlier bin pcn providers payer None = key_is bin (option_map filled pcn) providers payer earlier
taken_by earlier bin pcn providers payer (Some last) = among_is (filter_map rejected_entry (map filled_row earlier)) (key_by bin (option_map filled pcn) providers)

-- the maps of the earlier rows have the key of a row where an earlier row has it
pub taken_is : (earlier : List Row) (row : Row) → is_taken earlier row ≡ has_key (routes_of earlier) (filled_row row)
taken_is earlier row = taken_by earlier row.bin row.pcn row.providers row.payer row.rejected

none_of : (o : Option ℕ) → is_some o ≡ false → o ≡ None
none_of None e = refl
none_of (Some x) e = absurd cc

abbrev maps : ℕ → FinMap bin_cmp ℕ → FinMap processor_cmp ℕ → FinMap bin_cmp ℕ → List Row → RouteMaps
maps switches rejected exact others ranged = record { exact = exact; others = others; ranged = ranged; rejected = rejected; switches = switches }

rows_more : (earlier : List Row) (row : Row) → map filled_row (earlier ++ row ∷ []) ≡ map filled_row earlier ++ filled_row row ∷ []
rows_more earlier row = map-append filled_row earlier (row ∷ [])

-- the maps of filled rows that lead to payers
abbrev maps_of : FinMap bin_cmp ℕ → List Row → RouteMaps
maps_of rejected rows = maps 0 rejected (from_entries (filter_map exact_entry rows)) (from_entries (filter_map other_entry rows)) (filter is_ranged rows)

pushed : (r : FinMap bin_cmp ℕ) (bin : List ℕ) (pcn : Option (List ℕ)) (providers : Option Providers) (payer : ℕ) (rows : List Row)
    → has_leading (maps_of r rows) (record { bin = bin; pcn = pcn; providers = providers; payer = payer; rejected = None }) ≡ false
    → with_leading (maps_of r rows) (record { bin = bin; pcn = pcn; providers = providers; payer = payer; rejected = None })
    ≡ maps_of r (rows ++ record { bin = bin; pcn = pcn; providers = providers; payer = payer; rejected = None } ∷ [])
pushed r bin pcn (Some p) payer rows free =
    let row : Row = record { bin = bin; pcn = pcn; providers = Some p; payer = payer; rejected = None } in
    rw (filter_map-append exact_entry rows (row ∷ []), filter_map-append other_entry rows (row ∷ []), filter-append is_ranged rows (row ∷ []), append-nil (filter_map exact_entry rows), append-nil (filter_map other_entry rows)) refl
pushed r bin None None payer rows free =
    let row : Row = record { bin = bin; pcn = None; providers = None; payer = payer; rejected = None } in
    let absent : find bin_cmp bin (filter_map other_entry rows) ≡ None = none_of _ (ap is_some (sym (get-from_entries bins_total (filter_map other_entry rows) bin)) ∙ free) in
    rw (filter_map-append exact_entry rows (row ∷ []), filter_map-append other_entry rows (row ∷ []), filter-append is_ranged rows (row ∷ []), append-nil (filter_map exact_entry rows), append-nil (filter is_ranged rows))
    (ap (λ (m : FinMap bin_cmp ℕ). maps 0 r (from_entries (filter_map exact_entry rows)) m (filter is_ranged rows)) (sym (from_entries_push bins_total exact_bins (filter_map other_entry rows) bin payer absent)))
pushed r bin (Some pcn) None payer rows free =
    let row : Row = record { bin = bin; pcn = Some pcn; providers = None; payer = payer; rejected = None } in
    let absent : find processor_cmp (bin, pcn) (filter_map exact_entry rows) ≡ None = none_of _ (ap is_some (sym (get-from_entries processors_total (filter_map exact_entry rows) (bin, pcn))) ∙ free) in
    rw (filter_map-append exact_entry rows (row ∷ []), filter_map-append other_entry rows (row ∷ []), filter-append is_ranged rows (row ∷ []), append-nil (filter_map other_entry rows), append-nil (filter is_ranged rows))
    (ap (λ (m : FinMap processor_cmp ℕ). maps 0 r m (from_entries (filter_map other_entry rows)) (filter is_ranged rows)) (sym (from_entries_push processors_total exact_processors (filter_map exact_entry rows) (bin, pcn) payer absent)))

-- the entries of those that stay rejected, with one row more
entries_more : (earlier : List Row) (row : Row)
    → filter_map rejected_entry (map filled_row (earlier ++ row ∷ [])) ≡ filter_map rejected_entry (map filled_row earlier) ++ filter_map rejected_entry (filled_row row ∷ [])
entries_more earlier row = ap (filter_map rejected_entry) (rows_more earlier row) ∙ filter_map-append rejected_entry (map filled_row earlier) (filled_row row ∷ [])

-- of a key that is free, or of none
entered : (old : RouteMaps) (es : List (List ℕ × ℕ)) (key : Option (List ℕ)) (last : ℕ) → old.rejected ≡ from_entries es → has_rejected old key ≡ false
    → with_entry old (entry_by (Some last) key) ≡ maps old.switches (from_entries (es ++ cons_option (entry_by (Some last) key) [])) old.exact old.others old.ranged
entered old es None last is free = ap (λ (m : FinMap bin_cmp ℕ). maps old.switches m old.exact old.others old.ranged) (is ∙ ap from_entries (sym (append-nil es)))
entered old es (Some key) last is free =
    let absent : find bin_cmp key es ≡ None = none_of _ (ap is_some (sym (get-from_entries bins_total es key)) ∙ (ap (λ (m : FinMap bin_cmp ℕ). contains_key m key) (sym is) ∙ free)) in
    ap (λ (m : FinMap bin_cmp ℕ). maps old.switches m old.exact old.others old.ranged) (ap (λ (m : FinMap bin_cmp ℕ). insert m key last) is ∙ sym (from_entries_push bins_total exact_bins es key last absent))

added_by : (earlier : List Row) (bin : List ℕ) (pcn : Option (List ℕ)) (providers : Option Providers) (payer : ℕ) (rejected : Option ℕ)
    → has_key (routes_of earlier) (filled_row (record { bin = bin; pcn = pcn; providers = providers; payer = payer; rejected = rejected })) ≡ false
    → with_row (routes_of earlier) (filled_row (record { bin = bin; pcn = pcn; providers = providers; payer = payer; rejected = rejected }))
    ≡ routes_of (earlier ++ record { bin = bin; pcn = pcn; providers = providers; payer = payer; rejected = rejected } ∷ [])
unfolding routes_of
added_by earlier bin pcn providers payer None free =
    let row : Row = record { bin = bin; pcn = pcn; providers = providers; payer = payer; rejected = None } in
    let r : FinMap bin_cmp ℕ = from_entries (filter_map rejected_entry (map filled_row earlier)) in
    pushed r bin (option_map filled pcn) providers payer (map filled_row (leading earlier)) free
    ∙ (ap (maps_of r) (sym (rows_more (leading earlier) row))
    ∙ (ap (λ (rows : List Row). maps_of r (map filled_row rows)) (sym (filter-append leads earlier (row ∷ [])))
    ∙ ap (λ (es : List (List ℕ × ℕ)). maps_of (from_entries es) (map filled_row (leading (earlier ++ row ∷ [])))) (sym (entries_more earlier row ∙ append-nil (filter_map rejected_entry (map filled_row earlier))))))
added_by earlier bin pcn providers payer (Some last) free =
    let row : Row = record { bin = bin; pcn = pcn; providers = providers; payer = payer; rejected = Some last } in
    let es : List (List ℕ × ℕ) = filter_map rejected_entry (map filled_row earlier) in
    entered (maps_of (from_entries es) (map filled_row (leading earlier))) es (key_by bin (option_map filled pcn) providers) last refl free
    ∙ (ap (λ (fs : List (List ℕ × ℕ)). maps_of (from_entries fs) (map filled_row (leading earlier))) (sym (entries_more earlier row))
    ∙ ap (λ (rows : List Row). maps_of (from_entries (filter_map rejected_entry (map filled_row (earlier ++ row ∷ [])))) (map filled_row rows)) (sym (filter-append leads earlier (row ∷ []) ∙ append-nil (leading earlier))))

-- a row whose key is free is one further entry
pub row_added : (earlier : List Row) (row : Row) → has_key (routes_of earlier) (filled_row row) ≡ false → with_row (routes_of earlier) (filled_row row) ≡ routes_of (earlier ++ row ∷ [])
row_added earlier row free = added_by earlier row.bin row.pcn row.providers row.payer row.rejected free

abbrev fault_if : Bool → ℕ → Option RoutesFault
fault_if same place = cond same (Some (SameRow place)) None

free_if : (o : Option RoutesFault) (same : Bool) (place : ℕ) → option_or o (fault_if same place) ≡ None → same ≡ false
free_if None false place e = refl
free_if None true place e = absurd cc
free_if (Some f) same place e = absurd cc

-- a row without a fault has a free key
pub free : (payers place : ℕ) (row : Row) (same : Bool) → row_fault payers place row same ≡ None → same ≡ false
free payers place row same e = free_if (text_fault payers place row) same place e

-- the first fault after the rows before a place is that of the row there, else that after it
pub fault_step : (payers : ℕ) (rows : List Row) (i : ℕ) (d : Row) → i < length rows
    → fault_behind payers (take i rows) (drop i rows) ≡ option_or (row_fault payers i (get_or rows i d) (has_key (routes_of (take i rows)) (filled_row (get_or rows i d)))) (fault_behind payers (take (i + 1) rows) (drop (i + 1) rows))
fault_step payers rows i d h =
    let long : length (take i rows) ≡ i = omega (arith, length-take i rows) in
    let next : i + 1 ≡ suc i = omega arith in
    rw (← taken_is (take i rows) (get_or rows i d), take_more rows i d h, next, drop-cons rows i d h, long) refl

-- what a loop over rows keeps, where the row at place i is added
pub record Goes (payers : ℕ) (rows : List Row) (i : ℕ) (new : RouteMaps) : Type 0 where
  pub so_far : new ≡ routes_of (take (i + 1) rows)
  pub rest : fault_behind payers (take i rows) (drop i rows) ≡ fault_behind payers (take (i + 1) rows) (drop (i + 1) rows)

-- the fault of the row at place i, as the loop asks for it
asked : (payers : ℕ) (rows : List Row) (i : ℕ) (row : Row) (old : RouteMaps) → i < length rows → row ≡ get_or rows i row → old ≡ routes_of (take i rows)
    → fault_behind payers (take i rows) (drop i rows) ≡ option_or (row_fault payers i row (has_key old (filled_row row))) (fault_behind payers (take (i + 1) rows) (drop (i + 1) rows))
asked payers rows i row old h is so =
    fault_step payers rows i row h
    ∙ ap (λ (r : Row). option_or (row_fault payers i r (has_key (routes_of (take i rows)) (filled_row r))) (fault_behind payers (take (i + 1) rows) (drop (i + 1) rows))) (sym is)
    ∙ ap (λ (m : RouteMaps). option_or (row_fault payers i row (has_key m (filled_row row))) (fault_behind payers (take (i + 1) rows) (drop (i + 1) rows))) (sym so)

pub goes : (payers : ℕ) (rows : List Row) (i : ℕ) (row : Row) (old new : RouteMaps) → i < length rows → row ≡ get_or rows i row → old ≡ routes_of (take i rows)
    → new ≡ with_row old (filled_row row) → row_fault payers i row (has_key old (filled_row row)) ≡ None → Goes payers rows i new
goes payers rows i row old new h is so made none =
    let key : has_key (routes_of (take i rows)) (filled_row row) ≡ false = ap (λ (m : RouteMaps). has_key m (filled_row row)) (sym so) ∙ free payers i row (has_key old (filled_row row)) none in
    record {
      so_far = made ∙ (ap (λ (m : RouteMaps). with_row m (filled_row row)) so ∙ (row_added (take i rows) row key ∙ ap routes_of (ap (λ (r : Row). take i rows ++ r ∷ []) is ∙ sym (take_more rows i row h))));
      rest = asked payers rows i row old h is so ∙ ap (λ (o : Option RoutesFault). option_or o (fault_behind payers (take (i + 1) rows) (drop (i + 1) rows))) none;
    }

pub stops : (payers : ℕ) (rows : List Row) (i : ℕ) (row : Row) (old : RouteMaps) (fault : RoutesFault) → i < length rows → row ≡ get_or rows i row → old ≡ routes_of (take i rows)
    → row_fault payers i row (has_key old (filled_row row)) ≡ Some fault → fault_behind payers (take i rows) (drop i rows) ≡ Some fault
stops payers rows i row old fault h is so e =
    asked payers rows i row old h is so ∙ ap (λ (o : Option RoutesFault). option_or o (fault_behind payers (take (i + 1) rows) (drop (i + 1) rows))) e
