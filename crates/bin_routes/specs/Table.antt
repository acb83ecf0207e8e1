-- The two finite maps of a table of routes, and how they are asked.
use Rattle.std.specs.Prelude.{◌≡◌, ℕ, Bool, true, false, ◌&&◌, nat_le, if◌then◌else◌, List, [], ◌∷◌, ◌++◌, map, filter, find, Option, Some, None, is_none, is_some, refl}
use Rattle.std.specs.Option.{option_or, option_map, option_map_or}
use Rattle.std.specs.List.{filter_map, list_any}
use Rattle.std.specs.declared.cmp.Ordering.{Ordering}
use Rattle.std.specs.Ordering.{nat_cmp, ordering_then}
use Rattle.std.specs.Cmp.Lexicographic.{slice_cmp}
use Rattle.std.specs.Coded.{Coded, code_by, coded×, coded_ℕ, coded_list, coded_option}
use Rattle.std.specs.FinMap.{FinMap, code, get, insert, contains_key, from_entries}
use Rattle.std.specs.Str.{bytes_eq}
use Rattle.bin_routes.specs.Key.{RouteKey}
use Rattle.bin_routes.specs.Providers.{Providers, has_provider}
use Rattle.bin_routes.specs.Row.{Row, leads, leading, filled_row, same_pcn, same_key}

-- BIN numbers in the order of their bytes
abbrev pub bin_cmp : List ℕ → List ℕ → Ordering
bin_cmp a b = slice_cmp nat_cmp a b

-- by BIN number, and then by processor control number
abbrev pub processor_cmp : List ℕ × List ℕ → List ℕ × List ℕ → Ordering
processor_cmp a b = ordering_then (slice_cmp nat_cmp a.0 b.0) (slice_cmp nat_cmp a.1 b.1)

-- the four texts of a key, one after the other
unfoldable pub text_of : List ℕ → List ℕ → List ℕ → List ℕ → List ℕ
text_of bin pcn qualifier provider = ((bin ++ pcn) ++ qualifier) ++ provider

-- those of this key
abbrev pub key_text : RouteKey → List ℕ
key_text key = text_of key.bin key.pcn key.qualifier key.provider

-- from a BIN number and a processor control number to a payer, and from a BIN number to a payer; the rows that are for some providers alone; from
-- the text of a key to the last number that stays rejected; and how many switches there are, which carry what is routed
pub record RouteMaps : Type 0 where
  pub exact : FinMap processor_cmp ℕ
  pub others : FinMap bin_cmp ℕ
  pub ranged : List Row
  pub rejected : FinMap bin_cmp ℕ
  pub switches : ℕ

-- as the tuple of its fields
abbrev pub coded_providers : Coded Providers
coded_providers =
    code_by (List ℕ × (List ℕ × List ℕ)) (coded× (coded_list coded_ℕ) (coded× (coded_list coded_ℕ) (coded_list coded_ℕ)))
    (λ r. (r.qualifier, (r.first, r.last))) (λ p. record { qualifier = p.0; first = p.1.0; last = p.1.1 }) (λ _. refl)

-- as the tuple of its fields
abbrev pub coded_row : Coded Row
coded_row =
    code_by (List ℕ × (Option (List ℕ) × (Option Providers × (ℕ × Option ℕ))))
    (coded× (coded_list coded_ℕ) (coded× (coded_option (coded_list coded_ℕ)) (coded× (coded_option coded_providers) (coded× coded_ℕ (coded_option coded_ℕ)))))
    (λ r. (r.bin, (r.pcn, (r.providers, (r.payer, r.rejected)))))
    (λ p. record { bin = p.0; pcn = p.1.0; providers = p.1.1.0; payer = p.1.1.1.0; rejected = p.1.1.1.1 }) (λ _. refl)

abbrev coded_texts : Coded (FinMap bin_cmp ℕ)
coded_texts = code (coded_list coded_ℕ) coded_ℕ

-- as the tuple of its maps and rows
abbrev pub coded_maps : Coded RouteMaps
coded_maps =
    code_by (FinMap processor_cmp ℕ × (FinMap bin_cmp ℕ × (List Row × (FinMap bin_cmp ℕ × ℕ))))
    (coded× (code (coded× (coded_list coded_ℕ) (coded_list coded_ℕ)) coded_ℕ) (coded× coded_texts (coded× (coded_list coded_row) (coded× coded_texts coded_ℕ))))
    (λ m. (m.exact, (m.others, (m.ranged, (m.rejected, m.switches)))))
    (λ p. record { exact = p.0; others = p.1.0; ranged = p.1.1.0; rejected = p.1.1.1.0; switches = p.1.1.1.1 }) (λ _. refl)

-- the row is for some providers alone
abbrev pub is_ranged : Row → Bool
is_ranged row = is_some row.providers

-- the entry of a row for all providers that names a processor control number
abbrev pub exact_entry : Row → Option ((List ℕ × List ℕ) × ℕ)
exact_entry row = if is_ranged row then None else option_map (λ pcn. ((row.bin, pcn), row.payer)) row.pcn

-- the entry of such a row that names none
abbrev pub other_entry : Row → Option (List ℕ × ℕ)
other_entry row = if is_ranged row then None else (if is_none row.pcn then Some (row.bin, row.payer) else None)

-- the text of the key of a row that leads to no payer
abbrev pub key_by : List ℕ → Option (List ℕ) → Option Providers → Option (List ℕ)
key_by bin (Some pcn) (Some providers) = Some (text_of bin pcn providers.qualifier providers.first)
key_by bin (Some pcn) None = None
key_by bin None providers = None

abbrev pub rejected_key : Row → Option (List ℕ)
rejected_key row = key_by row.bin row.pcn row.providers

-- the entry of such a row
abbrev pub entry_by : Option ℕ → Option (List ℕ) → Option (List ℕ × ℕ)
entry_by None key = None
entry_by (Some last) None = None
entry_by (Some last) (Some key) = Some (key, last)

abbrev pub rejected_entry : Row → Option (List ℕ × ℕ)
rejected_entry row = entry_by row.rejected (rejected_key row)

-- the maps of rows, of no switches yet
unfoldable pub routes_of : List Row → RouteMaps
routes_of rows = record {
  exact = from_entries (filter_map exact_entry (map filled_row (leading rows)));
  others = from_entries (filter_map other_entry (map filled_row (leading rows)));
  ranged = filter is_ranged (map filled_row (leading rows));
  rejected = from_entries (filter_map rejected_entry (map filled_row rows));
  switches = 0;
}

-- the same maps among this many switches
abbrev pub among : ℕ → RouteMaps → RouteMaps
among switches maps = record { exact = maps.exact; others = maps.others; ranged = maps.ranged; rejected = maps.rejected; switches = switches }

-- the payer of the BIN number and processor control number, else that of the BIN number; rows for some providers alone are not asked
unfoldable pub payer_at : RouteMaps → List ℕ → List ℕ → Option ℕ
payer_at maps bin pcn = option_or (get maps.exact (bin, pcn)) (get maps.others bin)

-- whether the row is for this BIN number and processor control number, or none, and for the provider of the key
unfoldable pub fits : Option (List ℕ) → RouteKey → Row → Bool
fits pcn key row = (bytes_eq row.bin key.bin && same_pcn row.pcn pcn) && has_provider row.providers key.qualifier key.provider

-- the payer of the first such row
abbrev pub ranged_payer : List Row → Option (List ℕ) → RouteKey → Option ℕ
ranged_payer rows pcn key = option_map (λ (row : Row). row.payer) (find (fits pcn key) rows)

-- the payer of a key: of the rows of its BIN number and processor control number first the one that has its provider, then the one for all; else the same of
-- the rows of the BIN number alone
unfoldable pub payer_of : RouteMaps → RouteKey → Option ℕ
payer_of maps key =
    option_or (ranged_payer maps.ranged (Some key.pcn) key) (option_or (get maps.exact (key.bin, key.pcn))
    (option_or (ranged_payer maps.ranged None key) (get maps.others key.bin)))

-- a number of a key is among those that stay rejected
abbrev pub stays_rejected : RouteMaps → ℕ → RouteKey → Bool
stays_rejected maps number key = option_map_or (λ last. nat_le number last) (get maps.rejected (key_text key)) false

-- the payer of a key for a request of this number: that of the key, but none for those that stay rejected
unfoldable pub payer_under : RouteMaps → ℕ → RouteKey → Option ℕ
payer_under maps number key = if stays_rejected maps number key then None else payer_of maps key

-- whether the maps have the key of a row for all providers
abbrev pub has_for_all : RouteMaps → Row → Bool
has_for_all maps row = option_map_or (λ pcn. contains_key maps.exact (row.bin, pcn)) row.pcn (contains_key maps.others row.bin)

-- whether they have that of a row that leads to a payer
abbrev pub has_leading : RouteMaps → Row → Bool
has_leading maps row = if is_ranged row then list_any (same_key row) maps.ranged else has_for_all maps row

-- whether requests of this key stay rejected
abbrev pub has_rejected : RouteMaps → Option (List ℕ) → Bool
has_rejected maps key = option_map_or (contains_key maps.rejected) key false

-- whether the maps have the key of a row
abbrev pub has_key : RouteMaps → Row → Bool
has_key maps row = if leads row then has_leading maps row else has_rejected maps (rejected_key row)

-- the maps with the entry of a row for all providers
abbrev pub with_row_for_all : RouteMaps → Row → RouteMaps
with_row_for_all maps row =
    option_map_or (λ pcn. record { exact = insert maps.exact (row.bin, pcn) row.payer; others = maps.others; ranged = maps.ranged; rejected = maps.rejected; switches = maps.switches }) row.pcn
    (record { exact = maps.exact; others = insert maps.others row.bin row.payer; ranged = maps.ranged; rejected = maps.rejected; switches = maps.switches })

-- the maps with the entry of a row that leads to a payer
abbrev pub with_leading : RouteMaps → Row → RouteMaps
with_leading maps row =
    if is_ranged row then record { exact = maps.exact; others = maps.others; ranged = maps.ranged ++ row ∷ []; rejected = maps.rejected; switches = maps.switches } else with_row_for_all maps row

-- the maps in which the requests of a key up to the last stay rejected
abbrev pub with_rejected : RouteMaps → List ℕ → ℕ → RouteMaps
with_rejected maps key last = record { exact = maps.exact; others = maps.others; ranged = maps.ranged; rejected = insert maps.rejected key last; switches = maps.switches }

abbrev pub with_entry : RouteMaps → Option (List ℕ × ℕ) → RouteMaps
with_entry maps None = maps
with_entry maps (Some e) = with_rejected maps e.0 e.1

-- the maps with the entry of a row
abbrev pub with_row : RouteMaps → Row → RouteMaps
with_row maps row = if leads row then with_leading maps row else with_entry maps (rejected_entry row)

-- the row leads to a payer for some providers, of which this is none
pub record IsForOthers (row : Row) (qualifier provider : List ℕ) : Type 0 where
  pub leading : leads row ≡ true
  pub ranged : is_ranged row ≡ true
  pub not_it : has_provider row.providers qualifier provider ≡ false
