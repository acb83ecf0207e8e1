-- The first bad row.
use Rattle.std.specs.Prelude.{ℕ, Bool, not, ◌&&◌, nat_le, if◌then◌else◌, false, List, [], ◌∷◌, ◌++◌, length, map, Option, Some, None, is_some}
use Rattle.std.specs.Option.{option_or}
use Rattle.std.specs.List.{list_any, filter_map}
use Rattle.std.specs.Str.{bytes_eq}
use Rattle.bin_routes.specs.Row.{Row, leads, leading, is_bin, has_pcn, filled_row, same_key}
use Rattle.bin_routes.specs.Table.{RouteMaps, rejected_key, rejected_entry, has_key}
use Rattle.bin_routes.specs.declared.fault.RoutesFault.{RoutesFault}
use Rattle.bin_routes.specs.declared.fault.RoutesFault.TheVariants.{BadBin, SameRow, NoSuchPayer, BadPcn}

-- a number from 1 to the number of payers that is a payer's number
abbrev pub is_payer : ℕ → ℕ → Bool
is_payer payers number = nat_le 1 number && (nat_le number payers && nat_le number 9999)

-- a payer that is there, or where the row leads to none, a processor control number and a provider
abbrev pub has_end : ℕ → Row → Bool
has_end payers row = if leads row then is_payer payers row.payer else is_some row.pcn && is_some row.providers

-- what is wrong with the texts and the payer of the row at a place
unfoldable pub text_fault : ℕ → ℕ → Row → Option RoutesFault
text_fault payers place row =
    if not (is_bin row.bin) then Some (BadBin place)
    else (if not (has_pcn row.pcn) then Some (BadPcn place)
    else (if not (has_end payers row) then Some (NoSuchPayer place) else None))

-- what is wrong with a row whose key is or is not that of an earlier one
abbrev pub row_fault : ℕ → ℕ → Row → Bool → Option RoutesFault
row_fault payers place row same = option_or (text_fault payers place row) (if same then Some (SameRow place) else None)

-- what is wrong with the row at a place, beside the rows of these maps
abbrev pub fault_beside : RouteMaps → ℕ → ℕ → Row → Option RoutesFault
fault_beside maps payers place row = row_fault payers place row (has_key maps (filled_row row))

-- whether an entry has this key
abbrev pub is_among : List (List ℕ × ℕ) → Option (List ℕ) → Bool
is_among entries None = false
is_among entries (Some key) = list_any (λ (e : List ℕ × ℕ). bytes_eq key e.0) entries

-- whether an earlier row has the key of this one: of two that lead to payers, or of two that do not
abbrev pub is_taken : List Row → Row → Bool
is_taken earlier row =
    if leads row then list_any (same_key (filled_row row)) (map filled_row (leading earlier))
    else is_among (filter_map rejected_entry (map filled_row earlier)) (rejected_key (filled_row row))

-- the first fault of rows that stand after earlier ones
abbrev pub fault_behind : ℕ → List Row → List Row → Option RoutesFault
fault_behind payers earlier [] = None
fault_behind payers earlier (row ∷ rows) =
    option_or (row_fault payers (length earlier) row (is_taken earlier row)) (fault_behind payers (earlier ++ row ∷ []) rows)

-- the first fault of rows
unfoldable pub first_fault : ℕ → List Row → Option RoutesFault
first_fault payers rows = fault_behind payers [] rows
