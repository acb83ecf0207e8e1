-- The rows of routes by which requests stay rejected, as tables of a TOML document.
use Rattle.std.specs.Prelude.{ℕ, Bool, ◌&&◌, List, ◌++◌, Option, Some, None, codes, decimal, flat_map, unwrap_or, if◌then◌else◌}
use Rattle.std.specs.List.{list_all}
use Rattle.std.specs.Str.{is_utf8}
use Rattle.bin_routes.specs.Key.{RouteKey}
use Rattle.claim_profile.specs.Fields.{trimmed}
use Rattle.rejected_rows.specs.Keys.{Request, keys_in, last_of}
use Rattle.rejected_rows.specs.Strings.{escaped}

-- a field after the name that it has in a row, without the spaces that fill it
unfoldable pub field_text : List ℕ → List ℕ → List ℕ
field_text name field = name ++ (escaped (trimmed field) ++ codes "\"\n")

unfoldable pub number_text : ℕ → List ℕ
number_text number = codes "rejected = " ++ (decimal number ++ codes "\n")

-- the row of a key: its requests up to this number stay rejected
unfoldable pub row_text : RouteKey → ℕ → List ℕ
row_text key number =
    codes "\n[[route]]\n" ++ (field_text (codes "bin = \"") key.bin ++ (field_text (codes "pcn = \"") key.pcn
    ++ (field_text (codes "qualifier = \"") key.qualifier ++ (field_text (codes "provider = \"") key.provider ++ number_text number))))

-- the rows of keys, up to the last request of each
unfoldable pub rows_text : List Request → List RouteKey → List ℕ
rows_text requests keys = flat_map (λ (key : RouteKey). row_text key (unwrap_or (last_of key requests) 0)) keys

-- settings can spell a key: each of its fields is a text
abbrev pub is_text : RouteKey → Bool
is_text key = (is_utf8 key.bin && is_utf8 key.pcn) && (is_utf8 key.qualifier && is_utf8 key.provider)

-- a row for each key of requests, where settings can spell all of them
abbrev pub rows_in : List Request → Option (List ℕ)
rows_in requests = if list_all is_text (keys_in requests) then Some (rows_text requests (keys_in requests)) else None
