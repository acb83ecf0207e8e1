-- The row that a table of the array `route` spells. Whether its texts are a BIN number and a processor control number is judged
-- where a table of routes is made.
use Rattle.std.specs.Prelude.{ℕ, Bool, true, false, ◌&&◌, ◌||◌, List, [], ◌∷◌, codes, Option, Some, None, is_some, if◌then◌else◌}
use Rattle.std.specs.List.{list_all}
use Rattle.std.specs.Option.{option_map}
use Rattle.input_text.specs.Options.{◌>>=◌}
use Rattle.toml.specs.Data.{Data, Members, get_member, as_str, as_table}
use Rattle.d0_header.specs.Field.{is_plain}
use Rattle.bin_routes.specs.Row.{Row}
use Rattle.bin_routes.specs.Providers.{Providers, is_up_to}
use Rattle.world_settings.specs.Values.{number_at, text_at, filled}
use Rattle.world_settings.specs.Keys.{only_with}
use Rattle.world_settings.specs.Limits.{one_at_least}

-- the keys of a route to a payer; `pcn` may be left out, and where settings are wide those of its providers
abbrev pub route_keys : Bool → List (List ℕ)
route_keys false = codes "bin" ∷ codes "payer" ∷ codes "pcn" ∷ []
route_keys true = codes "bin" ∷ codes "payer" ∷ codes "pcn" ∷ codes "qualifier" ∷ codes "provider" ∷ codes "first" ∷ codes "last" ∷ []

-- the processor control number, where there may be none; an empty one is one
abbrev pub pcn_of : Option Data → Option (Option (List ℕ))
pcn_of None = Some None
pcn_of (Some value) = option_map (λ text. Some text) (as_str value)

-- a text without separators, filled with spaces
abbrev pub plain_text : List ℕ → Option (List ℕ)
plain_text text = if list_all is_plain text then Some text else None

abbrev pub plain_at : ℕ → List ℕ → Members → Option (List ℕ)
plain_at width key table = (text_at key table >>= filled width) >>= plain_text

-- whether a table has a key
abbrev pub has : List ℕ → Members → Bool
has key table = is_some (get_member key table)

-- providers from the first to the last, which is not before it
abbrev pub ranging : List ℕ → List ℕ → List ℕ → Option Providers
ranging qualifier first last = if is_up_to first last then Some (record { qualifier = qualifier; first = first; last = last }) else None

-- one provider of a qualifier
unfoldable pub one_provider : Members → Option Providers
one_provider table = do
  qualifier ← plain_at 2 (codes "qualifier") table
  provider ← plain_at 15 (codes "provider") table
  Some (record { qualifier = qualifier; first = provider; last = provider })

-- several
unfoldable pub some_providers : Members → Option Providers
some_providers table = do
  qualifier ← plain_at 2 (codes "qualifier") table
  first ← plain_at 15 (codes "first") table
  last ← plain_at 15 (codes "last") table
  ranging qualifier first last

-- the providers that a route is for: one, or those from the first to the last
abbrev pub named_providers : Members → Option Providers
named_providers table =
    if has (codes "provider") table then (if has (codes "first") table || has (codes "last") table then None else one_provider table) else some_providers table

-- whether a route is for some providers alone
abbrev pub names_providers : Members → Bool
names_providers table = (has (codes "qualifier") table || has (codes "provider") table) || (has (codes "first") table || has (codes "last") table)

-- the providers of a route, where it is not for all
abbrev pub providers_of : Members → Option (Option Providers)
providers_of table = if names_providers table then option_map (λ (p : Providers). Some p) (named_providers table) else Some None

-- the row to a payer that the values of a table spell
unfoldable pub route_with : Members → Option Row
route_with table = do
  bin ← text_at (codes "bin") table
  payer ← number_at (codes "payer") 65535 table
  pcn ← pcn_of (get_member (codes "pcn") table)
  providers ← providers_of table
  Some (record { bin = bin; pcn = pcn; providers = providers; payer = payer; rejected = None })

-- a table with the keys of such a route
abbrev pub leading_of : Bool → Members → Option Row
leading_of wide table = only_with (route_keys wide) table (route_with table)

-- the keys of a row that leads to no payer, each of which has to be there
abbrev pub rejecting_keys : List (List ℕ)
rejecting_keys = codes "bin" ∷ codes "pcn" ∷ codes "qualifier" ∷ codes "provider" ∷ codes "rejected" ∷ []

-- the last number that stays rejected, which is 1 at least
abbrev pub last_rejected : Members → Option ℕ
last_rejected table = number_at (codes "rejected") 9223372036854775807 table >>= one_at_least

-- the row whose requests, those of one provider up to a number, stay rejected
unfoldable pub rejecting_with : Members → Option Row
rejecting_with table = do
  bin ← text_at (codes "bin") table
  pcn ← text_at (codes "pcn") table
  providers ← one_provider table
  last ← last_rejected table
  Some (record { bin = bin; pcn = Some pcn; providers = Some providers; payer = 0; rejected = Some last })

abbrev pub rejecting_of : Members → Option Row
rejecting_of table = only_with rejecting_keys table (rejecting_with table)

-- the row that a table spells: with the key `rejected`, where settings are wide, it leads to no payer
abbrev pub route_of : Bool → Members → Option Row
route_of wide table = if wide && has (codes "rejected") table then rejecting_of table else leading_of wide table

-- the same of a value, which has to be a table
abbrev pub route_in : Bool → Data → Option Row
route_in wide value = as_table value >>= route_of wide
