-- The rows of a table of routes, and the tests of their texts.
use Rattle.std.specs.Prelude.{ℕ, ◌-◌, Bool, true, false, not, ◌&&◌, ◌==◌, nat_le, List, ◌++◌, length, slice_index, replicate, filter, Option, Some, None, is_none}
use Rattle.std.specs.Option.{option_map}
use Rattle.std.specs.List.{list_all}
use Rattle.std.specs.Str.{bytes_eq}
use Rattle.bin_routes.specs.Providers.{Providers, meet}

-- the texts of a row, the providers that it is for, where it is not for all, and the number of its payer. A row that leads to no payer says
-- how many of a provider's first requests stay rejected: they were, before there was a route
pub record Row : Type 0 where
  pub bin : List ℕ
  pub pcn : Option (List ℕ)
  pub providers : Option Providers
  pub payer : ℕ
  pub rejected : Option ℕ

-- the row leads to a payer
abbrev pub leads : Row → Bool
leads row = is_none row.rejected

-- the rows that do
abbrev pub leading : List Row → List Row
leading rows = filter leads rows

-- an ASCII digit
abbrev pub is_digit : ℕ → Bool
is_digit byte = nat_le 48 byte && nat_le byte 57

-- no field, group or segment separator
abbrev pub is_plain : ℕ → Bool
is_plain byte = not (nat_le 28 byte && nat_le byte 30)

-- six digits
unfoldable pub is_bin : List ℕ → Bool
is_bin text = (length text == 6) && list_all is_digit text

-- whether a space stands at the end; an empty text has none
abbrev pub ends_in_space : List ℕ → Bool
ends_in_space text = slice_index text (length text - 1) == 32

-- at most ten bytes, no separator, and no space at the end
unfoldable pub is_pcn : List ℕ → Bool
is_pcn text = (nat_le (length text) 10 && list_all is_plain text) && not (ends_in_space text)

-- the same for a row that may have none
abbrev pub has_pcn : Option (List ℕ) → Bool
has_pcn None = true
has_pcn (Some text) = is_pcn text

-- a processor control number as a header has it: filled with spaces to ten bytes
unfoldable pub filled : List ℕ → List ℕ
filled text = text ++ replicate (10 - length text) 32

-- the row with its processor control number as a header has it
abbrev pub filled_row : Row → Row
filled_row row = record { bin = row.bin; pcn = option_map filled row.pcn; providers = row.providers; payer = row.payer; rejected = row.rejected }

-- whether the two have the same processor control number, or both have none
abbrev pub same_pcn : Option (List ℕ) → Option (List ℕ) → Bool
same_pcn None None = true
same_pcn None (Some b) = false
same_pcn (Some a) None = false
same_pcn (Some a) (Some b) = bytes_eq a b

-- whether the two rows are for the same BIN and the same processor control number, and some provider for both, or both for all
abbrev pub same_key : Row → Row → Bool
same_key a b = (bytes_eq a.bin b.bin && same_pcn a.pcn b.pcn) && meet a.providers b.providers
