-- What the value at a key of a table is.
use Rattle.std.specs.Prelude.{ℕ, ◌-◌, ℤ, pos, negsuc, nat_le, List, ◌++◌, length, replicate, Option, Some, None, if◌then◌else◌}
use Rattle.input_text.specs.Options.{◌>>=◌}
use Rattle.toml.specs.Data.{Data, Members, get_member, as_integer, as_str}

-- a whole number from 0 to the most that its type or its rule allows
abbrev pub within : ℕ → ℤ → Option ℕ
within most (pos number) = if nat_le number most then Some number else None
within most (negsuc number) = None

-- the number that a value is; a float, a boolean or a date is none
abbrev pub number : ℕ → Data → Option ℕ
number most value = as_integer value >>= within most

-- the number at a key, which has to be there
abbrev pub number_at : List ℕ → ℕ → Members → Option ℕ
number_at key most table = get_member key table >>= number most

-- the number that stands where there may be none
abbrev pub number_or : ℕ → ℕ → Option Data → Option ℕ
number_or default most None = Some default
number_or default most (Some value) = number most value

-- the text at a key, which has to be there, as bytes of UTF-8
abbrev pub text_at : List ℕ → Members → Option (List ℕ)
text_at key table = get_member key table >>= as_str

-- a text of at most this many bytes, filled with spaces
unfoldable pub filled : ℕ → List ℕ → Option (List ℕ)
filled width text = if nat_le (length text) width then Some (text ++ replicate (width - length text) 32) else None
