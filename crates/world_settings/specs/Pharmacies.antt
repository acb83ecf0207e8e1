-- The settings of a pharmacy that a table of the array `pharmacy` spells.
use Rattle.std.specs.Prelude.{ℕ, nat_le, Bool, ◌&&◌, List, [], ◌∷◌, length, codes, Option, Some, None, if◌then◌else◌}
use Rattle.std.specs.List.{list_all}
use Rattle.input_text.specs.Options.{◌>>=◌}
use Rattle.toml.specs.Data.{Data, Members, as_table}
use Rattle.d0_header.specs.Field.{is_plain}
use Rattle.claim_model.specs.Journal.{PharmacySettings}
use Rattle.claim_model.specs.Limits.{most_entries}
use Rattle.world_settings.specs.Values.{number, number_at, text_at, filled}
use Rattle.world_settings.specs.Keys.{only_with}
use Rattle.world_settings.specs.Lists.{list_at}

-- the keys, each of which has to be there
abbrev pub pharmacy_keys : List (List ℕ)
pharmacy_keys = codes "qualifier" ∷ codes "provider" ∷ codes "nodes" ∷ codes "cap" ∷ []

-- a text of at most this many bytes at a key, filled with spaces
abbrev pub identity : ℕ → List ℕ → Members → Option (List ℕ)
identity width key table = text_at key table >>= filled width

-- what a pharmacy takes: waits of 1 to 1,000 ticks, 1 to 1,000 tries, 1 to 16,777,216 entries, an identity without separators, and as
-- many nodes as its circle of retries has room for
unfoldable pub is_taken : PharmacySettings → Bool
is_taken s =
    (nat_le 1 s.again && nat_le s.again 1000) && (nat_le 1 s.tries && nat_le s.tries 1000) && (nat_le 1 s.cap && nat_le s.cap most_entries)
    && (list_all is_plain s.qualifier && list_all is_plain s.provider) && nat_le (length s.nodes) 4294967295

abbrev pub taken : PharmacySettings → Option PharmacySettings
taken s = if is_taken s then Some s else None

-- settings by their parts
abbrev pub of_parts : List ℕ → List ℕ → List ℕ → ℕ → ℕ → ℕ → PharmacySettings
of_parts qualifier provider nodes again tries cap =
    record { qualifier = qualifier; provider = provider; nodes = nodes; again = again; tries = tries; cap = cap }

-- the settings that the values of a table spell, under the document's `again` and `tries`
unfoldable pub pharmacy_with : ℕ → ℕ → Members → Option PharmacySettings
pharmacy_with again tries table = do
  qualifier ← identity 2 (codes "qualifier") table
  provider ← identity 15 (codes "provider") table
  nodes ← list_at (number 65535) (codes "nodes") table
  cap ← number_at (codes "cap") 4294967295 table
  taken (of_parts qualifier provider nodes again tries cap)

abbrev pub pharmacy_of : ℕ → ℕ → Members → Option PharmacySettings
pharmacy_of again tries table = only_with pharmacy_keys table (pharmacy_with again tries table)

-- the same of a value, which has to be a table
abbrev pub pharmacy_in : ℕ → ℕ → Data → Option PharmacySettings
pharmacy_in again tries value = as_table value >>= pharmacy_of again tries
