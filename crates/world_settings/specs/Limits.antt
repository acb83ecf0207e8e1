-- The limits that the table `limits` states, and whether settings stay within limits.
use Rattle.std.specs.Prelude.{ℕ, ◌&&◌, nat_le, Bool, List, [], ◌∷◌, length, codes, Option, Some, None, if◌then◌else◌}
use Rattle.std.specs.List.{list_all}
use Rattle.input_text.specs.Options.{◌>>=◌}
use Rattle.toml.specs.Data.{Data, Members, get_member, as_table}
use Rattle.claim_model.specs.Journal.{PharmacySettings}
use Rattle.claim_model.specs.Limits.{Limits, limits_of, stated}
use Rattle.claim_model.specs.Settings.{PayerSettings, WorldSettings}
use Rattle.world_settings.specs.Values.{number}
use Rattle.world_settings.specs.Keys.{only_with}

-- the keys, each of which may be left out
abbrev pub limit_keys : List (List ℕ)
limit_keys = codes "pharmacies" ∷ codes "switches" ∷ codes "payers" ∷ codes "entries" ∷ []

-- a limit is 1 at least
abbrev pub one_at_least : ℕ → Option ℕ
one_at_least limit = if nat_le 1 limit then Some limit else None

-- the limit that a value is; where there is none, the one that holds without it
abbrev pub limit_or : ℕ → Option Data → Option ℕ
limit_or other None = Some other
limit_or other (Some value) = number 4294967295 value >>= one_at_least

abbrev pub limit_at : List ℕ → ℕ → Members → Option ℕ
limit_at key other table = limit_or other (get_member key table)

-- the limits that the values of the table spell: none is over the widest
unfoldable pub limits_with : Members → Option Limits
limits_with table = do
  pharmacies ← limit_at (codes "pharmacies") stated.pharmacies table
  switches ← limit_at (codes "switches") stated.switches table
  payers ← limit_at (codes "payers") stated.payers table
  entries ← limit_at (codes "entries") stated.entries table
  limits_of (record { pharmacies = pharmacies; switches = switches; payers = payers; entries = entries })

abbrev pub limits_table : Members → Option Limits
limits_table table = only_with limit_keys table (limits_with table)

-- the stated limits, where there is no such table
abbrev pub limits_or_stated : Option Data → Option Limits
limits_or_stated None = Some stated
limits_or_stated (Some value) = as_table value >>= limits_table

-- the limits of a document
abbrev pub limits_in : Members → Option Limits
limits_in table = limits_or_stated (get_member (codes "limits") table)

-- the caps of nodes of a kind
abbrev pub caps_within : {A : Type 0} → (A → ℕ) → ℕ → List A → Bool
caps_within cap most nodes = list_all (λ node. nat_le (cap node) most) nodes

-- there may be this many pharmacies, switches and payers
abbrev pub has_room : Limits → ℕ → ℕ → ℕ → Bool
has_room limits pharmacies switches payers = nat_le pharmacies limits.pharmacies && (nat_le switches limits.switches && nat_le payers limits.payers)

-- no node may have more entries, slots or rows than these
abbrev pub caps_fit : ℕ → WorldSettings → Bool
caps_fit most s =
    caps_within (λ (p : PharmacySettings). p.cap) most s.pharmacies
    && (caps_within (λ (cap : ℕ). cap) most s.switches && caps_within (λ (p : PayerSettings). p.book.cap) most s.payers)

-- there are no more nodes of a kind, and no larger caps, than the limits allow
abbrev pub allows : Limits → WorldSettings → Bool
allows limits s = has_room limits (length s.pharmacies) (length s.switches) (length s.payers) && caps_fit limits.entries s
