-- The settings of a switch and of a payer that tables of the arrays `switch` and `payer` spell.
use Rattle.std.specs.Prelude.{ℕ, Bool, true, false, List, [], ◌∷◌, codes, bytes_eq, Option, Some, None, if◌then◌else◌}
use Rattle.std.specs.Result.{result_ok}
use Rattle.input_text.specs.Options.{◌>>=◌}
use Rattle.toml.specs.Data.{Data, Members, no_members, member, get_member, as_str, as_table}
use Rattle.claim_model.specs.Words.{Plan}
use Rattle.claim_model.specs.Rows.{BookSettings}
use Rattle.claim_model.specs.Limits.{widest}
use Rattle.plan_rules.specs.Terms.{repriced, largest}
use Rattle.payer_book.specs.Settings.{settings_within}
use Rattle.switch_node.specs.Settings.{settings_within as switch_within}
use Rattle.world_setup.specs.declared.settings.PayerSettings.{PayerSettings}
use Rattle.world_settings.specs.Values.{number, number_at, number_or}
use Rattle.world_settings.specs.Keys.{only_with}

abbrev pub switch_keys : List (List ℕ)
switch_keys = codes "cap" ∷ []

-- the cap of a switch, where a switch takes it
abbrev pub cap_taken : ℕ → Option ℕ
cap_taken cap = result_ok (switch_within widest cap)

abbrev pub switch_of : Members → Option ℕ
switch_of table = only_with switch_keys table (number_at (codes "cap") 4294967295 table >>= cap_taken)

abbrev pub switch_in : Data → Option ℕ
switch_in value = as_table value >>= switch_of

-- the keys of a payer; `serial` and `prices` may be left out, and where settings are wide `asks`
abbrev pub payer_keys : Bool → List (List ℕ)
payer_keys false = codes "fee" ∷ codes "copay" ∷ codes "cap" ∷ codes "serial" ∷ codes "prices" ∷ []
payer_keys true = codes "asks" ∷ codes "fee" ∷ codes "copay" ∷ codes "cap" ∷ codes "serial" ∷ codes "prices" ∷ []

-- a book whose payer asks about claims, or about reversals too
abbrev pub asking : Bool → BookSettings → BookSettings
asking reversals b = record { serial = b.serial; cap = b.cap; asks = true; reversals = reversals; carries = b.carries }

-- the book whose payer asks about what a text says
abbrev pub asked : BookSettings → List ℕ → Option BookSettings
asked b text = if bytes_eq text (codes "claims") then Some (asking false b) else if bytes_eq text (codes "all") then Some (asking true b) else None

-- the same, where a payer may say nothing: then it asks about nothing
abbrev pub asks_of : BookSettings → Option Data → Option BookSettings
asks_of b None = Some b
asks_of b (Some value) = as_str value >>= asked b

-- a plan with the price of one more product, where the plan takes it
abbrev pub with_price : Plan → List ℕ → Data → Option Plan
with_price plan product value = number 4294967295 value >>= (λ price. result_ok (repriced plan product price))

-- a plan with the prices of a table: its keys are the products
abbrev pub priced : Plan → Members → Option Plan
priced plan no_members = Some plan
priced plan (member product value rest) = with_price plan product value >>= (λ next. priced next rest)

-- the same, where there may be no such table
abbrev pub with_prices : Plan → Option Data → Option Plan
with_prices plan None = Some plan
with_prices plan (Some value) = as_table value >>= priced plan

-- a plan without products; fee and copay are in cents
abbrev pub bare_plan : ℕ → ℕ → Plan
bare_plan fee copay = record { fee = fee; copay = copay; prices = [] }

-- a book whose answers are wide or not
abbrev pub answering : Bool → BookSettings → BookSettings
answering false b = b
answering true b = record { serial = b.serial; cap = b.cap; asks = b.asks; reversals = b.reversals; carries = true }

-- the settings that the values of a table spell, where answers are wide or not
unfoldable pub payer_with : Bool → Members → Option PayerSettings
payer_with carries table = do
  fee ← number_at (codes "fee") largest table
  copay ← number_at (codes "copay") largest table
  cap ← number_at (codes "cap") 4294967295 table
  serial ← number_or 1 18446744073709551615 (get_member (codes "serial") table)
  book ← result_ok (settings_within widest serial cap)
  asked ← asks_of book (get_member (codes "asks") table)
  plan ← with_prices (bare_plan fee copay) (get_member (codes "prices") table)
  Some (record { book = answering carries asked; plan = plan; keys = tt })

abbrev pub payer_of : (wide carries : Bool) → Members → Option PayerSettings
payer_of wide carries table = only_with (payer_keys wide) table (payer_with carries table)

-- the same of a value, which has to be a table
abbrev pub payer_in : (wide carries : Bool) → Data → Option PayerSettings
payer_in wide carries value = as_table value >>= payer_of wide carries
