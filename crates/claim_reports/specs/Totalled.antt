-- Totals of a table of payments, as a table.
use Rattle.std.specs.Prelude.{◌≡◌, ℕ, List, [], ◌∷◌, ◌++◌, Bool, true, false, if◌then◌else◌, Option, Some, option_map, filter, codes, unwrap_or}
use Rattle.std.specs.Option.{option_or}
use Rattle.std.specs.List.{flat_map}
use Rattle.std.specs.BTreeMap.{BTreeMap, IsOrdered, get}
use Rattle.table_text.specs.Members.{Row, Number, number_or_nothing}
use Rattle.table_text.specs.Rows.{head_text, csv_row}
use Rattle.claim_reports.specs.declared.choice.Paid.{Paid}
use Rattle.claim_reports.specs.declared.choice.Choice.{Choice}
use Rattle.claim_reports.specs.declared.totals.By.{By}
use Rattle.claim_reports.specs.declared.totals.By.TheVariants.{Payer, Pharmacy, Day, All}
use Rattle.claim_reports.specs.declared.totals.Sums.{Sums}
use Rattle.claim_reports.specs.declared.totalling.PaidColumns.{PaidColumns}
use Rattle.claim_reports.specs.declared.totalling.Days.{Days}
use Rattle.claim_reports.specs.declared.totalling.Days.TheVariants.{Service, Ruling}
use Rattle.claim_reports.specs.declared.naming.Name.{Name}
use Rattle.claim_reports.specs.declared.naming.Name.TheVariants as name
use Rattle.claim_reports.specs.declared.table.Column.{Column}
use Rattle.claim_reports.specs.Names.{name_text}
use Rattle.claim_reports.specs.Causes.{Cause, bad_number, bad_optional, bad_word, column_in, missing, records_of, table_cause}
use Rattle.claim_reports.specs.Tables.{AreGiven, rows_of, column_of, number_in, optional_in, word_in, given_by, ◌>>=◌}
use Rattle.claim_reports.specs.Totals.{key_cmp, total_at, is_chosen, sums_cause}

-- the column with the day that a report goes by, and its name
abbrev pub day_column : Days → Name
day_column Service = name.DateOfService
day_column Ruling = name.RuledOn

abbrev pub day_name : Days → List ℕ
day_name days = name_text (day_column days)

-- the name of the column that totals are made by; all together have none
abbrev pub by_name : By → Days → List ℕ
by_name Payer days = codes "payer"
by_name Pharmacy days = codes "pharmacy"
by_name Day days = day_name days
by_name All days = []

-- all payments are in one row
abbrev pub is_all : By → Bool
is_all Payer = false
is_all Pharmacy = false
is_all Day = false
is_all All = true

-- the columns of a table of payments
abbrev pub columns_in : Days → List (List (List ℕ)) → PaidColumns
columns_in days records = record {
  payer = column_in records name.Payer;
  pharmacy = column_in records name.Pharmacy;
  day = column_in records (day_column days);
  cents = column_in records name.PaidCents;
  state = column_in records name.State;
}

-- the day of a row: that of service it has; that of ruling may not be known
abbrev pub day_in : Days → ℕ → List (List ℕ) → Option (Option ℕ)
day_in Service place row = option_map Some (number_in place row)
day_in Ruling place row = optional_in place row

-- the payment of a row
unfoldable pub paid_in : Days → PaidColumns → List (List ℕ) → Option Paid
paid_in days c row = do
  payer ← number_in c.payer.place row
  pharmacy ← number_in c.pharmacy.place row
  day ← day_in days c.day.place row
  cents ← number_in c.cents.place row
  reversed ← word_in c.state.place (codes "standing") (codes "reversed") row
  Some (record { payer = payer; pharmacy = pharmacy; day = day; cents = cents; reversed = reversed })

-- the payments of a table: one of each row
abbrev pub ArePaid : Days → List ℕ → List Paid → Type 0
ArePaid days table paid = AreGiven (columns_in days) (λ (c : PaidColumns) row. option_map Some (paid_in days c row)) table paid

-- ---- what is wrong with them

-- the first column that is not there
abbrev pub columns_missing : ℕ → Days → List (List (List ℕ)) → Option Cause
columns_missing table days records =
    option_or (missing table records name.Payer) (option_or (missing table records name.Pharmacy) (option_or (missing table records (day_column days))
    (option_or (missing table records name.PaidCents) (missing table records name.State))))

-- the first bad value of a row
abbrev pub bad_day : Days → Column → List (List ℕ) → Option (List ℕ)
bad_day Service c row = bad_number c row
bad_day Ruling c row = bad_optional c row

unfoldable pub paid_bad : Days → PaidColumns → List (List ℕ) → Option (List ℕ)
paid_bad days c row =
    option_or (bad_number c.payer row) (option_or (bad_number c.pharmacy row) (option_or (bad_day days c.day row)
    (option_or (bad_number c.cents row) (bad_word c.state (codes "standing") (codes "reversed") row))))

-- what is wrong with a table
abbrev pub paid_cause : Days → List (List (List ℕ)) → Option Cause
paid_cause days records = table_cause 1 (columns_missing 1 days records) (paid_bad days (columns_in days records)) records

-- the payments of a table in which nothing is wrong
abbrev pub payments_in : Days → List (List (List ℕ)) → List Paid
payments_in days records = unwrap_or (given_by (λ row. option_map Some (paid_in days (columns_in days records) row)) (rows_of records)) []

-- why there are no totals of a table: it is none, a column is not there, a value is none of its kind, or sums of those that are chosen are too large
abbrev pub totals_cause : List ℕ → By → Days → Choice → Option Cause
totals_cause table by days choice =
    option_or (paid_cause days (records_of table)) (sums_cause by (filter (is_chosen choice) (payments_in days (records_of table))))

-- ---- what is told of them

-- the names of the columns of sums, and of totals, which have a number under a name before them, but for those of all together
abbrev pub sum_names : List (List ℕ)
sum_names = codes "payments" ∷ codes "cents" ∷ codes "reversed_payments" ∷ codes "reversed_cents" ∷ []

abbrev pub total_names : By → List ℕ → List (List ℕ)
total_names by name = if is_all by then sum_names else name ∷ sum_names

-- the row of sums, and of the sums of a number, but for those of all together
unfoldable pub sums_row : Sums → Row
sums_row sums =
    record { name = codes "payments"; value = Number sums.count }
    ∷ record { name = codes "cents"; value = Number sums.cents }
    ∷ record { name = codes "reversed_payments"; value = Number sums.reversed_count }
    ∷ record { name = codes "reversed_cents"; value = Number sums.reversed_cents }
    ∷ []

abbrev pub total_row : By → List ℕ → Option ℕ → Sums → Row
total_row by name number sums = if is_all by then sums_row sums else record { name = name; value = number_or_nothing number } ∷ sums_row sums

-- a row for each number, in their order
abbrev pub total_rows : By → List ℕ → List (Option ℕ × Sums) → List ℕ
total_rows by name totals = flat_map (λ (t : Option ℕ × Sums). csv_row (total_row by name t.0 t.1)) totals

abbrev pub totals_text : By → Days → List (Option ℕ × Sums) → List ℕ
totals_text by days totals = head_text (total_names by (by_name by days)) ++ total_rows by (by_name by days) totals

-- a text is the totals of those payments of a table that are chosen: each number that these have has the sums of those that have it
pub record IsTotalled (table : List ℕ) (by : By) (days : Days) (choice : Choice) (text : List ℕ) : Type 0 where
  pub paid : List Paid
  pub made : ArePaid days table paid
  pub totals : BTreeMap (Option ℕ) Sums
  pub ordered : IsOrdered key_cmp totals
  pub each : (key : Option ℕ) → get key_cmp totals key ≡ total_at by key (filter (is_chosen choice) paid)
  pub told : text ≡ totals_text by days totals.entries
