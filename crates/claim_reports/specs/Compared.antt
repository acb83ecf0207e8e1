-- What a pharmacy counts beside what a payer paid, of tables, as a table.
use Rattle.std.specs.Prelude.{◌≡◌, ℕ, ◌==◌, ◌++◌, Bool, true, false, cond, if◌then◌else◌, List, [], ◌∷◌, Option, Some, None, option_map, unwrap_or, codes}
use Rattle.std.specs.Option.{option_or}
use Rattle.std.specs.List.{flat_map, list_all}
use Rattle.table_text.specs.Members.{Row, Text, Flag, number_or_nothing}
use Rattle.table_text.specs.Rows.{head_text, csv_row}
use Rattle.claim_reports.specs.declared.differences.Figures.{Figures}
use Rattle.claim_reports.specs.declared.differences.Counted.{Counted}
use Rattle.claim_reports.specs.declared.differences.Made.{Made}
use Rattle.claim_reports.specs.declared.differences.Entry.{Entry}
use Rattle.claim_reports.specs.declared.differences.Difference.{Difference}
use Rattle.claim_reports.specs.declared.differences.Difference.TheVariants.{NotPaid, Differs, Reversed, NotCounted}
use Rattle.claim_reports.specs.declared.sides.Between.{Between}
use Rattle.claim_reports.specs.declared.sides.Parties.{Parties}
use Rattle.claim_reports.specs.declared.sides.FigureColumns.{FigureColumns}
use Rattle.claim_reports.specs.declared.sides.CountedColumns.{CountedColumns}
use Rattle.claim_reports.specs.declared.sides.EntryColumns.{EntryColumns}
use Rattle.claim_reports.specs.declared.sides.MadeColumns.{MadeColumns}
use Rattle.claim_reports.specs.declared.naming.Name.TheVariants as name
use Rattle.claim_reports.specs.Shelves.{has, is_in}
use Rattle.claim_reports.specs.Causes.{Cause, bad_if, bad_number, bad_optional, bad_word, column_in, is_this, missing, records_of, table_cause}
use Rattle.claim_reports.specs.Digits.{filled}
use Rattle.claim_reports.specs.Tables.{AreGiven, column_of, number_in, optional_in, word_in, ◌>>=◌}
use Rattle.claim_reports.specs.Comparing.{Findings}

-- ---- what the three tables say

-- the columns of the payer and the pharmacy of a payment, those of its figures, and those of the three tables
abbrev pub parties_in : List (List (List ℕ)) → Parties
parties_in records = record { payer = column_in records name.Payer; pharmacy = column_in records name.Pharmacy }

abbrev pub figure_columns_in : List (List (List ℕ)) → FigureColumns
figure_columns_in records = record {
  prescription = column_in records name.Prescription;
  fill = column_in records name.Fill;
  cost = column_in records name.CostCents;
  fee = column_in records name.FeeCents;
  copay = column_in records name.CopayCents;
  cents = column_in records name.PaidCents;
}

abbrev pub counted_columns_in : List (List (List ℕ)) → CountedColumns
counted_columns_in records = record { parties = parties_in records; auth = column_in records name.Authorization; figures = figure_columns_in records }

abbrev pub entry_columns_in : List (List (List ℕ)) → EntryColumns
entry_columns_in records = record { pharmacy = column_in records name.Pharmacy; number = column_in records name.Number; state = column_in records name.State }

abbrev pub made_columns_in : List (List (List ℕ)) → MadeColumns
made_columns_in records = record {
  parties = parties_in records;
  auth = column_in records name.Authorization;
  number = column_in records name.Number;
  figures = figure_columns_in records;
  reversed_by = column_in records name.ReversedBy;
}

-- a row is of one of the books, and then of the pharmacy
abbrev pub is_between : Parties → Between → List (List ℕ) → Option Bool
is_between c b row = do
  payer ← number_in c.payer.place row
  if has b.books payer then option_map (λ (pharmacy : ℕ). pharmacy == b.pharmacy) (number_in c.pharmacy.place row) else Some false

-- the figures of a row
unfoldable pub figures_in : FigureColumns → List (List ℕ) → Option Figures
figures_in c row = do
  prescription ← number_in c.prescription.place row
  fill ← number_in c.fill.place row
  cost ← number_in c.cost.place row
  fee ← number_in c.fee.place row
  copay ← number_in c.copay.place row
  cents ← number_in c.cents.place row
  Some (record { prescription = prescription; fill = fill; cost = cost; fee = fee; copay = copay; cents = cents })

-- the payment of a row
abbrev pub counted_payment : CountedColumns → List (List ℕ) → Option Counted
counted_payment c row = do
  auth ← number_in c.auth.place row
  figures ← figures_in c.figures row
  Some (record { auth = auth; figures = figures })

abbrev pub made_payment : MadeColumns → List (List ℕ) → Option Made
made_payment c row = do
  auth ← number_in c.auth.place row
  number ← number_in c.number.place row
  figures ← figures_in c.figures row
  reversed_by ← optional_in c.reversed_by.place row
  Some (record { auth = auth; number = number; figures = figures; reversed_by = reversed_by })

abbrev pub entry_of : EntryColumns → List (List ℕ) → Option Entry
entry_of c row = do
  number ← number_in c.number.place row
  is_open ← word_in c.state.place (codes "answered") (codes "open") row
  Some (record { number = number; «open» = is_open })

-- it is given where it is wanted
abbrev pub wanted : {A : Type 0} → Bool → Option A → Option (Option A)
wanted false o = Some None
wanted true o = option_map Some o

unfoldable pub counted_in : CountedColumns → Between → List (List ℕ) → Option (Option Counted)
counted_in c b row = do
  is ← is_between c.parties b row
  wanted is (counted_payment c row)

unfoldable pub made_in : MadeColumns → Between → List (List ℕ) → Option (Option Made)
made_in c b row = do
  is ← is_between c.parties b row
  wanted is (made_payment c row)

unfoldable pub entry_in : EntryColumns → ℕ → List (List ℕ) → Option (Option Entry)
entry_in c pharmacy row = do
  of ← number_in c.pharmacy.place row
  wanted (of == pharmacy) (entry_of c row)

-- the payments of a table that a pharmacy counts of a payer; its entries; the payments that the payer made it
abbrev pub AreCounted : Between → List ℕ → List Counted → Type 0
AreCounted b table counted = AreGiven counted_columns_in (λ (c : CountedColumns). counted_in c b) table counted

abbrev pub AreEntries : ℕ → List ℕ → List Entry → Type 0
AreEntries pharmacy table entries = AreGiven entry_columns_in (λ (c : EntryColumns). entry_in c pharmacy) table entries

abbrev pub AreMade : Between → List ℕ → List Made → Type 0
AreMade b table made = AreGiven made_columns_in (λ (c : MadeColumns). made_in c b) table made

-- ---- what is wrong with them

-- the first column that is not there
unfoldable pub parties_missing : ℕ → List (List (List ℕ)) → Option Cause
parties_missing table records = option_or (missing table records name.Payer) (missing table records name.Pharmacy)

unfoldable pub figures_missing : ℕ → List (List (List ℕ)) → Option Cause
figures_missing table records =
    option_or (missing table records name.Prescription) (option_or (missing table records name.Fill) (option_or (missing table records name.CostCents)
    (option_or (missing table records name.FeeCents) (option_or (missing table records name.CopayCents) (missing table records name.PaidCents)))))

unfoldable pub counted_missing : ℕ → List (List (List ℕ)) → Option Cause
counted_missing table records = option_or (parties_missing table records) (option_or (missing table records name.Authorization) (figures_missing table records))

unfoldable pub entry_missing : ℕ → List (List (List ℕ)) → Option Cause
entry_missing table records = option_or (missing table records name.Pharmacy) (option_or (missing table records name.Number) (missing table records name.State))

unfoldable pub made_missing : ℕ → List (List (List ℕ)) → Option Cause
made_missing table records =
    option_or (parties_missing table records) (option_or (missing table records name.Authorization) (option_or (missing table records name.Number)
    (option_or (figures_missing table records) (missing table records name.ReversedBy))))

-- the first bad value of a row: of its payer; of a row of the books that of its pharmacy; of a row of both the others
unfoldable pub between_bad : Parties → Between → List (List ℕ) → Option (List ℕ)
between_bad c b row = option_or (bad_number c.payer row) (bad_if (is_in b.books (number_in c.payer.place row)) (bad_number c.pharmacy row))

unfoldable pub figures_bad : FigureColumns → List (List ℕ) → Option (List ℕ)
figures_bad c row =
    option_or (bad_number c.prescription row) (option_or (bad_number c.fill row) (option_or (bad_number c.cost row)
    (option_or (bad_number c.fee row) (option_or (bad_number c.copay row) (bad_number c.cents row)))))

unfoldable pub counted_values_bad : CountedColumns → List (List ℕ) → Option (List ℕ)
counted_values_bad c row = option_or (bad_number c.auth row) (figures_bad c.figures row)

unfoldable pub made_values_bad : MadeColumns → List (List ℕ) → Option (List ℕ)
made_values_bad c row =
    option_or (bad_number c.auth row) (option_or (bad_number c.number row) (option_or (figures_bad c.figures row) (bad_optional c.reversed_by row)))

unfoldable pub entry_values_bad : EntryColumns → List (List ℕ) → Option (List ℕ)
entry_values_bad c row = option_or (bad_number c.number row) (bad_word c.state (codes "answered") (codes "open") row)

unfoldable pub counted_bad : Between → CountedColumns → List (List ℕ) → Option (List ℕ)
counted_bad b c row = option_or (between_bad c.parties b row) (bad_if (unwrap_or (is_between c.parties b row) false) (counted_values_bad c row))

unfoldable pub made_bad : Between → MadeColumns → List (List ℕ) → Option (List ℕ)
made_bad b c row = option_or (between_bad c.parties b row) (bad_if (unwrap_or (is_between c.parties b row) false) (made_values_bad c row))

unfoldable pub entry_bad : ℕ → EntryColumns → List (List ℕ) → Option (List ℕ)
entry_bad pharmacy c row = option_or (bad_number c.pharmacy row) (bad_if (is_this (number_in c.pharmacy.place row) pharmacy) (entry_values_bad c row))

-- what is wrong with each of the three tables
abbrev pub counted_cause : Between → List (List (List ℕ)) → Option Cause
counted_cause b records = table_cause 1 (counted_missing 1 records) (counted_bad b (counted_columns_in records)) records

abbrev pub entries_cause : ℕ → List (List (List ℕ)) → Option Cause
entries_cause pharmacy records = table_cause 2 (entry_missing 2 records) (entry_bad pharmacy (entry_columns_in records)) records

abbrev pub made_cause : Between → List (List (List ℕ)) → Option Cause
made_cause b records = table_cause 3 (made_missing 3 records) (made_bad b (made_columns_in records)) records

-- why there is no comparison of them: what is wrong with the first; else with the second; else with the third
abbrev pub compared_cause : List ℕ → List ℕ → List ℕ → Between → Option Cause
compared_cause counted entries payments b =
    option_or (counted_cause b (records_of counted)) (option_or (entries_cause b.pharmacy (records_of entries)) (made_cause b (records_of payments)))

-- ---- what is told of them

-- a figure that is another: its name, and what both say; and none
pub record Apart : Type 0 where
  pub name : List ℕ
  pub counted : Option ℕ
  pub paid : Option ℕ

abbrev pub alike : Apart
alike = record { name = []; counted = None; paid = None }

abbrev pub apart : List ℕ → ℕ → ℕ → Apart → Apart
apart name counted paid others = cond (counted == paid) others (record { name = name; counted = Some counted; paid = Some paid })

-- the first figure that is another: of the total, of the amounts that make it, and of the fill
unfoldable pub first_apart : Figures → Figures → Apart
first_apart a b =
    apart (codes "total") a.cents b.cents (apart (codes "cost") a.cost b.cost (apart (codes "fee") a.fee b.fee
    (apart (codes "copay") a.copay b.copay (apart (codes "prescription") a.prescription b.prescription (apart (codes "fill") a.fill b.fill alike)))))

-- the digits of an authorization: its number, filled with zeros to 16 digits
abbrev pub auth_digits : ℕ → List ℕ
auth_digits number = filled 16 number

-- the names of the columns
abbrev pub finding_names : List (List ℕ)
finding_names =
    codes "finding" ∷ codes "authorization" ∷ codes "counted_cents" ∷ codes "paid_cents" ∷ codes "on_its_way"
    ∷ codes "figure" ∷ codes "counted_figure" ∷ codes "paid_figure" ∷ []

-- what a row says
pub record Shown : Type 0 where
  pub word : List ℕ
  pub auth : ℕ
  pub counted : Option ℕ
  pub paid : Option ℕ
  pub on_its_way : Bool
  pub apart : Apart

unfoldable pub shown_row : Shown → Row
shown_row s =
    record { name = codes "finding"; value = Text s.word }
    ∷ record { name = codes "authorization"; value = Text (auth_digits s.auth) }
    ∷ record { name = codes "counted_cents"; value = number_or_nothing s.counted }
    ∷ record { name = codes "paid_cents"; value = number_or_nothing s.paid }
    ∷ record { name = codes "on_its_way"; value = Flag s.on_its_way }
    ∷ record { name = codes "figure"; value = Text s.apart.name }
    ∷ record { name = codes "counted_figure"; value = number_or_nothing s.apart.counted }
    ∷ record { name = codes "paid_figure"; value = number_or_nothing s.apart.paid }
    ∷ []

-- what is shown of a finding
abbrev pub shown : Difference → Shown
shown (NotPaid auth f) = record { word = codes "not_paid"; auth = auth; counted = Some f.cents; paid = None; on_its_way = false; apart = alike }
shown (Differs auth f g) = record { word = codes "differs"; auth = auth; counted = Some f.cents; paid = Some g.cents; on_its_way = false; apart = first_apart f g }
shown (Reversed auth f is) = record { word = codes "reversed"; auth = auth; counted = Some f.cents; paid = None; on_its_way = is; apart = alike }
shown (NotCounted auth f is) = record { word = codes "not_counted"; auth = auth; counted = None; paid = Some f.cents; on_its_way = is; apart = alike }

-- a row for each finding
abbrev pub finding_rows : List Difference → List ℕ
finding_rows found = flat_map (λ (f : Difference). csv_row (shown_row (shown f))) found

-- the answer that would settle it may still be on its way
abbrev pub is_on_its_way : Difference → Bool
is_on_its_way f = (shown f).on_its_way

-- a text is what is found of three tables, and whether nothing differs but what may still be on its way
pub record IsCompared (counted entries payments : List ℕ) (between : Between) (text : List ℕ) (agrees : Bool) : Type 0 where
  pub paid : List Counted
  pub counts : AreCounted between counted paid
  pub journal : List Entry
  pub enters : AreEntries between.pharmacy entries journal
  pub book : List Made
  pub makes : AreMade between payments book
  pub found : List Difference
  pub finds : Findings paid journal book found
  pub told : text ≡ head_text finding_names ++ finding_rows found
  pub agreed : agrees ≡ list_all is_on_its_way found
