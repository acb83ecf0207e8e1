-- A report on tables, whichever it is.
use Rattle.std.specs.Prelude.{◌≡◌, ℕ, Bool, true, List, [], Option, get_or, map}
use Rattle.std.specs.Global.{Vec}
use Rattle.claim_reports.specs.declared.reporting.Report.{Report}
use Rattle.claim_reports.specs.declared.reporting.Report.TheVariants.{Totals, Lines, Sums, DailyLines, DailySums, Compare, Receipts, Ruled}
use Rattle.claim_reports.specs.Causes.{Cause}
use Rattle.claim_reports.specs.Compared.{IsCompared, compared_cause}
use Rattle.claim_reports.specs.Daily.{IsDailyLines, IsDailySums, daily_lines_cause, daily_sums_cause}
use Rattle.claim_reports.specs.Received.{IsReceived, received_cause}
use Rattle.claim_reports.specs.Remitted.{IsRemitted, IsSummed, remitted_cause, summed_cause}
use Rattle.claim_reports.specs.Totalled.{IsTotalled, totals_cause}
use Rattle.claim_reports.specs.WhenRuled.{IsRuledTable, ruled_cause}

-- the bytes of each table, and of the one at a place
abbrev pub tables_of : List (Vec ℕ) → List (List ℕ)
tables_of tables = map (λ (table : Vec ℕ). table.items) tables

abbrev pub table_at : List (List ℕ) → ℕ → List ℕ
table_at tables place = get_or tables place []

-- a text is this report of tables. A comparison has the tables `counted`, `entries` and `payments`, and is good where its sides agree; so are receipts, which
-- have receipts, `entries` and `packets`. The others have no sides
abbrev pub IsReportOf : Report → List (List ℕ) → List ℕ → Bool → Type 0
IsReportOf (Totals by days choice) tables text good = IsTotalled (table_at tables 0) by days choice text × (good ≡ true)
IsReportOf (Lines asked) tables text good = IsRemitted (table_at tables 0) asked text × (good ≡ true)
IsReportOf (Sums asked) tables text good = IsSummed (table_at tables 0) asked text × (good ≡ true)
IsReportOf (DailyLines asked) tables text good = IsDailyLines (table_at tables 0) asked text × (good ≡ true)
IsReportOf (DailySums asked) tables text good = IsDailySums (table_at tables 0) asked text × (good ≡ true)
IsReportOf (Compare between) tables text good = IsCompared (table_at tables 0) (table_at tables 1) (table_at tables 2) between text good
IsReportOf (Receipts pharmacy) tables text good = IsReceived (table_at tables 0) (table_at tables 1) (table_at tables 2) pharmacy text good
IsReportOf Ruled tables text good = IsRuledTable (table_at tables 0) (table_at tables 1) text × (good ≡ true)

-- what is wrong with them first
abbrev pub report_cause : Report → List (List ℕ) → Option Cause
report_cause (Totals by days choice) tables = totals_cause (table_at tables 0) by days choice
report_cause (Lines asked) tables = remitted_cause (table_at tables 0) asked
report_cause (Sums asked) tables = summed_cause (table_at tables 0) asked
report_cause (DailyLines asked) tables = daily_lines_cause (table_at tables 0) asked
report_cause (DailySums asked) tables = daily_sums_cause (table_at tables 0) asked
report_cause (Compare between) tables = compared_cause (table_at tables 0) (table_at tables 1) (table_at tables 2) between
report_cause (Receipts pharmacy) tables = received_cause (table_at tables 0) (table_at tables 1) (table_at tables 2) pharmacy
report_cause Ruled tables = ruled_cause (table_at tables 0) (table_at tables 1)
