-- What a payer sends a pharmacy for a period, as tables.
use Rattle.std.specs.Prelude.{◌≡◌, ℕ, ◌+◌, ◌++◌, List, [], ◌∷◌, Option, Some, codes, option_map, length, None}
use Rattle.std.specs.Option.{option_or}
use Rattle.table_text.specs.Members.{Number, Text}
use Rattle.table_text.specs.Rows.{head_text}
use Rattle.claim_reports.specs.declared.ledger.Move.{Move}
use Rattle.claim_reports.specs.declared.rulings.Remittance.{Remittance}
use Rattle.claim_reports.specs.declared.rulings.RulingColumns.{RulingColumns}
use Rattle.claim_reports.specs.declared.statement.Numbers.{Numbers}
use Rattle.claim_reports.specs.Ledger.{back_cents, moves_cause}
use Rattle.claim_reports.specs.Causes.{Cause, bad_at, records_of, uneven}
use Rattle.claim_reports.specs.Rulings.{Ruling, AreRulings, moves_before, moves_behind, rulings_behind, Placed, placed_behind, placed_from, ruling_columns_in, ruling_columns_missing, rulings_at, rulings_bad}
use Rattle.claim_reports.specs.Statement.{IsSums, Title, line_names, line_told, numbers_bad, numbers_of, settling_cause}
use Rattle.claim_reports.specs.Tables.{AreRecordsOf, cell, ◌>>=◌, rows_of}

-- ---- a row for each ruling of the period

-- the line of a ruling that takes back this many cents
abbrev pub line_with : RulingColumns → Remittance → ℕ → Ruling → Numbers → List ℕ
line_with c asked back r n =
    line_told asked.payer asked.pharmacy (record { name = codes "ruling"; value = Number r.number }) n r.moves (Text (cell c.day.place r.row)) back

abbrev pub line_text : RulingColumns → Remittance → ℕ → Ruling → Option (List ℕ)
line_text c asked back r = option_map (line_with c asked back r) (numbers_of c r.row)

-- the lines of rulings after others: a reversal takes back what was paid under its authorization by the rulings up to there
abbrev pub lines_text : RulingColumns → Remittance → List Move → List Ruling → Option (List ℕ)
lines_text c asked before [] = Some []
lines_text c asked before (r ∷ more) = do
  line ← line_text c asked (back_cents (before ++ r.moves ∷ []) r.moves) r
  others ← lines_text c asked (before ++ r.moves ∷ []) more
  Some (line ++ others)

-- a text goes on with the line of a ruling; with those of rulings
abbrev pub AddsLine : RulingColumns → Remittance → ℕ → Ruling → List ℕ → List ℕ → Type 0
AddsLine c asked back r old new = (text : List ℕ) × (line_text c asked back r ≡ Some text) × (new ≡ old ++ text)

abbrev pub AddsLines : RulingColumns → Remittance → List Move → List Ruling → List ℕ → List ℕ → Type 0
AddsLines c asked before rulings old new = (text : List ℕ) × (lines_text c asked before rulings ≡ Some text) × (new ≡ old ++ text)

-- a text has a row for each ruling of a period by which a payer moved a pharmacy's money
pub record IsRemitted (table : List ℕ) (asked : Remittance) (text : List ℕ) : Type 0 where
  pub records : List (List (List ℕ))
  pub are : AreRecordsOf table records
  pub columns : RulingColumns
  pub have : columns ≡ ruling_columns_in records
  pub rulings : List Ruling
  pub up_to : ℕ
  pub read : AreRulings asked records columns rulings up_to
  pub lines : List ℕ
  pub of : lines_text columns asked (moves_before asked.after rulings) (rulings_behind asked.after rulings) ≡ Some lines
  pub told : text ≡ head_text (line_names (codes "ruling")) ++ lines

-- ---- the sums of the period

abbrev pub title_of : Remittance → ℕ → Title
title_of asked up_to = record {
  whose = record { name = codes "payer"; value = Number asked.payer };
  pharmacy = asked.pharmacy;
  first = record { name = codes "after"; value = Number asked.after };
  last = record { name = codes "up_to"; value = Number up_to };
}

-- a text is the sums of a period
pub record IsSummed (table : List ℕ) (asked : Remittance) (text : List ℕ) : Type 0 where
  pub records : List (List (List ℕ))
  pub are : AreRecordsOf table records
  pub columns : RulingColumns
  pub have : columns ≡ ruling_columns_in records
  pub rulings : List Ruling
  pub up_to : ℕ
  pub read : AreRulings asked records columns rulings up_to
  pub sums : IsSums (title_of asked up_to) (moves_before asked.after rulings) (moves_behind asked.after rulings) asked.owed text

-- ---- what is wrong with them

-- what is wrong with rulings after others, of which the first is the payment or reversal of this number: with what it moves, then with its row
unfoldable pub lines_cause : RulingColumns → List Move → ℕ → List Placed → Option Cause
lines_cause c before number [] = None
lines_cause c before number (p ∷ more) =
    option_or (moves_cause before number 0 0 (p.ruling.moves ∷ [])) (option_or (bad_at p.table p.at (numbers_bad c p.ruling.row))
    (lines_cause c (before ++ p.ruling.moves ∷ []) (number + 1) more))

-- with the rulings before a period, then with those in it
abbrev pub remitting_cause : RulingColumns → List Move → List Placed → Option Cause
remitting_cause c before ps = option_or (moves_cause [] 1 0 0 before) (lines_cause c before (length before + 1) ps)

-- what is wrong with a table of rows
abbrev pub rows_cause : Remittance → List (List (List ℕ)) → Option Cause
rows_cause asked records =
    option_or (uneven 1 records) (option_or (ruling_columns_missing 1 records) (rulings_bad 1 (ruling_columns_in records) asked 0 1 (rows_of records)))

-- the rulings of a table in which nothing is wrong
abbrev pub rulings_placed : Remittance → List (List (List ℕ)) → List Placed
rulings_placed asked records = placed_from 1 (ruling_columns_in records) asked 0 1 (rows_of records)

-- why there are no lines: what is wrong with the table; else with its rulings
abbrev pub remitted_cause : List ℕ → Remittance → Option Cause
remitted_cause table asked =
    let records = records_of table in
    let ps = rulings_placed asked records in
    option_or (rows_cause asked records)
    (remitting_cause (ruling_columns_in records) (moves_before asked.after (rulings_at ps)) (placed_behind asked.after ps))

-- why there are no sums: what is wrong with the table; else with its rulings or their sums
abbrev pub summed_cause : List ℕ → Remittance → Option Cause
summed_cause table asked =
    let records = records_of table in
    let rulings = rulings_at (rulings_placed asked records) in
    option_or (rows_cause asked records) (settling_cause (moves_before asked.after rulings) (moves_behind asked.after rulings) asked.owed)
