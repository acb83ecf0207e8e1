-- What is wrong with a remittance, of a table that was read.
use Rattle.std.proofs.Common.{◌≡◌, ℕ, ◌+◌, List, ◌++◌, map, sym, ap, ◌∙◌}
use Rattle.std.specs.Prelude.{Option, None}
use Rattle.std.specs.Option.{option_or}
use Rattle.claim_reports.specs.declared.fault.ReportFault.{ReportFault}
use Rattle.claim_reports.specs.declared.ledger.Move.{Move}
use Rattle.claim_reports.specs.declared.rulings.Line.{Line}
use Rattle.claim_reports.specs.declared.rulings.Remittance.{Remittance}
use Rattle.claim_reports.specs.declared.rulings.RulingColumns.{RulingColumns}
use Rattle.claim_reports.specs.Causes.{Tells, records_of, uneven}
use Rattle.claim_reports.specs.Ledger.{over, period_cause, taken_back}
use Rattle.claim_reports.specs.Remitted.{remitted_cause, remitting_cause, rows_cause, rulings_placed, summed_cause}
use Rattle.claim_reports.specs.Rulings.{Ruling, moves_before, moves_behind, placed_behind, placed_from, ruling_columns_in, ruling_columns_missing, rulings_at, rulings_bad, rulings_behind}
use Rattle.claim_reports.specs.RulingsSeen.{lines_placed, lines_seen}
use Rattle.claim_reports.specs.Statement.{settling_cause}
use Rattle.claim_reports.specs.Tables.{rows_of}
use Rattle.claim_reports.proofs.Telling.{neither, tells_same, tells_then}
use Rattle.claim_reports.proofs.WrongLines.{seen_is}

-- a table was read, in which nothing is wrong, and these are its rulings
pub record IsReadTable (text : List ℕ) (asked : Remittance) (n : ℕ) (held : List (List (List ℕ))) (columns : RulingColumns) (lines : List Line) : Type 0 where
  pub are : records_of text ≡ held
  pub even : uneven 1 (records_of text) ≡ None
  pub number : n ≡ 1
  pub columns_are : columns ≡ ruling_columns_in held
  pub there : ruling_columns_missing n held ≡ None
  pub good : rulings_bad n columns asked 0 1 (rows_of held) ≡ None
  pub placed : lines_placed lines ≡ placed_from n columns asked 0 1 (rows_of held)

columns_is : (text : List ℕ) (asked : Remittance) (n : ℕ) (held : List (List (List ℕ))) (columns : RulingColumns) (lines : List Line) → IsReadTable text asked n held columns lines → ruling_columns_in (records_of text) ≡ columns
columns_is text asked n held columns lines is = ap ruling_columns_in is.are ∙ sym is.columns_are

rows_good : (text : List ℕ) (asked : Remittance) (n : ℕ) (held : List (List (List ℕ))) (columns : RulingColumns) (lines : List Line) → IsReadTable text asked n held columns lines → rows_cause asked (records_of text) ≡ None
rows_good text asked n held columns lines is =
    (λ j. option_or (uneven 1 (records_of text)) (option_or (ruling_columns_missing (sym is.number j) (is.are j))
    (rulings_bad (sym is.number j) (columns_is text asked n held columns lines is j) asked 0 1 (rows_of (is.are j)))))
    ∙ neither _ _ is.even (neither _ _ is.there is.good)

placed_is : (text : List ℕ) (asked : Remittance) (n : ℕ) (held : List (List (List ℕ))) (columns : RulingColumns) (lines : List Line) → IsReadTable text asked n held columns lines
    → rulings_placed asked (records_of text) ≡ lines_placed lines
placed_is text asked n held columns lines is =
    (λ j. placed_from (sym is.number j) (columns_is text asked n held columns lines is j) asked 0 1 (rows_of (is.are j))) ∙ sym is.placed

pub remitted_is : (text : List ℕ) (asked : Remittance) (n : ℕ) (held : List (List (List ℕ))) (columns : RulingColumns) (lines behind : List Line) (before : List Move) → IsReadTable text asked n held columns lines
    → before ≡ moves_before asked.after (lines_seen lines) → lines_placed behind ≡ placed_behind asked.after (lines_placed lines)
    → remitting_cause columns before (lines_placed behind) ≡ remitted_cause text asked
remitted_is text asked n held columns lines behind before is before_is behind_is =
    let placed = placed_is text asked n held columns lines is in
    let rulings = ap (moves_before asked.after) (ap rulings_at placed ∙ seen_is lines) ∙ sym before_is in
    let later = ap (placed_behind asked.after) placed ∙ sym behind_is in
    sym (λ j. option_or (rows_good text asked n held columns lines is j) (remitting_cause (columns_is text asked n held columns lines is j) (rulings j) (later j)))

pub summed_is : (text : List ℕ) (asked : Remittance) (n : ℕ) (held : List (List (List ℕ))) (columns : RulingColumns) (lines : List Line) (behind : List Ruling) (before moves : List Move) → IsReadTable text asked n held columns lines
    → before ≡ moves_before asked.after (lines_seen lines) → behind ≡ rulings_behind asked.after (lines_seen lines) → moves ≡ map (λ (r : Ruling). r.moves) behind
    → settling_cause before moves asked.owed ≡ summed_cause text asked
summed_is text asked n held columns lines behind before moves is before_is behind_is moves_are =
    let rulings = ap rulings_at (placed_is text asked n held columns lines is) ∙ seen_is lines in
    let first = ap (moves_before asked.after) rulings ∙ sym before_is in
    let then = ap (moves_behind asked.after) rulings ∙ sym (moves_are ∙ ap (map (λ (r : Ruling). r.moves)) behind_is) in
    sym (λ j. option_or (rows_good text asked n held columns lines is j) (settling_cause (first j) (then j) asked.owed))

-- a settlement, of what was reversed in the period
pub settled_tells : (before moves : List Move) (owed reversed : ℕ) (e : ReportFault) → reversed ≡ taken_back (before ++ moves) moves → period_cause before moves ≡ None → Tells e (over (reversed + owed)) → Tells e (settling_cause before moves owed)
settled_tells before moves owed reversed e is none tells = tells_then e _ _ none (tells_same e _ _ (ap (λ (n : ℕ). over (n + owed)) (sym is)) tells)

pub settled_none : (before moves : List Move) (owed reversed : ℕ) → reversed ≡ taken_back (before ++ moves) moves → period_cause before moves ≡ None → over (reversed + owed) ≡ None → settling_cause before moves owed ≡ None
settled_none before moves owed reversed is none fits = neither _ _ none (ap (λ (n : ℕ). over (n + owed)) (sym is) ∙ fits)
