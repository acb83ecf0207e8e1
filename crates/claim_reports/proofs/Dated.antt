-- What is wrong with a remittance of days, of a table that was read.
use Rattle.std.proofs.Common.{◌≡◌, ℕ, ◌++◌, Bool, List, refl, ap, sym, ◌∙◌}
use Rattle.std.specs.Prelude.{Option, Some, None, Result, Ok, Err, IfOk, codes, option_map, unwrap_or}
use Rattle.std.specs.Option.{option_or}
use Rattle.std.specs.BTreeMap.{get}
use Rattle.std.specs.Ordering.{nat_cmp}
use Rattle.table_text.specs.Rows.{head_text}
use Rattle.claim_reports.specs.declared.daily.DailyRemittance.{DailyRemittance}
use Rattle.claim_reports.specs.declared.daily.DailyRuling.{DailyRuling}
use Rattle.claim_reports.specs.declared.ledger.LedgerPayment.{LedgerPayment}
use Rattle.claim_reports.specs.declared.ledger.Ledger.{Ledger}
use Rattle.claim_reports.specs.declared.ledger.Move.{Move}
use Rattle.claim_reports.specs.Causes.{records_of}
use Rattle.claim_reports.specs.Daily.{AreDaily, IsDailyLines, IsDailySums, daily_lines, daily_lines_cause, daily_of, daily_sums_cause, daily_table_cause, days_title, earlier, moves_of, within}
use Rattle.claim_reports.specs.Ledger.{IsLedgerOf, cents_in, is_reversed, paid_for, period_cause}
use Rattle.claim_reports.specs.Statement.{IsSums, Title, line_names, settling_cause}

-- of a table that was read, in which nothing is wrong, with its rulings, what those of earlier days moved, and those of the days
pub lines_are : (text : List ℕ) (asked : DailyRemittance) (rulings kept : List DailyRuling) (before : List Move)
    → daily_of asked (records_of text) ≡ rulings → daily_table_cause asked (records_of text) ≡ None → before ≡ earlier asked rulings → kept ≡ within asked rulings
    → period_cause before (moves_of kept) ≡ daily_lines_cause text asked
lines_are text asked rulings kept before all good before_is kept_is =
    sym (λ j. option_or (good j) (period_cause ((ap (earlier asked) all ∙ sym before_is) j) (moves_of ((ap (within asked) all ∙ sym kept_is) j))))

pub sums_are : (text : List ℕ) (asked : DailyRemittance) (rulings kept : List DailyRuling) (before moves : List Move)
    → daily_of asked (records_of text) ≡ rulings → daily_table_cause asked (records_of text) ≡ None → before ≡ earlier asked rulings → kept ≡ within asked rulings → moves ≡ moves_of kept
    → settling_cause before moves asked.owed ≡ daily_sums_cause text asked
sums_are text asked rulings kept before moves all good before_is kept_is moves_is =
    ap (λ (ms : List Move). settling_cause before ms asked.owed) moves_is
    ∙ sym (λ j. option_or (good j) (settling_cause ((ap (earlier asked) all ∙ sym before_is) j) (moves_of ((ap (within asked) all ∙ sym kept_is) j)) asked.owed))

-- what is told of them
pub lined_is : {A E : Type 0} (items : A → List ℕ) (r : Result A E) (table : List ℕ) (asked : DailyRemittance) (rulings kept : List DailyRuling) (before : List Move)
    → AreDaily asked table rulings → before ≡ earlier asked rulings → kept ≡ within asked rulings
    → IfOk r (λ text. items text ≡ head_text (line_names (codes "ruled_on")) ++ daily_lines asked.pharmacy (before ++ moves_of kept) kept) → IfOk r (λ text. IsDailyLines table asked (items text))
lined_is items (Ok text) table asked rulings kept before read before_is kept_is told =
    record { rulings = rulings; read = read; told = told ∙ (λ i. head_text (line_names (codes "ruled_on")) ++ daily_lines asked.pharmacy (before_is i ++ moves_of (kept_is i)) (kept_is i)) }
lined_is items (Err e) table asked rulings kept before read before_is kept_is told = tt

pub summed_is : {A E : Type 0} (items : A → List ℕ) (r : Result A E) (table : List ℕ) (asked : DailyRemittance) (rulings kept : List DailyRuling) (before moves : List Move) (title : Title)
    → AreDaily asked table rulings → before ≡ earlier asked rulings → kept ≡ within asked rulings → moves ≡ moves_of kept → title ≡ days_title asked
    → IfOk r (λ text. IsSums title before moves asked.owed (items text)) → IfOk r (λ text. IsDailySums table asked (items text))
summed_is items (Ok text) table asked rulings kept before moves title read before_is kept_is moves_is titled sums =
    record { rulings = rulings; read = read; sums = rw (titled, before_is, moves_is, kept_is) at sums }
summed_is items (Err e) table asked rulings kept before moves title read before_is kept_is moves_is titled sums = tt

-- what a ledger has of an authorization is what was paid under it
cents_of_held : (o : Option ℕ) (gone : Bool) → cents_in (option_map (λ (c : ℕ). let h : LedgerPayment = record { cents = c; reversed = gone } in h) o) ≡ unwrap_or o 0
cents_of_held None gone = refl
cents_of_held (Some c) gone = refl

pub cents_are : (all : List Move) (l : Ledger) (a : ℕ) → IsLedgerOf all l → cents_in (get nat_cmp l.payments a) ≡ unwrap_or (paid_for a all) 0
cents_are all l a is = ap cents_in (is.at a) ∙ cents_of_held (paid_for a all) (is_reversed a all)
