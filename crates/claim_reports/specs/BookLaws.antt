-- What is true of the books of a payer together.
use Rattle.std.specs.Prelude.{◌≡◌, ℕ, ◌+◌, ◌&&◌, ◌||◌, Bool, true, false, List, [], ◌∷◌, Option, Some, None, filter}
use Rattle.claim_reports.specs.declared.books.Span.{Span}
use Rattle.claim_reports.specs.declared.choice.Choice.{Choice}
use Rattle.claim_reports.specs.declared.choice.Paid.{Paid}
use Rattle.claim_reports.specs.declared.daily.DailyColumns.{DailyColumns}
use Rattle.claim_reports.specs.declared.daily.DailyRemittance.{DailyRemittance}
use Rattle.claim_reports.specs.declared.daily.DailyRuling.{DailyRuling}
use Rattle.claim_reports.specs.declared.totals.By.{By}
use Rattle.claim_reports.specs.declared.totals.Sums.{Sums}
use Rattle.claim_reports.specs.Daily.{daily_in, earlier, moves_of, moves_up_to, within}
use Rattle.claim_reports.specs.Ledger.{paid_total, standing_total, taken_back}
use Rattle.claim_reports.specs.Statement.{auth_of}
use Rattle.claim_reports.specs.Shelves.{has}
use Rattle.claim_reports.specs.Tables.{given_by}
use Rattle.claim_reports.specs.Totals.{is_chosen, sums_of, sums_or_none, total_at}

-- books are these and those, and none of them is both
pub record AreSplit (all these those : List Span) : Type 0 where
  pub each : (number : ℕ) → has all number ≡ (has these number || has those number)
  pub apart : (number : ℕ) → (has these number && has those number) ≡ false

-- ---- totals

-- a choice of these books, and one of all
abbrev pub of_books : Choice → List Span → Choice
of_books c books = record { books = Some books; pharmacy = c.pharmacy; from = c.from; to = c.to }

abbrev pub of_all : Choice → Choice
of_all c = record { books = None; pharmacy = c.pharmacy; from = c.from; to = c.to }

-- payments of these books
abbrev pub paid_of : List Span → List Paid → List Paid
paid_of books paid = filter (λ (p : Paid). has books p.payer) paid

-- sums beside others
abbrev pub added : Sums → Sums → Sums
added s t = record {
  count = s.count + t.count;
  cents = s.cents + t.cents;
  reversed_count = s.reversed_count + t.reversed_count;
  reversed_cents = s.reversed_cents + t.reversed_cents;
}

-- the sums of a number over the payments of these books that are chosen
abbrev pub total_over : By → Option ℕ → Choice → List Paid → List Span → Sums
total_over by key c paid books = sums_or_none (total_at by key (filter (is_chosen (of_books c books)) paid))

-- ---- remittances

-- a remittance of these books
abbrev pub remitted_of : DailyRemittance → List Span → DailyRemittance
remitted_of asked books = record { books = books; pharmacy = asked.pharmacy; from = asked.from; to = asked.to; owed = asked.owed }

-- rulings of these books
abbrev pub rulings_of : List Span → List DailyRuling → List DailyRuling
rulings_of books rulings = filter (λ (r : DailyRuling). has books r.payer) rulings

-- each authorization is of the book that ruled
abbrev pub AreOwned : (ℕ → ℕ) → List DailyRuling → Type 0
AreOwned owner [] = Unit {0}
AreOwned owner (r ∷ more) = (owner (auth_of r.moves) ≡ r.payer) × AreOwned owner more

-- the four figures of a remittance over rulings of these books
abbrev pub stood_over : DailyRemittance → List DailyRuling → List Span → ℕ
stood_over asked rulings books = standing_total (earlier asked (rulings_of books rulings))

abbrev pub paid_over : DailyRemittance → List DailyRuling → List Span → ℕ
paid_over asked rulings books = paid_total (moves_of (within asked (rulings_of books rulings)))

abbrev pub back_over : DailyRemittance → List DailyRuling → List Span → ℕ
back_over asked rulings books = taken_back (moves_up_to asked (rulings_of books rulings)) (moves_of (within asked (rulings_of books rulings)))

abbrev pub stands_over : DailyRemittance → List DailyRuling → List Span → ℕ
stands_over asked rulings books = standing_total (moves_up_to asked (rulings_of books rulings))

-- those of all books are those of these and of those together
pub record RemitTogether (asked : DailyRemittance) (rulings : List DailyRuling) (all these those : List Span) : Type 0 where
  pub stood : stood_over asked rulings all ≡ stood_over asked rulings these + stood_over asked rulings those
  pub paid : paid_over asked rulings all ≡ paid_over asked rulings these + paid_over asked rulings those
  pub back : back_over asked rulings all ≡ back_over asked rulings these + back_over asked rulings those
  pub stands : stands_over asked rulings all ≡ stands_over asked rulings these + stands_over asked rulings those
