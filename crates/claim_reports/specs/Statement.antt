-- The rows of remittances, of a period by places or by days.
use Rattle.std.specs.Prelude.{◌≡◌, ℕ, ◌+◌, ◌==◌, ◌++◌, List, [], ◌∷◌, Option, Some, codes, decimal, if◌then◌else◌, min}
use Rattle.std.specs.Option.{option_or}
use Rattle.table_text.specs.Members.{Member, Row, Value, Number, Text}
use Rattle.table_text.specs.Rows.{head_text, csv_row}
use Rattle.table_text.specs.Seen.{field_seen}
use Rattle.claim_reports.specs.declared.ledger.Move.{Move}
use Rattle.claim_reports.specs.declared.ledger.Move.TheVariants.{Paid, Reversed}
use Rattle.claim_reports.specs.declared.ledger.Period.{Period}
use Rattle.claim_reports.specs.declared.rulings.RulingColumns.{RulingColumns}
use Rattle.claim_reports.specs.declared.settling.Settled.{Settled}
use Rattle.claim_reports.specs.declared.statement.Numbers.{Numbers}
use Rattle.claim_reports.specs.declared.statement.Title.{Title as Held}
use Rattle.claim_reports.specs.Digits.{filled}
use Rattle.claim_reports.specs.Ledger.{IsPeriod, over, period_cause, taken_back}
use Rattle.claim_reports.specs.Causes.{Cause, bad_number}
use Rattle.claim_reports.specs.Tables.{number_in, ◌>>=◌}

-- ---- a row for each ruling of a period

-- cents that are taken back, as a number below zero
abbrev pub below_zero : ℕ → List ℕ
below_zero cents = if cents == 0 then decimal cents else codes "-" ++ decimal cents

-- the word for a ruling, its authorization, and its cents, those of a reversal as they are taken back
abbrev pub kind_of : Move → List ℕ
kind_of (Paid auth cents) = codes "paid"
kind_of (Reversed auth) = codes "reversed"

abbrev pub auth_of : Move → ℕ
auth_of (Paid auth cents) = auth
auth_of (Reversed auth) = auth

abbrev pub cents_of : List ℕ → Move → Value
cents_of back (Paid auth cents) = Number cents
cents_of back (Reversed auth) = Text back

-- the numbers of a ruling's row; the first that is bad
abbrev pub numbers_of : RulingColumns → List (List ℕ) → Option Numbers
numbers_of c row = do
  number ← number_in c.number.place row
  transaction ← number_in c.transaction.place row
  prescription ← number_in c.prescription.place row
  Some (record { number = number; transaction = transaction; prescription = prescription })

unfoldable pub numbers_bad : RulingColumns → List (List ℕ) → Option (List ℕ)
numbers_bad c row = option_or (bad_number c.number row) (option_or (bad_number c.transaction row) (bad_number c.prescription row))

-- the names of the columns; a place or a day stands under its own
abbrev pub line_names : List ℕ → List (List ℕ)
line_names at =
    codes "payer" ∷ codes "pharmacy" ∷ at ∷ codes "number" ∷ codes "transaction" ∷ codes "kind"
    ∷ codes "authorization" ∷ codes "prescription" ∷ codes "date_of_service" ∷ codes "cents" ∷ []

-- the row of a ruling at a place or a day, with the digits of its authorization, its day of service, and what it takes back, where it is a reversal
unfoldable pub line_row : ℕ → ℕ → Member → Numbers → Move → List ℕ → Value → List ℕ → Row
line_row payer pharmacy at n moves auth service back =
    record { name = codes "payer"; value = Number payer }
    ∷ record { name = codes "pharmacy"; value = Number pharmacy }
    ∷ at
    ∷ record { name = codes "number"; value = Number n.number }
    ∷ record { name = codes "transaction"; value = Number n.transaction }
    ∷ record { name = codes "kind"; value = Text (kind_of moves) }
    ∷ record { name = codes "authorization"; value = Text auth }
    ∷ record { name = codes "prescription"; value = Number n.prescription }
    ∷ record { name = codes "date_of_service"; value = service }
    ∷ record { name = codes "cents"; value = cents_of back moves }
    ∷ []

-- the line of one that takes back this many cents
abbrev pub line_told : ℕ → ℕ → Member → Numbers → Move → Value → ℕ → List ℕ
line_told payer pharmacy at n moves service back =
    csv_row (line_row payer pharmacy at n moves (filled 16 (auth_of moves)) service (below_zero back))

-- ---- the sums of a period

-- of whom they are, and of which period
pub record Title : Type 0 where
  pub whose : Member
  pub pharmacy : ℕ
  pub first : Member
  pub last : Member

abbrev pub title_seen : Held → Title
title_seen t = record { whose = field_seen t.whose; pharmacy = t.pharmacy; first = field_seen t.first; last = field_seen t.last }

abbrev pub sum_names : Title → List (List ℕ)
sum_names t =
    t.whose.name ∷ codes "pharmacy" ∷ t.first.name ∷ t.last.name ∷ codes "standing_before_cents" ∷ codes "paid_cents" ∷ codes "reversed_cents"
    ∷ codes "standing_after_cents" ∷ codes "owed_before_cents" ∷ codes "check_cents" ∷ codes "owed_after_cents" ∷ []

unfoldable pub sums_row : Title → Period → ℕ → Settled → Row
sums_row t period owed settled =
    t.whose
    ∷ record { name = codes "pharmacy"; value = Number t.pharmacy }
    ∷ t.first
    ∷ t.last
    ∷ record { name = codes "standing_before_cents"; value = Number period.begin }
    ∷ record { name = codes "paid_cents"; value = Number period.moved.paid }
    ∷ record { name = codes "reversed_cents"; value = Number period.moved.reversed }
    ∷ record { name = codes "standing_after_cents"; value = Number period.end }
    ∷ record { name = codes "owed_before_cents"; value = Number owed }
    ∷ record { name = codes "check_cents"; value = Number settled.check }
    ∷ record { name = codes "owed_after_cents"; value = Number settled.owed }
    ∷ []

-- a text is the sums of a period of rulings after others: what stood before it, what was paid and taken back in it, what stands after it, and what is
-- sent for it and owed
pub record IsSums (title : Title) (before moves : List Move) (owed : ℕ) (text : List ℕ) : Type 0 where
  pub period : Period
  pub is : IsPeriod before moves period
  pub settled : Settled
  pub whole : settled.check + (period.moved.reversed + owed) ≡ period.moved.paid + settled.owed
  pub one : min settled.check settled.owed ≡ 0
  pub told : text ≡ head_text (sum_names title) ++ csv_row (sums_row title period owed settled)

-- why there are none: what is wrong with the rulings; else what was reversed and what was owed are too large
abbrev pub settling_cause : List Move → List Move → ℕ → Option Cause
settling_cause before moves owed = option_or (period_cause before moves) (over (taken_back (before ++ moves) moves + owed))
