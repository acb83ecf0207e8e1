-- What the values of fields, and the numbers of marks, mean.
use Rattle.std.specs.Prelude.{ℕ, ℤ, ◌+◌, ◌==◌, List, [], ◌++◌, codes, Option, None, Some, Result, Ok, Err, if◌then◌else◌}
use Rattle.std.specs.Fmt.{decimal}
use Rattle.std.specs.Str.{bytes_eq}
use Rattle.overpunch.specs.Number.{number_of}
use Rattle.overpunch.specs.Amount.{amount_of}
use Rattle.overpunch.specs.declared.number.NumberFault.{NumberFault}
use Rattle.overpunch.specs.declared.number.NumberFault.TheVariants as number
use Rattle.overpunch.specs.declared.amount.AmountFault.{AmountFault}
use Rattle.overpunch.specs.declared.amount.AmountFault.TheVariants as amount
use Rattle.d0_header.specs.Date.{is_calendar_date, year_of, month_of, day_of}
use Rattle.claim_profile.specs.declared.reject.Code.{Code}
use Rattle.claim_profile.specs.declared.transaction.TransactionCode.{TransactionCode}
use Rattle.claim_profile.specs.declared.transaction.TransactionCode.TheVariants.{Billing, Reversal}
use Rattle.claim_profile.specs.Authorization.{Authorization, authorization_of}
use Rattle.claim_profile.specs.Fields.{trimmed}
use Rattle.claim_profile.specs.Ruling.{code_of}
use Rattle.claim_profile.specs.Transaction.{transaction_code}
use Rattle.message_parts.specs.declared.marks.Mark.{Mark}
use Rattle.message_parts.specs.declared.names.FieldName.{FieldName}
use Rattle.message_parts.specs.declared.names.FieldName.TheVariants as field
use Rattle.claim_profile.specs.CodeNames.{code_name}
use Rattle.message_parts.specs.FieldTitles.{holds_amount}
use Rattle.message_words.specs.Figures.{dollars, units}
use Rattle.message_parts.specs.Naming.{spells_number}
use Rattle.message_parts.specs.Numbers.{number_in}

-- ---- words for a value

-- a transaction code
abbrev pub code_meaning : Option TransactionCode → List ℕ
code_meaning (Some Billing) = codes "billing"
code_meaning (Some Reversal) = codes "reversal"
code_meaning None = codes "neither a billing nor a reversal"

-- a header response status
abbrev pub header_status_meaning : List ℕ → List ℕ
header_status_meaning value =
    if bytes_eq value (codes "A") then codes "accepted"
    else (if bytes_eq value (codes "R") then codes "rejected"
    else codes "neither accepted nor rejected")

-- a transaction response status
abbrev pub status_meaning : List ℕ → List ℕ
status_meaning value =
    if bytes_eq value (codes "P") then codes "paid"
    else (if bytes_eq value (codes "D") then codes "duplicate of a paid claim"
    else (if bytes_eq value (codes "A") then codes "reversed"
    else (if bytes_eq value (codes "R") then codes "rejected"
    else codes "unknown")))

-- words for this value alone, after which there may be spaces
abbrev pub words_for : (value expected words : List ℕ) → List ℕ
words_for value expected words = if bytes_eq (trimmed value) expected then words else []

-- a reject code
abbrev pub reject_meaning : Option Code → List ℕ
reject_meaning (Some code) = code_name code
reject_meaning None = codes "a code that the product does not know"

-- ---- dates

-- the months by their number
unfoldable pub month_name : ℕ → List ℕ
month_name month =
    if month == 1 then codes "January"
    else (if month == 2 then codes "February"
    else (if month == 3 then codes "March"
    else (if month == 4 then codes "April"
    else (if month == 5 then codes "May"
    else (if month == 6 then codes "June"
    else (if month == 7 then codes "July"
    else (if month == 8 then codes "August"
    else (if month == 9 then codes "September"
    else (if month == 10 then codes "October"
    else (if month == 11 then codes "November"
    else (if month == 12 then codes "December"
    else [])))))))))))

-- a day, as `15 January 2024`
unfoldable pub day_words : (year month day : ℕ) → List ℕ
day_words year month day = decimal day ++ (codes " " ++ month_name month ++ codes " ") ++ decimal year

unfoldable pub date_meaning : List ℕ → List ℕ
date_meaning date =
    if is_calendar_date date then day_words (year_of date) (month_of date) (day_of date) else codes "no day of the calendar"

-- ---- numbers and amounts

-- words, and a place after them
abbrev pub at_place : List ℕ → ℕ → List ℕ
at_place words place = words ++ decimal place

abbrev pub number_fault_words : NumberFault → List ℕ
number_fault_words number.Empty = codes "no number: it is empty"
number_fault_words number.TooLong = codes "no number: it has too many digits"
number_fault_words (number.BadDigit place) = at_place (codes "no number: no digit at place ") place

abbrev pub quantity_words : Result ℕ NumberFault → List ℕ
quantity_words (Ok thousandths) = units thousandths
quantity_words (Err fault) = number_fault_words fault

abbrev pub amount_fault_words : AmountFault → List ℕ
amount_fault_words amount.Empty = codes "no amount: it is empty"
amount_fault_words amount.TooLong = codes "no amount: it has more than 8 digits"
amount_fault_words (amount.BadDigit place) = at_place (codes "no amount: no digit at place ") place
amount_fault_words amount.BadSign = codes "no amount: the last byte is no signed digit"

abbrev pub amount_words : Result ℤ AmountFault → List ℕ
amount_words (Ok cents) = dollars cents ++ codes " dollars"
amount_words (Err fault) = amount_fault_words fault

abbrev pub authorization_words : Option Authorization → List ℕ
authorization_words (Some a) = codes "payer " ++ decimal a.payer ++ codes ", serial " ++ decimal a.serial
authorization_words None = codes "no authorization number"

-- ---- fields and marks

-- what the value of a field means that is no amount; nothing where the value says it itself
abbrev pub plain_meaning : FieldName → List ℕ → List ℕ
plain_meaning field.TransactionCode value = code_meaning (transaction_code value)
plain_meaning field.DateOfService value = date_meaning value
plain_meaning field.HeaderStatus value = header_status_meaning value
plain_meaning field.PrescriptionQualifier value = words_for value (codes "1") (codes "prescription billing")
plain_meaning field.ProductQualifier value = words_for value (codes "03") (codes "national drug code")
plain_meaning field.Quantity value = quantity_words (number_of 10 value)
plain_meaning field.ResponseStatus value = status_meaning value
plain_meaning field.Authorization value = authorization_words (authorization_of value)
plain_meaning field.RejectCode value = reject_meaning (code_of value)
plain_meaning _ value = []

-- what the value of a field means
unfoldable pub meaning_of : FieldName → List ℕ → List ℕ
meaning_of name value = if holds_amount name then amount_words (amount_of value) else plain_meaning name value

-- what the bytes of a mark mean: the number that they spell, where they spell one
unfoldable pub mark_meaning : Mark → List ℕ → List ℕ
mark_meaning mark bytes = if spells_number mark then decimal (number_in bytes) else []
