-- The lines of a row of a payer's book.
use Rattle.std.specs.Prelude.{ℕ, Bool, false, List, [], length, map, Option, Some, None, is_some}
use Rattle.claim_profile.specs.Readable.{readable_header}
use Rattle.claim_model.specs.Words.{RequestHeader, Ruling, Paid, Duplicate, Reversed, Rejected}
use Rattle.claim_model.specs.Context.{Context}
use Rattle.claim_model.specs.Payments.{Payment, payment_of}
use Rattle.claim_model.specs.Rows.{Row, ruled_rows}
use Rattle.world_report.specs.Words.{Line}
use Rattle.world_report.specs.Places.{place_lines, txn_name, row_words}

-- the code of a request by its header; a request that is not readable, which no row has, has none
abbrev pub code_in : Option RequestHeader → List ℕ
code_in None = []
code_in (Some h) = h.code

abbrev pub is_reversed : Option Payment → Bool
is_reversed None = false
is_reversed (Some p) = is_some p.reversed_by

-- whether a ruling made a payment that a later ruling of the book reversed
abbrev pub was_reversed : Context → List Row → Ruling → Bool
was_reversed ctx rows (Paid auth prescription amounts) = is_reversed (payment_of auth (ruled_rows ctx rows))
was_reversed ctx rows (Duplicate auth prescription amounts) = false
was_reversed ctx rows (Reversed auth prescription) = false
was_reversed ctx rows (Rejected rejects) = false

-- what is told of a place with this ruling, in a book of these rows
abbrev pub told_row : Context → List Row → Ruling → Line
told_row ctx rows ruling = row_words ruling (was_reversed ctx rows ruling)

-- the lines of a row in a book of these rows
abbrev pub row_lines : Context → List Row → Row → List Line
row_lines ctx rows row = place_lines (txn_name row.id) (length row.rulings) (code_in (readable_header row.request)) 1 (map (told_row ctx rows) row.rulings)
