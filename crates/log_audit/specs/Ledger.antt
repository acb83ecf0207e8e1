-- What a run left, counted: requests, payments and cents.
use Rattle.std.specs.Prelude.{ℕ, zero, suc, ◌+◌, ◌-◌, ◌^◌, ◌==◌, ◌&&◌, Bool, true, false, not, cond, min, count_by, List, [], ◌∷◌, ◌++◌, length, flat_map, codes, Option, Some, None, is_some}
use Rattle.std.specs.List.{list_any}
use Rattle.claim_model.specs.Words.{Ruling, Paid, Duplicate, Reversed, Rejected}
use Rattle.claim_model.specs.Context.{Context}
use Rattle.claim_model.specs.Counted.{Counted, counted}
use Rattle.claim_model.specs.Held.{journal_in, book_in}
use Rattle.claim_model.specs.Journal.{Journal, JournalAtRest}
use Rattle.claim_model.specs.Node.{Power}
use Rattle.claim_model.specs.Payments.{Payment, payment_of}
use Rattle.claim_model.specs.Rows.{Book, Row, ruled_rows}
use Rattle.claim_model.specs.Settings.{is_empty}
use Rattle.claim_model.specs.World.{World}
use Rattle.payer_book.specs.declared.book.PaymentView.{PaymentView}
use Rattle.pharmacy_journal.specs.Listing.{Listed, listed}
use Rattle.world_core.specs.Reading.{payment_at}
use Rattle.log_audit.specs.Sentences.{Piece, Words, Number, sentence}
use Rattle.log_audit.specs.Texts.{texts_from}
use Rattle.log_audit.specs.declared.report.paid.PaidOnce.{PaidOnce}
use Rattle.log_audit.specs.declared.report.paid.Sum.{Sum}

-- cents, as far as 64 bits hold them
abbrev pub in_cents : ℕ → ℕ
in_cents cents = min cents (2 ^ 64 - 1)

-- the totals (F9) of payments that a pharmacy counts
abbrev pub counted_total : List Counted → ℕ
counted_total [] = 0
counted_total (c ∷ cs) = c.amounts.total + counted_total cs

abbrev pub is_open : Listed → Bool
is_open e = is_empty e.rulings

abbrev pub is_answered : Listed → Bool
is_answered e = not (is_empty e.rulings)

abbrev pub is_standing : Option PaymentView → Bool
is_standing None = false
is_standing (Some p) = not (is_some p.reversed_by)

-- a counted payment stands in the book of the payer that its authorization names
abbrev pub stands : Context → World → Counted → Bool
stands ctx w c = is_standing (payment_at ctx w c.auth.payer c.auth)

-- how many of counted payments stand
abbrev pub count_standing : Context → World → List Counted → ℕ
count_standing ctx w [] = 0
count_standing ctx w (c ∷ cs) = cond (stands ctx w c) 1 0 + count_standing ctx w cs

-- what is counted of a pharmacy: requests with an answer and without, and payments
abbrev pub requests_pieces : ℕ → List Listed → List Counted → List Piece
requests_pieces number entries paid =
    Words (codes "pharmacy ") ∷ Number number ∷ Words (codes " requests ") ∷ Number (length entries) ∷
    Words (codes " answered ") ∷ Number (count_by is_answered entries) ∷ Words (codes " open ") ∷ Number (count_by is_open entries) ∷
    Words (codes " counted ") ∷ Number (length paid) ∷ Words (codes " cents ") ∷ Number (in_cents (counted_total paid)) ∷ []

abbrev pub standing_pieces : ℕ → List Piece
standing_pieces count = Words (codes " standing ") ∷ Number count ∷ Words (codes "\n") ∷ []

-- the line of a pharmacy in a world
unfoldable pub pharmacy_text : Context → World → ℕ → JournalAtRest → List ℕ
pharmacy_text ctx w number j =
    sentence (requests_pieces number (listed j) (counted ctx j)) ++ sentence (standing_pieces (count_standing ctx w (counted ctx j)))

abbrev pub node_requests : Context → World → ℕ → Power Journal JournalAtRest → List ℕ
node_requests ctx w number node = pharmacy_text ctx w number (journal_in node)

abbrev pub was_reversed : Option Payment → Bool
was_reversed None = false
was_reversed (Some p) = is_some p.reversed_by

-- the payment that a ruling of a row made, if it made one: the pharmacy that asked for it, its total, and whether a later one reversed it
abbrev pub ruling_paid : Context → List Row → ℕ → Ruling → List PaidOnce
ruling_paid ctx rows pharmacy (Paid auth prescription amounts) =
    record { pharmacy = pharmacy; cents = amounts.total; reversed = was_reversed (payment_of auth (ruled_rows ctx rows)) } ∷ []
ruling_paid ctx rows pharmacy (Duplicate auth prescription amounts) = []
ruling_paid ctx rows pharmacy (Reversed auth prescription) = []
ruling_paid ctx rows pharmacy (Rejected rejects) = []

abbrev pub row_paid : Context → List Row → Row → List PaidOnce
row_paid ctx rows row = flat_map (ruling_paid ctx rows row.id.pharmacy) row.rulings

-- the payments of a book, in the order in which they were made
abbrev pub book_paid : Context → Book → List PaidOnce
book_paid ctx b = flat_map (row_paid ctx b.rows) b.rows

-- a payment is that of a pharmacy; without one, of any
abbrev pub is_of : Option ℕ → PaidOnce → Bool
is_of None p = true
is_of (Some pharmacy) p = p.pharmacy == pharmacy

-- the same of those that stand, or of those that were reversed
abbrev pub is_chosen : Option ℕ → Bool → PaidOnce → Bool
is_chosen of reversed p = is_of of p && cond reversed p.reversed (not p.reversed)

-- the totals of those payments among these for which a test holds
abbrev pub paid_total : (PaidOnce → Bool) → List PaidOnce → ℕ
paid_total test [] = 0
paid_total test (p ∷ more) = cond (test p) p.cents 0 + paid_total test more

-- how many they are, and their totals in cents
abbrev pub sum_of : Option ℕ → Bool → List PaidOnce → Sum
sum_of of reversed paid = record { count = count_by (is_chosen of reversed) paid; cents = in_cents (paid_total (is_chosen of reversed) paid) }

abbrev pub sums_pieces : Sum → Sum → List Piece
sums_pieces standing reversed =
    Words (codes " standing ") ∷ Number standing.count ∷ Words (codes " cents ") ∷ Number standing.cents ∷
    Words (codes " reversed ") ∷ Number reversed.count ∷ Words (codes " cents ") ∷ Number reversed.cents ∷ Words (codes "\n") ∷ []

-- the payments of a pharmacy, or of all: those that stand, and those that were reversed
abbrev pub sums_text : Option ℕ → List PaidOnce → List ℕ
sums_text of paid = sentence (sums_pieces (sum_of of false paid) (sum_of of true paid))

abbrev pub paid_pieces : ℕ → ℕ → List Piece
paid_pieces number pharmacy = Words (codes "payer ") ∷ Number number ∷ Words (codes " pharmacy ") ∷ Number pharmacy ∷ []

-- the line of a pharmacy that a payer paid
unfoldable pub paid_line : ℕ → List PaidOnce → ℕ → List ℕ
paid_line number paid pharmacy = sentence (paid_pieces number pharmacy) ++ sums_text (Some pharmacy) paid

abbrev pub paid_text : ℕ → List PaidOnce → ℕ → List ℕ
paid_text number paid pharmacy = cond (list_any (is_of (Some pharmacy)) paid) (paid_line number paid pharmacy) []

-- the lines of the pharmacies up to a number that a payer paid
abbrev pub paid_up_to : ℕ → List PaidOnce → ℕ → List ℕ
paid_up_to number paid zero = []
paid_up_to number paid (suc pharmacy) = paid_up_to number paid pharmacy ++ paid_text number paid (pharmacy + 1)

abbrev pub rows_pieces : ℕ → ℕ → List Piece
rows_pieces number count = Words (codes "payer ") ∷ Number number ∷ Words (codes " rows ") ∷ Number count ∷ []

-- the line of a payer
unfoldable pub rows_text : ℕ → ℕ → List PaidOnce → List ℕ
rows_text number count paid = sentence (rows_pieces number count) ++ sums_text None paid

-- the lines of a payer: by pharmacy, of which there are this many, and of all
unfoldable pub book_text : Context → ℕ → ℕ → Book → List ℕ
book_text ctx pharmacies number b = paid_up_to number (book_paid ctx b) pharmacies ++ rows_text number (length b.rows) (book_paid ctx b)

abbrev pub node_paid : Context → ℕ → ℕ → Power Book Book → List ℕ
node_paid ctx pharmacies number node = book_text ctx pharmacies number (book_in node)

-- the lines of all pharmacies and all payers
unfoldable pub ledger_text : Context → World → List ℕ
ledger_text ctx w = texts_from (node_requests ctx w) 1 w.pharmacies ++ texts_from (node_paid ctx (length w.pharmacies)) 1 w.payers
