-- The payments of a node, as one list, and what is told of them.
use Rattle.std.specs.Prelude.{ℕ, ◌-◌, ◌==◌, List, [], ◌∷◌, ◌++◌, map, take, drop, codes, decimal, Option, Some, None, if◌then◌else◌}
use Rattle.std.specs.List.{flat_map}
use Rattle.std.specs.Option.{option_map, option_to_list}
use Rattle.input_text.specs.Printing.{printed_byte}
use Rattle.claim_profile.specs.Authorization.{authorization_text}
use Rattle.claim_model.specs.Words.{TxnId, Auth, Amounts, Fill, Ruling, Paid, Duplicate, Reversed, Rejected}
use Rattle.claim_model.specs.Context.{Context}
use Rattle.claim_model.specs.Journal.{JournalAtRest}
use Rattle.claim_model.specs.Counted.{Counted, counted}
use Rattle.claim_model.specs.Rows.{Row, Book}
use Rattle.claim_model.specs.Nodes.{AnyNode}
use Rattle.payer_book.specs.declared.book.PaymentView.{PaymentView}
use Rattle.payer_book.specs.Views.{payment_in}
use Rattle.node_state.specs.Nodes.{journal_of, book_of}
use Rattle.node_service.specs.declared.payments.NodePayment.{NodePayment}
use Rattle.node_service.specs.Listing.{end_line}

abbrev pub pharmacy_by : Option TxnId → ℕ
pharmacy_by None = 0
pharmacy_by (Some id) = id.pharmacy

abbrev pub number_by : Option TxnId → ℕ
number_by None = 0
number_by (Some id) = id.number

-- a payment that a pharmacy counts: no answer named it as reversed
abbrev pub counted_payment : Counted → NodePayment
counted_payment c = record { auth = c.auth; fill = c.fill; amounts = c.amounts; reversed_pharmacy = 0; reversed_number = 0 }

-- the payments that the pharmacy of a journal counts
abbrev pub journal_payments : Context → JournalAtRest → List NodePayment
journal_payments ctx j = map counted_payment (counted ctx j)

-- a payment of a book, and the request that reversed it, by pharmacy and number, which are 0 where none did
abbrev pub booked_payment : Auth → PaymentView → NodePayment
booked_payment auth p = record { auth = auth; fill = p.fill; amounts = p.amounts; reversed_pharmacy = pharmacy_by p.reversed_by; reversed_number = number_by p.reversed_by }

-- the payment that a ruling made, as the book has it by now
abbrev pub ruling_payment : Context → Book → Ruling → List NodePayment
ruling_payment ctx b (Paid auth prescription amounts) = option_to_list (option_map (booked_payment auth) (payment_in ctx b auth))
ruling_payment ctx b (Duplicate auth prescription amounts) = []
ruling_payment ctx b (Reversed auth prescription) = []
ruling_payment ctx b (Rejected rejects) = []

abbrev pub row_payments : Context → Book → Row → List NodePayment
row_payments ctx b row = flat_map (ruling_payment ctx b) row.rulings

-- the payments of a book, in the order in which they were made
abbrev pub book_payments : Context → Book → List NodePayment
book_payments ctx b = flat_map (row_payments ctx b) b.rows

abbrev pub payments_by : Context → Option JournalAtRest → Option Book → List NodePayment
payments_by ctx (Some j) b = journal_payments ctx j
payments_by ctx None (Some b) = book_payments ctx b
payments_by ctx None None = []

-- the payments that a pharmacy counts, or those of a payer's book; a switch has none
abbrev pub payments_of : Context → AnyNode → List NodePayment
payments_of ctx state = payments_by ctx (journal_of state) (book_of state)

-- this many of them at most, from the one of a number on; they are numbered from 1
abbrev pub page : ℕ → ℕ → List NodePayment → List NodePayment
page number count payments = take count (drop (number - 1) payments)

-- a byte of a word, in printed bytes: a space is none
unfoldable pub word_byte : ℕ → List ℕ
word_byte byte = if byte == 32 then codes "\\x20" else printed_byte byte

-- bytes as a word
abbrev pub word_of : List ℕ → List ℕ
word_of bytes = flat_map word_byte bytes

-- bytes as a word after a space
unfoldable pub text_behind : List ℕ → List ℕ
text_behind bytes = 32 ∷ word_of bytes

-- a number after a space
unfoldable pub number_behind : ℕ → List ℕ
number_behind number = 32 ∷ decimal number

-- amounts in cents: ingredient cost (506-F6), dispensing fee (507-F7), the patient's part (505-F5), total (509-F9)
unfoldable pub amounts_behind : Amounts → List ℕ
amounts_behind m = number_behind m.cost ++ (number_behind m.fee ++ (number_behind m.copay ++ number_behind m.total))

-- what was paid for: BIN number (101-A1), processor control number (104-A4), the provider's qualifier (202-B2) and the provider (201-B1), the
-- prescription (402-D2), and the fill number (403-D3)
unfoldable pub fill_behind : Fill → List ℕ
fill_behind f = text_behind f.bin ++ (text_behind f.pcn ++ (text_behind f.qualifier ++ (text_behind f.provider ++ (number_behind f.prescription ++ number_behind f.fill))))

-- the request that reversed a payment, by pharmacy and number; nothing where none did
unfoldable pub reversed_behind : ℕ → ℕ → List ℕ
reversed_behind pharmacy number = if number == 0 then [] else codes " reversed " ++ (decimal pharmacy ++ (codes "." ++ decimal number))

-- a payment: its authorization, its amounts, its fill and what reversed it
unfoldable pub payment_line : NodePayment → List ℕ
payment_line p =
    codes "payment " ++ (authorization_text p.auth ++ (amounts_behind p.amounts ++ (fill_behind p.fill ++ (reversed_behind p.reversed_pharmacy p.reversed_number ++ codes "\n"))))

-- a line for each
unfoldable pub payment_lines : List NodePayment → List ℕ
payment_lines payments = flat_map payment_line payments

-- the payments of a node, this many at most from the one of a number on, and that these were all
abbrev pub payments_text : Context → ℕ → ℕ → AnyNode → List ℕ
payments_text ctx number count state = payment_lines (page number count (payments_of ctx state)) ++ end_line
