-- What the readers of a world tell, of nodes up and at rest alike, and nothing of a node that is not there.
use Rattle.std.specs.Prelude.{ℕ, Bool, false, List, [], map, Option, Some, None, option_map, option_and_then}
use Rattle.claim_model.specs.Words.{Auth}
use Rattle.claim_model.specs.Context.{Context}
use Rattle.claim_model.specs.Payments.{payment_of}
use Rattle.claim_model.specs.Numbered.{numbered}
use Rattle.claim_model.specs.Rows.{Book, ruled_rows}
use Rattle.claim_model.specs.Counted.{Counted, counted}
use Rattle.claim_model.specs.Node.{Node, Pharmacy, Switch, Payer, Power}
use Rattle.claim_model.specs.World.{World}
use Rattle.claim_model.specs.Held.{journal_at, book_at}
use Rattle.payer_book.specs.declared.book.PaymentView.{PaymentView}
use Rattle.payer_book.specs.Views.{payment_view}
use Rattle.pharmacy_journal.specs.Listing.{Listed, listed}
use Rattle.switch_node.specs.declared.table.InFlight.{InFlight}
use Rattle.node_state.specs.Sends.{is_up, in_flight_at}
use Rattle.world_core.specs.RowViews.{RowTold, row_told}

-- the elements of a list that may not be there
abbrev pub or_none : {A : Type 0} → Option (List A) → List A
or_none None = []
or_none (Some xs) = xs

abbrev pub or_down : {A B : Type 0} → Option (Power A B) → Bool
or_down None = false
or_down (Some node) = is_up node

-- whether a node is up
abbrev pub is_up_at : World → Node → Bool
is_up_at w (Pharmacy n) = or_down (numbered w.pharmacies n)
is_up_at w (Switch n) = or_down (numbered w.switches n)
is_up_at w (Payer n) = or_down (numbered w.payers n)

-- the payments that a pharmacy counts
abbrev pub paid_at : Context → World → ℕ → List Counted
paid_at ctx w n = or_none (option_map (counted ctx) (journal_at w n))

-- the payment of an authorization in a payer's book
abbrev pub payment_at : Context → World → ℕ → Auth → Option PaymentView
payment_at ctx w n auth = option_and_then (λ (b : Book). option_map payment_view (payment_of auth (ruled_rows ctx b.rows))) (book_at w n)

-- the entries of a pharmacy's journal, in order of numbers
abbrev pub journal_told : World → ℕ → List Listed
journal_told w n = or_none (option_map listed (journal_at w n))

-- the ids in a switch's table and whether each has its answer, oldest first
abbrev pub table_told : World → ℕ → List InFlight
table_told w n = or_none (option_map in_flight_at (numbered w.switches n))

abbrev pub book_told : Book → List RowTold
book_told b = map row_told b.rows

-- the rows of a payer's book, oldest first
abbrev pub rows_told : World → ℕ → List RowTold
rows_told w n = or_none (option_map book_told (book_at w n))
