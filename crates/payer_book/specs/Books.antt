-- A book as its code keeps it: the payments that its rows come to.
use Rattle.std.specs.Prelude.{◌≡◌, ℕ, List, [], map, length, count_by, Option, Some, None, Result, Ok, Err, ⊤}
use Rattle.bin_routes.specs.Table.{routes_of}
use Rattle.claim_model.specs.Words.{TxnId, Order, Bills, Reverses, Code}
use Rattle.claim_model.specs.Context.{Context}
use Rattle.claim_model.specs.Bytes.{bytes_with}
use Rattle.claim_model.specs.Ruled.{Ruled}
use Rattle.claim_model.specs.Payments as model
use Rattle.claim_model.specs.Rows.{Row, ruled_rows}
use Rattle.claim_model.specs.Judgement.{is_paid}
use Rattle.payer_book.specs.declared.book.payment.Payment.{Payment}
use Rattle.payer_book.specs.declared.book.payment.Payment.TheVariants.{Standing as Stands, Reversed as WasReversed}
use Rattle.payer_book.specs.Ledger.{Ledger, HasFillNumber}

-- how requests are read: what a book keeps does not ask for the routes
abbrev pub reading : Context
reading = bytes_with (routes_of [])

-- a payment of the model without its place among the rulings
abbrev pub kept_by : model.Payment → Option TxnId → Payment
kept_by p None = Stands (record { auth = p.auth; claim = p.claim; amounts = p.amounts })
kept_by p (Some id) = WasReversed (record { auth = p.auth; claim = p.claim; amounts = p.amounts; by = id })

abbrev pub kept : model.Payment → Payment
kept p = kept_by p p.reversed_by

-- the payments of some rulings
abbrev pub payments_of : List Ruled → List Payment
payments_of rs = map kept (model.payments rs)

-- how many of some rulings pay
abbrev pub count_paid : List Ruled → ℕ
count_paid rs = count_by (λ (r : Ruled). is_paid r.ruling) rs

-- the payments are those of the rulings, each of a claim
pub record Keeps (rs : List Ruled) (l : Ledger) : Type 0 where
  pub payments : l.payments ≡ payments_of rs
  pub counted : count_paid rs ≡ length l.payments

-- a claim's fill number has one or two digits
abbrev pub OrderNumbered : Result Order (List Code) → Type 0
OrderNumbered (Ok (Bills c)) = HasFillNumber c
OrderNumbered (Ok (Reverses v)) = ⊤
OrderNumbered (Err codes) = ⊤

-- the payments of a book's rows
pub record IsBook (payer serial : ℕ) (rows : List Row) (l : Ledger) : Type 0 where
  pub of_payer : l.payer ≡ payer
  pub from_serial : l.first ≡ serial
  pub kept : Keeps (ruled_rows reading rows) l
