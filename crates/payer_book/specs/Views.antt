-- What is told of a payment.
use Rattle.std.specs.Prelude.{Option, Some, None, option_map}
use Rattle.claim_model.specs.Words.{Auth}
use Rattle.claim_model.specs.Context.{Context}
use Rattle.claim_model.specs.Payments as model
use Rattle.claim_model.specs.Payments.{payment_of}
use Rattle.claim_model.specs.Rows.{Book, ruled_rows}
use Rattle.payer_book.specs.declared.book.PaymentView.{PaymentView}
use Rattle.payer_book.specs.declared.book.payment.Payment.{Payment}
use Rattle.payer_book.specs.declared.book.payment.Payment.TheVariants.{Standing as Stands, Reversed as WasReversed}

-- a payment's fill, its amounts and the request that reversed it
abbrev pub payment_view : model.Payment → PaymentView
payment_view p = record { fill = p.claim.fill; amounts = p.amounts; reversed_by = p.reversed_by }

-- the same of the payment of an authorization in a book
abbrev pub payment_in : Context → Book → Auth → Option PaymentView
payment_in ctx b auth = option_map payment_view (payment_of auth (ruled_rows ctx b.rows))

-- the same of a payment as it is kept
abbrev pub view_of : Payment → PaymentView
view_of (Stands s) = record { fill = s.claim.fill; amounts = s.amounts; reversed_by = None }
view_of (WasReversed r) = record { fill = r.claim.fill; amounts = r.amounts; reversed_by = Some r.by }
