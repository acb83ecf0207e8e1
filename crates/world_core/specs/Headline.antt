-- What holds of every world, in the words of its readers `held`, `paid` and `payment`.
use Rattle.std.specs.Prelude.{◌≡◌, ℕ, List, Some, None}
use Rattle.claim_model.specs.Words.{TxnId, Auth, RequestHeader}
use Rattle.claim_model.specs.Context.{Context}
use Rattle.claim_model.specs.Readable.{readable, reversal_code}
use Rattle.claim_model.specs.Numbered.{numbered}
use Rattle.claim_model.specs.Counted.{Counted}
use Rattle.claim_model.specs.Node.{Pharmacy}
use Rattle.claim_model.specs.World.{World}
use Rattle.claim_model.specs.Held.{asked, held}
use Rattle.payer_book.specs.declared.book.PaymentView.{PaymentView}
use Rattle.world_core.specs.Reading.{paid_at, payment_at}

-- an id is of this pharmacy, which submitted a reversal under it and holds no answer to it
pub record IsOpenReversal (ctx : Context) (w : World) (pharmacy : ℕ) (id : TxnId) : Type 0 where
  pub of_it : id.pharmacy ≡ pharmacy
  pub request : List ℕ
  pub submitted : asked w id ≡ Some request
  pub header : RequestHeader
  pub reads : readable ctx request ≡ Some header
  pub is_reversal : header.code ≡ reversal_code
  pub is_open : held ctx w (Pharmacy pharmacy) id ≡ None

-- the payer of an authorization has the payment that a pharmacy counts, with its fill and its amounts, reversed by nobody or by an open
-- reversal of this pharmacy
pub record IsKept (ctx : Context) (w : World) (pharmacy : ℕ) (c : Counted) : Type 0 where
  pub payment : PaymentView
  pub found : payment_at ctx w c.auth.payer c.auth ≡ Some payment
  pub fill : payment.fill ≡ c.fill
  pub amounts : payment.amounts ≡ c.amounts
  pub reversed : (id : TxnId) → payment.reversed_by ≡ Some id → IsOpenReversal ctx w pharmacy id

-- each payment that `paid` gives of a pharmacy is kept
abbrev pub PaidIsKept : Context → World → Type 0
PaidIsKept ctx w = (n k : ℕ) (c : Counted) → numbered (paid_at ctx w n) k ≡ Some c → IsKept ctx w n c

-- two payments of one fill that `payment` gives, reversed by nobody, are one payment of one payer
abbrev pub FillIsPaidOnce : Context → World → Type 0
FillIsPaidOnce ctx w =
    (n m : ℕ) (a b : Auth) (p q : PaymentView) → payment_at ctx w n a ≡ Some p → payment_at ctx w m b ≡ Some q → p.reversed_by ≡ None → q.reversed_by ≡ None
    → p.fill ≡ q.fill → (n ≡ m) × (a ≡ b)
