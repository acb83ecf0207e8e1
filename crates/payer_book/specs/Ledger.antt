-- The payments of a book: standing, or reversed by the request of an id.
use Rattle.std.specs.Prelude.{◌≡◌, ℕ, ◌+◌, ◌≤◌, Bool, cond, List, [], ◌∷◌, length, filter_map, find, Option, Some, None, ⊤}
use Rattle.std.specs.List.{AllByRecursion}
use Rattle.claim_model.specs.Words.{TxnId, Auth, Claim, Fill, Reversal}
use Rattle.claim_model.specs.Payments.{same_auth}
use Rattle.claim_model.specs.Judgement.{same_fill, is_for}
use Rattle.payer_book.specs.declared.book.payment.Standing.{Standing}
use Rattle.payer_book.specs.declared.book.payment.Payment.{Payment}
use Rattle.payer_book.specs.declared.book.payment.Payment.TheVariants.{Standing as Stands, Reversed as WasReversed}

-- the payments of a payer, whose first one has this serial, and how many more there is room for
pub record Ledger : Type 0 where
  pub payer : ℕ
  pub first : ℕ
  pub payments : List Payment
  pub room : ℕ

-- nothing but the room is another
abbrev pub SameButRoom : Ledger → Ledger → Type 0
SameButRoom old new = (new.payer ≡ old.payer) × (new.first ≡ old.first) × (new.payments ≡ old.payments)

-- the authorization of the next payment
abbrev pub auth_next : Ledger → Auth
auth_next l = record { payer = l.payer; serial = l.first + length l.payments }

-- the authorization of a payment
abbrev pub auth_of : Payment → Auth
auth_of (Stands s) = s.auth
auth_of (WasReversed r) = r.auth

-- the payment, where it stands
abbrev pub still : Payment → Option Standing
still (Stands s) = Some s
still (WasReversed r) = None

-- the standing payments, in order
abbrev pub standing_in : List Payment → List Standing
standing_in ps = filter_map still ps

-- the payment is the one of this authorization
abbrev pub has_auth : Auth → Payment → Bool
has_auth auth p = same_auth (auth_of p) auth

-- the payment of this authorization
abbrev pub payment_with : Auth → List Payment → Option Payment
payment_with auth ps = find (has_auth auth) ps

-- the payment is for this fill
abbrev pub is_of : Fill → Standing → Bool
is_of fill s = same_fill fill s.claim.fill

-- the standing payment of a fill
abbrev pub standing_of : Fill → List Standing → Option Standing
standing_of fill standing = find (is_of fill) standing

-- the reversal is for the claim that was paid
abbrev pub is_for_payment : Reversal → Standing → Bool
is_for_payment v s = is_for v s.claim

-- the payment, reversed by this request
abbrev pub reversal_of : TxnId → Standing → Payment
reversal_of by s = WasReversed (record { auth = s.auth; claim = s.claim; amounts = s.amounts; by = by })

-- the payment, reversed by this request where it is the standing one of this authorization
abbrev pub after_reversal : Auth → TxnId → Payment → Payment
after_reversal auth by (Stands s) = cond (same_auth auth s.auth) (reversal_of by s) (Stands s)
after_reversal auth by (WasReversed r) = WasReversed r

-- the authorizations are the payer's, with serials one after another
abbrev pub AreNumbered : ℕ → ℕ → List Payment → Type 0
AreNumbered payer serial [] = ⊤
AreNumbered payer serial (p ∷ ps) = (auth_of p ≡ record { payer = payer; serial = serial }) × AreNumbered payer (serial + 1) ps

-- no two payments are for one fill
abbrev pub IsOther : Standing → Standing → Type 0
IsOther s t = s.claim.fill ≡ t.claim.fill → ⊥

abbrev pub NoFillTwice : List Standing → Type 0
NoFillTwice [] = ⊤
NoFillTwice (s ∷ standing) = AllByRecursion (IsOther s) standing × NoFillTwice standing

-- a fill number has one or two digits
abbrev pub HasFillNumber : Claim → Type 0
HasFillNumber c = c.fill.fill ≤ 99

abbrev pub IsNumbered : Standing → Type 0
IsNumbered s = HasFillNumber s.claim

-- what holds of the payments of every book
pub record IsLedger (l : Ledger) : Type 0 where
  pub numbered : AreNumbered l.payer l.first l.payments
  pub fills : NoFillTwice (standing_in l.payments)
  pub numbers : AllByRecursion IsNumbered (standing_in l.payments)
