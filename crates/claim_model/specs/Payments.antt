-- The payments that rulings make, each standing or reversed by a later ruling.
use Rattle.std.specs.Prelude.{ℕ, Bool, false, ◌&&◌, ◌==◌, List, [], ◌∷◌, ◌++◌, Option, Some, None, is_none, Result, Ok, Err, find, filter, option_map}
use Rattle.claim_model.specs.Words.{TxnId, Auth, Amounts, Claim, Order, Bills, Reverses, Code, Ruling, Paid, Duplicate, Reversed, Rejected}
use Rattle.claim_model.specs.Ruled.{Ruled}

-- a payment: where it was ruled, its claim, and the request that reversed it
pub record Payment : Type 0 where
  pub id : TxnId
  pub place : ℕ
  pub claim : Claim
  pub auth : Auth
  pub amounts : Amounts
  pub reversed_by : Option TxnId

abbrev pub same_auth : Auth → Auth → Bool
same_auth a b = (a.payer == b.payer) && (a.serial == b.serial)

-- the authorization that a Reversed ruling names
abbrev pub auth_reversed : Ruling → Option Auth
auth_reversed (Reversed auth prescription) = Some auth
auth_reversed (Paid auth prescription amounts) = None
auth_reversed (Duplicate auth prescription amounts) = None
auth_reversed (Rejected codes) = None

abbrev pub is_auth : Auth → Option Auth → Bool
is_auth auth None = false
is_auth auth (Some named) = same_auth named auth

-- this ruling reverses the payment with that authorization
abbrev pub reverses : Auth → Ruled → Bool
reverses auth r = is_auth auth (auth_reversed r.ruling)

-- the request whose ruling, the first of these, reverses the payment with that authorization
abbrev pub reversed_by : Auth → List Ruled → Option TxnId
reversed_by auth rs = option_map (λ (r : Ruled). r.id) (find (reverses auth) rs)

abbrev pub payment_by : Ruled → List Ruled → Result Order (List Code) → Ruling → List Payment
payment_by r later (Ok (Bills claim)) (Paid auth prescription amounts) =
    record { id = r.id; place = r.place; claim = claim; auth = auth; amounts = amounts; reversed_by = reversed_by auth later } ∷ []
payment_by r later (Ok (Bills claim)) (Duplicate auth prescription amounts) = []
payment_by r later (Ok (Bills claim)) (Reversed auth prescription) = []
payment_by r later (Ok (Bills claim)) (Rejected codes) = []
payment_by r later (Ok (Reverses reversal)) ruling = []
payment_by r later (Err codes) ruling = []

-- the payment that this ruling makes, seen with the rulings after it
abbrev pub payment_at : Ruled → List Ruled → List Payment
payment_at r later = payment_by r later r.order r.ruling

-- the payments of a list of rulings: its Paid rulings, in order
abbrev pub payments : List Ruled → List Payment
payments [] = []
payments (r ∷ later) = payment_at r later ++ payments later

abbrev pub is_standing : Payment → Bool
is_standing p = is_none p.reversed_by

-- the payments that no later ruling reversed
abbrev pub standing : List Ruled → List Payment
standing rs = filter is_standing (payments rs)

-- the payment with an authorization
abbrev pub payment_of : Auth → List Ruled → Option Payment
payment_of auth rs = find (λ p. same_auth p.auth auth) (payments rs)
