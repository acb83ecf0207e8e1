-- What rulings change among the payments.
use Rattle.std.specs.Prelude.{◌≡◌, ℕ, ◌+◌, Bool, true, false, not, cond, List, [], ◌∷◌, ◌++◌, map, length, filter, find, Option, Some, None, IsSome, Result, Ok, Err, ⊤}
use Rattle.std.specs.List.{list_any, cons_option}
use Rattle.claim_model.specs.Words.{TxnId, Auth, Amounts, Order, Bills, Reverses, Code, Ruling, Paid, Duplicate, Reversed, Rejected}
use Rattle.claim_model.specs.Payments.{same_auth}
use Rattle.payer_book.specs.declared.book.payment.Standing.{Standing}
use Rattle.payer_book.specs.declared.book.payment.Payment.{Payment}
use Rattle.payer_book.specs.declared.book.payment.Payment.TheVariants.{Standing as Stands}
use Rattle.payer_book.specs.declared.ruling.changes.Change.{Change}
use Rattle.payer_book.specs.declared.ruling.changes.Change.TheVariants.{Pays, Reverses as ReversesPayment, Keeps}
use Rattle.payer_book.specs.Ledger.{Ledger, standing_of, standing_in, after_reversal, HasFillNumber}

-- a payment with this authorization and these amounts, where the order is a claim
abbrev pub paid_by : Auth → Amounts → Result Order (List Code) → Change
paid_by auth amounts (Ok (Bills c)) = Pays (record { auth = auth; claim = c; amounts = amounts })
paid_by auth amounts (Ok (Reverses v)) = Keeps
paid_by auth amounts (Err codes) = Keeps

-- what a ruling on an order changes: a claim that is paid is one payment more, a Reversed ruling reverses the payment that it names
abbrev pub change_by : Result Order (List Code) → Ruling → Change
change_by order (Paid auth prescription amounts) = paid_by auth amounts order
change_by order (Duplicate auth prescription amounts) = Keeps
change_by order (Reversed auth prescription) = ReversesPayment auth
change_by order (Rejected codes) = Keeps

-- what the rulings on some orders change, place by place
abbrev pub changes_by : List (Result Order (List Code)) → List Ruling → List Change
changes_by [] rulings = []
changes_by (order ∷ orders) [] = []
changes_by (order ∷ orders) (ruling ∷ rulings) = change_by order ruling ∷ changes_by orders rulings

-- it reverses the payment of this authorization
abbrev pub is_reversal_of : Auth → Change → Bool
is_reversal_of auth (Pays s) = false
is_reversal_of auth (ReversesPayment named) = same_auth named auth
is_reversal_of auth Keeps = false

abbrev pub is_reversed : Auth → List Change → Bool
is_reversed auth changes = list_any (is_reversal_of auth) changes

-- it pays
abbrev pub pays : Change → Bool
pays (Pays s) = true
pays (ReversesPayment auth) = false
pays Keeps = false

-- the standing payments after a change
abbrev pub standing_with : List Standing → Change → List Standing
standing_with standing (Pays s) = standing ++ s ∷ []
standing_with standing (ReversesPayment auth) = filter (λ s. not (same_auth auth s.auth)) standing
standing_with standing Keeps = standing

-- the standing payments after some changes
abbrev pub standing_after : List Standing → List Change → List Standing
standing_after standing [] = standing
standing_after standing (change ∷ later) = standing_after (standing_with standing change) later

-- the payments of a ledger that stand after some changes
abbrev pub still_standing : Ledger → List Change → List Standing
still_standing l changes = standing_after (standing_in l.payments) changes

-- the payment that a change makes, where no later one reverses it
abbrev pub left : Change → List Change → Option Standing
left (Pays s) later = cond (is_reversed s.auth later) None (Some s)
left (ReversesPayment auth) later = None
left Keeps later = None

-- the payments that the changes make and do not reverse, in order
abbrev pub left_by : List Change → List Standing
left_by [] = []
left_by (change ∷ later) = cons_option (left change later) (left_by later)

-- the payments after a change that the request of this id made
abbrev pub payments_with : TxnId → List Payment → Change → List Payment
payments_with id ps (Pays s) = ps ++ Stands s ∷ []
payments_with id ps (ReversesPayment auth) = map (after_reversal auth id) ps
payments_with id ps Keeps = ps

abbrev pub payments_after : TxnId → List Payment → List Change → List Payment
payments_after id ps [] = ps
payments_after id ps (change ∷ later) = payments_after id (payments_with id ps change) later

-- a change that can be made: what is paid has the next serial and a fill without a standing payment; what is reversed stands
abbrev pub IsPossible : ℕ → ℕ → List Payment → Change → Type 0
IsPossible payer first ps (Pays s) = (s.auth ≡ record { payer = payer; serial = first + length ps }) × HasFillNumber s.claim × (standing_of s.claim.fill (standing_in ps) ≡ None)
IsPossible payer first ps (ReversesPayment auth) = IsSome (find (λ s. same_auth s.auth auth) (standing_in ps))
IsPossible payer first ps Keeps = ⊤

abbrev pub ArePossible : ℕ → ℕ → TxnId → List Payment → List Change → Type 0
ArePossible payer first id ps [] = ⊤
ArePossible payer first id ps (change ∷ later) = IsPossible payer first ps change × ArePossible payer first id (payments_with id ps change) later
