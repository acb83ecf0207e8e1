-- The payments of a book, each as a row.
use Rattle.std.specs.Prelude.{ℕ, ◌+◌, Bool, List, [], ◌∷◌, ◌++◌, codes, cond, Option, Some, None, option_map, is_some}
use Rattle.std.specs.List.{flat_map}
use Rattle.claim_profile.specs.Authorization.{authorization_text}
use Rattle.claim_profile.specs.Readable.{readable_header}
use Rattle.claim_model.specs.Words.{TxnId, Auth, Amounts, Fill, Ruling, Paid, Duplicate, Reversed, Rejected}
use Rattle.claim_model.specs.Context.{Context}
use Rattle.claim_model.specs.Payments.{payment_of}
use Rattle.claim_model.specs.Rows as model
use Rattle.claim_model.specs.Rows.{Book, ruled_rows}
use Rattle.payer_book.specs.declared.book.PaymentView.{PaymentView}
use Rattle.payer_book.specs.Views.{payment_view}
use Rattle.table_text.specs.Members.{Row}
use Rattle.log_audit.specs.Kinds.{date_in, number_member, text_member, flag_member, optional_member}
use Rattle.log_audit.specs.declared.tables.payments.PaidAt.{PaidAt}
use Rattle.log_audit.specs.declared.tables.payments.Shown.{Shown}
use Rattle.log_audit.specs.Claims.{ClaimShown, claim_asked, claim_shown, claim_seen}
use Rattle.log_audit.specs.declared.tables.payments.FillTexts.{FillTexts}
use Rattle.log_audit.specs.declared.tables.payments.Cents.{Cents}

abbrev pub state_word : Bool → List ℕ
state_word reversed = cond reversed (codes "reversed") (codes "standing")

-- the number of the request that reversed a payment
abbrev pub reversing : Option TxnId → Option ℕ
reversing by = option_map (λ (id : TxnId). id.number) by

-- a fill by its fields
pub record FillShown : Type 0 where
  pub bin : List ℕ
  pub pcn : List ℕ
  pub qualifier : List ℕ
  pub provider : List ℕ
  pub prescription : ℕ
  pub number : ℕ

abbrev pub fill_shown : Fill → FillShown
fill_shown f = record { bin = f.bin; pcn = f.pcn; qualifier = f.qualifier; provider = f.provider; prescription = f.prescription; number = f.fill }

abbrev pub cents_of : Amounts → Cents
cents_of m = record { cost = m.cost; fee = m.fee; copay = m.copay; paid = m.total }

-- what is told of a payment
pub record PaymentShown : Type 0 where
  pub payer : ℕ
  pub pharmacy : ℕ
  pub number : ℕ
  pub transaction : ℕ
  pub authorization : List ℕ
  pub state : List ℕ
  pub reversed_by : Option ℕ
  pub counted : Bool
  pub fill : FillShown
  pub date : List ℕ
  pub cents : Cents
  pub claim : ClaimShown

abbrev pub texts_seen : FillTexts → FillShown
texts_seen t = record { bin = t.bin.now; pcn = t.pcn.now; qualifier = t.qualifier.now; provider = t.provider.now; prescription = t.prescription; number = t.number }

abbrev pub shown_seen : Shown → PaymentShown
shown_seen s = record {
  payer = s.payer;
  pharmacy = s.pharmacy;
  number = s.number;
  transaction = s.transaction;
  authorization = s.authorization.now;
  state = s.state.now;
  reversed_by = s.reversed_by;
  counted = s.counted;
  fill = texts_seen s.fill;
  date = s.date.now;
  cents = s.cents;
  claim = claim_seen s.claim;
}

-- the row of what is told of a payment
unfoldable pub shown_row : PaymentShown → Row
shown_row s =
    number_member (codes "payer") s.payer ∷
    number_member (codes "pharmacy") s.pharmacy ∷
    number_member (codes "number") s.number ∷
    number_member (codes "transaction") s.transaction ∷
    text_member (codes "authorization") s.authorization ∷
    text_member (codes "state") s.state ∷
    optional_member (codes "reversed_by") s.reversed_by ∷
    flag_member (codes "counted") s.counted ∷
    text_member (codes "bin") s.fill.bin ∷
    text_member (codes "processor_control_number") s.fill.pcn ∷
    text_member (codes "provider_qualifier") s.fill.qualifier ∷
    text_member (codes "provider") s.fill.provider ∷
    number_member (codes "prescription") s.fill.prescription ∷
    number_member (codes "fill") s.fill.number ∷
    text_member (codes "date_of_service") s.date ∷
    number_member (codes "cost_cents") s.cents.cost ∷
    number_member (codes "fee_cents") s.cents.fee ∷
    number_member (codes "copay_cents") s.cents.copay ∷
    number_member (codes "paid_cents") s.cents.paid ∷
    text_member (codes "cardholder") s.claim.cardholder ∷
    text_member (codes "product") s.claim.product ∷
    optional_member (codes "quantity_thousandths") s.claim.quantity ∷
    optional_member (codes "submitted_cost_cents") s.claim.cost ∷
    optional_member (codes "submitted_fee_cents") s.claim.fee ∷ []

-- the row of a payment: where it was made, whether a pharmacy counts it, and what the book has of it
abbrev pub payment_row : PaidAt → Bool → PaymentView → Row
payment_row at counted p = shown_row (record {
  payer = at.payer;
  pharmacy = at.id.pharmacy;
  number = at.id.number;
  transaction = at.transaction;
  authorization = authorization_text at.auth;
  state = state_word (is_some p.reversed_by);
  reversed_by = reversing p.reversed_by;
  counted = counted;
  fill = fill_shown p.fill;
  date = at.date;
  cents = cents_of p.amounts;
  claim = claim_shown at.claim;
})

abbrev pub found_payment : PaidAt → Bool → Option PaymentView → List Row
found_payment at counted None = []
found_payment at counted (Some p) = payment_row at counted p ∷ []

-- where the payment of an authorization was made
abbrev pub paid_at : ℕ → model.Row → ℕ → Auth → PaidAt
paid_at payer row transaction auth = record { payer = payer; id = row.id; transaction = transaction; auth = auth; date = date_in (readable_header row.request); claim = claim_asked row.request transaction }

-- the payment of an authorization in the book, where a ruling of this row made it; `counted` says which authorizations are counted
abbrev pub paid_rows : Context → (Auth → Bool) → Book → model.Row → ℕ → Auth → List Row
paid_rows ctx counted b row transaction auth =
    found_payment (paid_at b.payer row transaction auth) (counted auth) (option_map payment_view (payment_of auth (ruled_rows ctx b.rows)))

-- the payment that a ruling made, by its transaction of the row
abbrev pub ruling_payment : Context → (Auth → Bool) → Book → model.Row → ℕ → Ruling → List Row
ruling_payment ctx counted b row transaction (Paid auth prescription amounts) = paid_rows ctx counted b row transaction auth
ruling_payment ctx counted b row transaction (Duplicate auth prescription amounts) = []
ruling_payment ctx counted b row transaction (Reversed auth prescription) = []
ruling_payment ctx counted b row transaction (Rejected rejects) = []

-- what is told of the elements of a list, by their numbers from one on
abbrev pub told_from : {A : Type 0} → (ℕ → A → List Row) → ℕ → List A → List Row
told_from told number [] = []
told_from told number (x ∷ more) = told number x ++ told_from told (number + 1) more

-- the payments that a row of the book made
abbrev pub row_payments : Context → (Auth → Bool) → Book → model.Row → List Row
row_payments ctx counted b row = told_from (ruling_payment ctx counted b row) 1 row.rulings

-- the payments of a book, in the order in which they were made
abbrev pub book_payments : Context → (Auth → Bool) → Book → List Row
book_payments ctx counted b = flat_map (row_payments ctx counted b) b.rows
