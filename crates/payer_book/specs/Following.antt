-- The kept rows that stand in a book, told without reading their answers.
use Rattle.std.specs.Prelude.{◌≡◌, ◌⊎◌, ℕ, ◌+◌, ◌<◌, ◌≤◌, Bool, true, false, List, [], ◌∷◌, ◌++◌, map, length, Some, None, Result, ⊤}
use Rattle.std.specs.List.{list_all}
use Rattle.claim_profile.specs.Readable.{readable_header}
use Rattle.carried_fields.specs.Carrying.{carrying_text}
use Rattle.claim_model.specs.Words.{TxnId, RequestHeader, AcceptedStatus, Amounts, Order, Code, NotCovered, Ruling, Paid, Reversed, Rejected}
use Rattle.claim_model.specs.Laws.{IsAmounts, IsRejects}
use Rattle.claim_model.specs.Ruled.{Ruled, ruled}
use Rattle.claim_model.specs.Rows.{Book, ruled_rows}
use Rattle.claim_model.specs.Judgement.{Judged, Unpriced, ToPrice, ToReverse, judged, next_auth, asks_reversals}
use Rattle.claim_model.specs.Book.{row_of, serial_fits}
use Rattle.payer_book.specs.Books.{reading}
use Rattle.payer_book.specs.Added.{KeptRow, kept_row, carried_in, row_saying, with_row, added_all}

-- codes that may reject a claim which is to be priced: 70; of a payer that asks, any one to five
abbrev pub MayReject : Bool → List Code → Type 0
MayReject true codes = IsRejects codes
MayReject false codes = codes ≡ NotCovered ∷ []

-- codes that may reject a reversal for which there is a payment: none; of a payer that asks about reversals, any one to five
abbrev pub MayDeny : Bool → List Code → Type 0
MayDeny true codes = IsRejects codes
MayDeny false codes = ⊥

-- a ruling that the rules give for some plan, or for some advice, where the order was judged so: what is settled; or, of a claim that is to be
-- priced, such a rejection, or a payment under the next authorization in any amounts that can be written; or, of a reversal for which there is a
-- payment, such a rejection, or that the payment is taken back
abbrev pub FollowsRules : Book → List Ruled → Judged → Ruling → Type 0
FollowsRules b before (Unpriced ruling) r = r ≡ ruling
FollowsRules b before (ToPrice c) r =
    ((codes : List Code) × MayReject b.settings.asks codes × (r ≡ Rejected codes)) ⊎ ((m : Amounts) × IsAmounts m × (r ≡ Paid (next_auth b before) c.fill.prescription m))
FollowsRules b before (ToReverse auth v) r =
    ((codes : List Code) × MayDeny (asks_reversals b.settings) codes × (r ≡ Rejected codes)) ⊎ (r ≡ Reversed auth v.prescription)

-- one such ruling for each order from a place on, each over all rows before and the earlier places of its own request
abbrev pub AllFollow : Book → List Ruled → TxnId → ℕ → List (Result Order (List Code)) → List Ruling → Type 0
AllFollow b before id place [] [] = ⊤
AllFollow b before id place [] (r ∷ rulings) = ⊥
AllFollow b before id place (order ∷ orders) [] = ⊥
AllFollow b before id place (order ∷ orders) (r ∷ rulings) = FollowsRules b before (judged before order) r × AllFollow b (before ++ ruled id place order r ∷ []) id (place + 1) orders rulings

-- a kept row can stand in a book, and this is the book with it: there is room, the id is new, the request is readable, and the answer is
-- the one with some rulings that follow the rules, each payment with a serial that there is, and with what it carries
pub record RowStands (b : Book) (id : TxnId) (request answer : List ℕ) (after : Book) : Type 0 where
  pub room : length b.rows < b.settings.cap
  pub fresh : row_of id b.rows ≡ None
  pub header : RequestHeader
  pub reads : readable_header request ≡ Some header
  pub rulings : List Ruling
  pub follow : AllFollow b (ruled_rows reading b.rows) id 1 (reading.orders request) rulings
  pub fit : list_all serial_fits rulings ≡ true
  pub text : answer ≡ carrying_text header AcceptedStatus rulings (carried_in b request rulings answer)
  pub book : after ≡ with_row b (row_saying b id request rulings answer)

-- a book as there are: its payer and its first serial are those of an authorization, and its rows were added one by one
pub record IsKeptBook (b : Book) : Type 0 where
  pub some_payer : 1 ≤ b.payer
  pub payer_fits : b.payer ≤ 9999
  pub some_serial : 1 ≤ b.settings.serial
  pub made : added_all (Some (record { payer = b.payer; settings = b.settings; plan = b.plan; rows = [] })) (map kept_row b.rows) ≡ Some b

-- the book after some kept rows is the one before them with these rows after its own
pub record KeepsRows (b : Book) (more : List KeptRow) (after : Book) : Type 0 where
  pub payer : after.payer ≡ b.payer
  pub settings : after.settings ≡ b.settings
  pub plan : after.plan ≡ b.plan
  pub rows : map kept_row after.rows ≡ map kept_row b.rows ++ more
