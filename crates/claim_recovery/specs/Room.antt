-- What a book must have to answer a new request, and what it means to be never answered.
use Rattle.std.specs.Prelude.{◌≡◌, ℕ, ◌+◌, ◌<◌, ◌≤◌, true, false, List, [], ◌∷◌, length, slice_get, ⊤, Some, None, IsSome, Result, Ok, Err}
use Rattle.std.specs.List.{AllByRecursion}
use Rattle.claim_model.specs.Words.{TxnId, RequestHeader, Claim, Order, Bills, Reverses, Code, NotCovered, Ruling, Rejected, Plan, Amounts, Change}
use Rattle.claim_model.specs.Context.{Context}
use Rattle.claim_model.specs.Readable.{readable, payer_for}
use Rattle.claim_model.specs.Rows.{BookSettings, Book, ruled_rows}
use Rattle.claim_model.specs.Judgement.{verdict_in, consent_in, asks_reversals, standing_for, next_serial}
use Rattle.claim_model.specs.Book.{last_serial, row_of, new_row, unadvised, Answered, answered}
use Rattle.claim_model.specs.Numbered.{numbered}
use Rattle.claim_model.specs.Journal.{JournalAtRest}
use Rattle.claim_model.specs.Node.{Node, Payer, OfPlan, Done}
use Rattle.claim_model.specs.World.{World, Event, Submission, Ticking, Delivery, Stopping, Starting, Revising, Adjudication, step, run}
use Rattle.claim_model.specs.Held.{book_at, asked, held}
use Rattle.claim_recovery.specs.Recovered.{Recovered}

-- room for one row more, and a serial for each of this many transactions
pub record HasRoom (ctx : Context) (b : Book) (transactions : ℕ) : Type 0 where
  pub rows : length b.rows < b.settings.cap
  pub serials : next_serial b (ruled_rows ctx b.rows) + transactions ≤ last_serial + 1

-- a request that was asked, its header, and the book of the payer to which it is routed
pub record IsAskedOf (ctx : Context) (w : World) (id : TxnId) (request : List ℕ) (header : RequestHeader) (payer : ℕ) (b : Book) : Type 0 where
  pub asks : asked w id ≡ Some request
  pub reads : readable ctx request ≡ Some header
  pub route : payer_for ctx id header ≡ Some payer
  pub book : book_at w payer ≡ Some b

-- the book of the route of a request has its row, or room for one and serials for its transactions
abbrev pub RoomInBook : Context → World → TxnId → List ℕ → Type 0
RoomInBook ctx w id request = (header : RequestHeader) (payer : ℕ) (b : Book) → readable ctx request ≡ Some header → payer_for ctx id header ≡ Some payer → book_at w payer ≡ Some b → row_of id b.rows ≡ None → HasRoom ctx b header.count

-- no node holds an answer to this id after any list of such events
abbrev pub Never : Context → World → TxnId → (Event → Type 0) → Type 0
Never ctx w id may = (events : List Event) (node : Node) → AllByRecursion may events → held ctx (run ctx w events) node id ≡ None

abbrev pub AnyEvent : Event → Type 0
AnyEvent event = ⊤

-- no change of this payer's plan
abbrev pub KeepsPlan : ℕ → Event → Type 0
KeepsPlan payer (Submission n text) = ⊤
KeepsPlan payer (Ticking n) = ⊤
KeepsPlan payer (Delivery k) = ⊤
KeepsPlan payer (Stopping node) = ⊤
KeepsPlan payer (Starting node) = ⊤
KeepsPlan payer (Revising node revision) = node ≡ Payer payer → ⊥
KeepsPlan payer (Adjudication k advice) = ⊤

-- an advice has what may be asked about the order at a place, from 0: a verdict on a claim, and a consent to a reversal where the payer asks about these
abbrev pub Advises : BookSettings → List Ruling → ℕ → Result Order (List Code) → Type 0
Advises s advice k (Err codes) = ⊤
Advises s advice k (Ok (Bills c)) = IsSome (verdict_in c.fill.prescription (slice_get advice k))
Advises s advice k (Ok (Reverses v)) = asks_reversals s ≡ true → IsSome (consent_in v.prescription (slice_get advice k))

-- and about each order
abbrev pub AdvisesAll : BookSettings → List Ruling → List (Result Order (List Code)) → Type 0
AdvisesAll s advice orders = (k : ℕ) (order : Result Order (List Code)) → slice_get orders k ≡ Some order → Advises s advice k order

-- the payer prices by its plan, and one of the claims of a request has no standing payment for its fill, and the plan would pay it
pub record WantsSerial (ctx : Context) (b : Book) (request : List ℕ) : Type 0 where
  pub by_plan : b.settings.asks ≡ false
  pub place : ℕ
  pub claim : Claim
  pub stands : numbered (ctx.orders request) place ≡ Some (Ok (Bills claim))
  pub no_payment : standing_for claim.fill (ruled_rows ctx b.rows) ≡ None
  pub amounts : Amounts
  pub price : ctx.price b.plan claim ≡ Some amounts

-- the plan pays none of the claims of a request
abbrev pub PaysNone : Context → Plan → List ℕ → Type 0
PaysNone ctx plan request = (place : ℕ) (claim : Claim) → numbered (ctx.orders request) place ≡ Some (Ok (Bills claim)) → ctx.price plan claim ≡ None

-- every claim of a request is for this product
abbrev pub AsksOnlyFor : Context → List ℕ → List ℕ → Type 0
AsksOnlyFor ctx product request = (place : ℕ) (claim : Claim) → numbered (ctx.orders request) place ≡ Some (Ok (Bills claim)) → claim.product ≡ product

abbrev pub with_plan : Book → Plan → Book
with_plan b plan = record { payer = b.payer; settings = b.settings; plan = plan; rows = b.rows }

-- after a change of plan the entry can be answered, and each of its claims that has no standing payment is then rejected with 70
pub record RejectedAfter (ctx : Context) (w : World) (journal : JournalAtRest) (id : TxnId) (request : List ℕ) (payer : ℕ) (b : Book) (change : Change) (plan : Plan) : Type 0 where
  pub world : World
  pub changes : step ctx w (Revising (Payer payer) (OfPlan change)) ≡ Done world []
  pub recovered : Recovered ctx world journal id
  pub answer : Answered
  pub answers : answered ctx (with_plan b plan) unadvised id request ≡ Ok answer
  pub row : row_of id answer.book.rows ≡ Some (new_row ctx (with_plan b plan) unadvised id request)
  pub not_covered : (place : ℕ) (claim : Claim) → numbered (ctx.orders request) place ≡ Some (Ok (Bills claim)) → standing_for claim.fill (ruled_rows ctx b.rows) ≡ None → numbered (new_row ctx (with_plan b plan) unadvised id request).rulings place ≡ Some (Rejected (NotCovered ∷ []))
