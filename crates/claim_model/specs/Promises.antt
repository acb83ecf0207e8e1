-- What holds of every world that events lead to.
use Rattle.std.specs.Prelude.{⊤, ◌⊎◌, Bool, Option, None, ◌++◌, ◌≡◌, ◌<◌, ◌≤◌, ℕ, true, false, List, Some, Ok}
use Rattle.claim_model.specs.Words.{TxnId, Auth, Ruling, Reversed, RequestHeader, ResponseHeader, Envelope}
use Rattle.claim_model.specs.Context.{Context}
use Rattle.claim_model.specs.Laws.{Laws}
use Rattle.claim_model.specs.Readable.{is_request, readable, reversal_code}
use Rattle.claim_model.specs.Ruled.{Ruled}
use Rattle.claim_model.specs.Payments.{Payment, is_standing, standing, payment_of, reverses}
use Rattle.claim_model.specs.Rows.{Row, Book, ruled_rows}
use Rattle.claim_model.specs.Numbered.{numbered}
use Rattle.claim_model.specs.Journal.{JournalAtRest, Kept}
use Rattle.claim_model.specs.Counted.{Counted, named, told, counted}
use Rattle.claim_model.specs.Table.{Slot, Table}
use Rattle.claim_model.specs.Refusal.{Refusal, NoSuchPacket, Down, AlreadySettled, NotWaiting, BookFull, SerialsUsedUp, NotAdvised}
use Rattle.claim_model.specs.Node.{Node, Pharmacy, Switch, Payer, Up, Refused}
use Rattle.claim_model.specs.World.{World, Packet, Event, Delivery, Adjudication, step, run}
use Rattle.claim_model.specs.Settings.{WorldSettings, Accepts, opening}
use Rattle.claim_model.specs.Held.{journal_at, book_at, asked, row_answer, decided, held, held_place}

-- the premises of every theorem: a reading of bytes that keeps its laws, settings that a world takes, and any list of events from their opening world
pub record Reached (ctx : Context) (settings : WorldSettings) (w : World) : Type 0 where
  pub laws : Laws ctx
  pub accepts : Accepts ctx settings
  pub events : List Event
  pub leads : run ctx (opening settings) events ≡ w

-- this is true of every world that events lead to
abbrev pub Always : (Context → World → Type 0) → Type 0
Always promise = (ctx : Context) (settings : WorldSettings) (w : World) → Reached ctx settings w → promise ctx w

-- a packet is an envelope, and a request in it is the one that was submitted under its id
pub record AsksAsSubmitted (ctx : Context) (w : World) (p : Packet) : Type 0 where
  pub envelope : Envelope
  pub reads : ctx.read_envelope p.bytes ≡ Ok envelope
  pub asks : is_request envelope ≡ true → asked w envelope.id ≡ Some envelope.payload

-- each request for an id, in a packet, a table or a book, is the request of that number in that pharmacy's journal
pub record RequestsAreSubmitted (ctx : Context) (w : World) : Type 0 where
  pub packets : (k : ℕ) (p : Packet) → numbered w.packets k ≡ Some p → AsksAsSubmitted ctx w p
  pub tables : (n : ℕ) (t : Table) (k : ℕ) (e : TxnId × Slot) → numbered w.switches n ≡ Some (Up t) → numbered t.entries k ≡ Some e → asked w e.0 ≡ Some e.1.request
  pub books : (n : ℕ) (b : Book) (k : ℕ) (row : Row) → book_at w n ≡ Some b → numbered b.rows k ≡ Some row → asked w row.id ≡ Some row.request

-- an answer in a packet is what was decided for its id
pub record AnswersAsDecided (ctx : Context) (w : World) (p : Packet) : Type 0 where
  pub envelope : Envelope
  pub reads : ctx.read_envelope p.bytes ≡ Ok envelope
  pub answers : is_request envelope ≡ false → decided ctx w envelope.id ≡ Some envelope.payload

-- each answer for an id, in a packet, a table, a journal or a book, is what was decided for it: the answer of its row in the book of the
-- payer to which its request is routed, or the fixed rejection where it has no route
pub record AnswersAreDecided (ctx : Context) (w : World) : Type 0 where
  pub packets : (k : ℕ) (p : Packet) → numbered w.packets k ≡ Some p → AnswersAsDecided ctx w p
  pub tables : (n : ℕ) (t : Table) (k : ℕ) (e : TxnId × Slot) (a : List ℕ) → numbered w.switches n ≡ Some (Up t) → numbered t.entries k ≡ Some e → e.1.answer ≡ Some a → decided ctx w e.0 ≡ Some a
  pub journals : (n : ℕ) (j : JournalAtRest) (k : ℕ) (e : Kept) (a : List ℕ) → journal_at w n ≡ Some j → numbered j.entries k ≡ Some e → e.answer ≡ Some a → decided ctx w (record { pharmacy = n; number = k }) ≡ Some a
  pub books : (n : ℕ) (b : Book) (k : ℕ) (row : Row) (a : List ℕ) → book_at w n ≡ Some b → numbered b.rows k ≡ Some row → row_answer ctx row ≡ Some a → decided ctx w row.id ≡ Some a

-- no two nodes hold different answers to one id, at one time or at two
pub record OneAnswer (ctx : Context) (w v : World) : Type 0 where
  pub bytes : (a b : Node) (id : TxnId) (x y : List ℕ) → held ctx w a id ≡ Some x → held ctx v b id ≡ Some y → x ≡ y
  -- so the header and the ruling of each place are the same
  pub places : (a b : Node) (id : TxnId) (place : ℕ) (x y : ResponseHeader × Ruling) → held_place ctx w a id place ≡ Some x → held_place ctx v b id place ≡ Some y → x ≡ y

-- an answer that a node holds for an id has a ruling on each transaction of its request, at each place from 1 to their count
pub record HeldWhole (ctx : Context) (w : World) (node : Node) (id : TxnId) : Type 0 where
  pub request : List ℕ
  pub submitted : asked w id ≡ Some request
  pub header : RequestHeader
  pub reads : readable ctx request ≡ Some header
  pub places : (place : ℕ) → 0 < place → place ≤ header.count → (x : ResponseHeader × Ruling) × (held_place ctx w node id place ≡ Some x)

pub record AnswersAreWhole (ctx : Context) (w : World) : Type 0 where
  pub whole : (node : Node) (id : TxnId) (a : List ℕ) → held ctx w node id ≡ Some a → HeldWhole ctx w node id

-- all that the payer of a book ruled, in order
abbrev pub rulings_of : Context → Book → List Ruled
rulings_of ctx b = ruled_rows ctx b.rows

-- two standing payments of one fill, in any two books, are one payment of one book
pub record OneStandingPayment (ctx : Context) (w : World) : Type 0 where
  pub one : (n m : ℕ) (b c : Book) (i j : ℕ) (p q : Payment) → book_at w n ≡ Some b → book_at w m ≡ Some c → numbered (standing (rulings_of ctx b)) i ≡ Some p → numbered (standing (rulings_of ctx c)) j ≡ Some q → p.claim.fill ≡ q.claim.fill → (n ≡ m) × (i ≡ j)

-- a payment with this authorization, of the provider whose pharmacy asked
pub record OwnPayment (ctx : Context) (w : World) (b : Book) (id : TxnId) (auth : Auth) : Type 0 where
  pub payment : Payment
  pub found : payment_of auth (rulings_of ctx b) ≡ Some payment
  pub journal : JournalAtRest
  pub there : journal_at w id.pharmacy ≡ Some journal
  pub qualifier : journal.settings.qualifier ≡ payment.claim.fill.qualifier
  pub provider : journal.settings.provider ≡ payment.claim.fill.provider

-- each Reversed ruling came from the pharmacy whose provider identity the payment has
pub record ReversedByOwner (ctx : Context) (w : World) : Type 0 where
  pub reversed : (n : ℕ) (b : Book) (k : ℕ) (r : Ruled) (auth : Auth) (prescription : ℕ) → book_at w n ≡ Some b → numbered (rulings_of ctx b) k ≡ Some r → r.ruling ≡ Reversed auth prescription → OwnPayment ctx w b r.id auth

-- an id is of a pharmacy, whose journal has its number as a reversal without an answer
pub record HeldOpen (ctx : Context) (pharmacy : ℕ) (j : JournalAtRest) (id : TxnId) : Type 0 where
  pub of_it : id.pharmacy ≡ pharmacy
  pub entry : Kept
  pub stands : numbered j.entries id.number ≡ Some entry
  pub header : RequestHeader
  pub reads : readable ctx entry.request ≡ Some header
  pub is_reversal : header.code ≡ reversal_code
  pub is_open : entry.answer ≡ None

-- a payment that a pharmacy counts stands in the book of its payer, with the same fill and amounts; or it was reversed there, by an id which
-- this pharmacy asked for and still holds open, as is each id whose ruling reverses it
pub record StandsOrReversed (ctx : Context) (w : World) (pharmacy : ℕ) (j : JournalAtRest) (c : Counted) : Type 0 where
  pub book : Book
  pub there : book_at w c.auth.payer ≡ Some book
  pub payment : Payment
  pub found : payment_of c.auth (rulings_of ctx book) ≡ Some payment
  pub fill : payment.claim.fill ≡ c.fill
  pub amounts : payment.amounts ≡ c.amounts
  pub reversed : (id : TxnId) → payment.reversed_by ≡ Some id → HeldOpen ctx pharmacy j id
  pub reversals : (k : ℕ) (r : Ruled) → numbered (rulings_of ctx book) k ≡ Some r → reverses c.auth r ≡ true → HeldOpen ctx pharmacy j r.id

pub record CountedPaymentsStand (ctx : Context) (w : World) : Type 0 where
  pub counts : (n : ℕ) (j : JournalAtRest) (k : ℕ) (c : Counted) → journal_at w n ≡ Some j → numbered (counted ctx j) k ≡ Some c → StandsOrReversed ctx w n j c

-- a pharmacy counts a payment with this authorization
pub record IsCounted (ctx : Context) (j : JournalAtRest) (auth : Auth) : Type 0 where
  pub number : ℕ
  pub payment : Counted
  pub stands : numbered (counted ctx j) number ≡ Some payment
  pub same : payment.auth ≡ auth

-- a payment that an answer in a pharmacy's journal names, by Paid or by Duplicate, and that stands in its book, is counted
pub record StandingAreCounted (ctx : Context) (w : World) : Type 0 where
  pub counted : (n : ℕ) (j : JournalAtRest) (k : ℕ) (r : Ruled) (c : Counted) (b : Book) (p : Payment) → journal_at w n ≡ Some j → numbered (told ctx j) k ≡ Some r → named r ≡ Some c
      → book_at w c.auth.payer ≡ Some b → payment_of c.auth (rulings_of ctx b) ≡ Some p → is_standing p ≡ true → IsCounted ctx j c.auth

-- an entry keeps its request for good, and its answer once it has one
pub record EntryStays (j : JournalAtRest) (k : ℕ) (e : Kept) : Type 0 where
  pub entry : Kept
  pub stands : numbered j.entries k ≡ Some entry
  pub request : entry.request ≡ e.request
  pub answer : (a : List ℕ) → e.answer ≡ Some a → entry.answer ≡ Some a

-- a later journal is of the same pharmacy, and has every entry that there was, under its number
pub record JournalStays (v : World) (n : ℕ) (j : JournalAtRest) : Type 0 where
  pub journal : JournalAtRest
  pub there : journal_at v n ≡ Some journal
  pub number : journal.number ≡ j.number
  pub settings : journal.settings ≡ j.settings
  pub entries : (k : ℕ) (e : Kept) → numbered j.entries k ≡ Some e → EntryStays journal k e

-- a later book is of the same payer, and has every row that there was, in the same order, and new ones after
pub record BookStays (v : World) (n : ℕ) (b : Book) : Type 0 where
  pub book : Book
  pub there : book_at v n ≡ Some book
  pub payer : book.payer ≡ b.payer
  pub settings : book.settings ≡ b.settings
  pub more : List Row
  pub rows : book.rows ≡ b.rows ++ more

-- what journals and books had decided stays decided
pub record StaysDecided (w v : World) : Type 0 where
  pub journals : (n : ℕ) (j : JournalAtRest) → journal_at w n ≡ Some j → JournalStays v n j
  pub books : (n : ℕ) (b : Book) → book_at w n ≡ Some b → BookStays v n b

-- which refusals a delivery can meet
abbrev pub MayMeet : Refusal → Type 0
MayMeet NoSuchPacket = ⊤
MayMeet Down = ⊤
MayMeet NotWaiting = ⊤
MayMeet AlreadySettled = ⊤
MayMeet BookFull = ⊤
MayMeet SerialsUsedUp = ⊤
MayMeet other = ⊥

-- the payer of a book that is there asks
abbrev pub asks_in : Option Book → Bool
asks_in None = false
asks_in (Some b) = b.settings.asks

-- the node is a payer that asks
abbrev pub asks_at : World → Node → Bool
asks_at w (Pharmacy n) = false
asks_at w (Switch n) = false
asks_at w (Payer n) = asks_in (book_at w n)

-- the packet is for a payer that asks
abbrev pub is_asking : World → Option Packet → Bool
is_asking w None = false
is_asking w (Some p) = asks_at w p.to

-- the same; and at a payer that asks, that it has no advice
abbrev pub MayMeetAt : Bool → Refusal → Type 0
MayMeetAt asks why = MayMeet why ⊎ ((asks ≡ true) × (why ≡ NotAdvised))

-- a delivery is refused for these reasons alone
abbrev pub DeliveriesMeet : Context → World → Type 0
DeliveriesMeet ctx w = (k : ℕ) (why : Refusal) → step ctx w (Delivery k) ≡ Refused why → MayMeetAt (is_asking w (numbered w.packets k)) why

-- and so is an adjudication of a packet for a payer that asks
abbrev pub AdjudicationsMeet : Context → World → Type 0
AdjudicationsMeet ctx w = (k : ℕ) (advice : List ℕ) (why : Refusal) → is_asking w (numbered w.packets k) ≡ true → step ctx w (Adjudication k advice) ≡ Refused why → MayMeetAt true why
