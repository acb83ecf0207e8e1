-- An open entry is answered by a short list of events, and nobody else is touched.
use Rattle.std.specs.Prelude.{◌≡◌, ℕ, true, ◌≤◌, List, [], ◌∷◌, ◌++◌, length, Option, Some, None, Ok, option_map}
use Rattle.std.specs.List.{AllByRecursion}
use Rattle.claim_model.specs.Words.{Advice, TxnId, RequestHeader}
use Rattle.claim_model.specs.Context.{Context}
use Rattle.claim_model.specs.Readable.{readable, payer_for}
use Rattle.claim_model.specs.Rows.{Book}
use Rattle.claim_model.specs.Book.{row_of, new_row, unadvised, Answered, answered}
use Rattle.claim_model.specs.Numbered.{numbered}
use Rattle.claim_model.specs.Journal.{RetryRule, JournalAtRest, circle}
use Rattle.claim_model.specs.Node.{Pharmacy, advice_in}
use Rattle.claim_model.specs.World.{World, Event, run}
use Rattle.claim_model.specs.Held.{journal_at, book_at, entry_of, asked, held}
use Rattle.claim_recovery.specs.Help.{AllDone, HelpsOne, HelpsWithoutSwitch, is_tick, is_delivery, is_start, how_many}

-- the rule of retries by which a pharmacy goes
abbrev pub rule_at : World → ℕ → Option RetryRule
rule_at w n = option_map (λ (j : JournalAtRest). j.rule) (journal_at w n)

-- the pharmacy of an id has it as an open entry with this request
abbrev pub IsOpen : World → TxnId → List ℕ → Type 0
IsOpen w id request = entry_of w id ≡ Some (record { request = request; answer = None })

-- a request is delivered to a payer; or, to one that asks, with an advice
pub data Handed (b : Book) : Type 0 where
  ByDelivery : Handed b
  ByAdvice : (advice : List ℕ) → b.settings.asks ≡ true → Handed b

-- the rulings that a payer then has beside its book
abbrev pub handed_with : Context → (b : Book) → Handed b → Advice
handed_with ctx b ByDelivery = unadvised
handed_with ctx b (ByAdvice advice asks) = advice_in ctx advice

-- the book of a payer would answer this request now: it has the row, or room and serials for it, and where the payer asks an advice
pub record WouldAnswer (ctx : Context) (w : World) (payer : ℕ) (id : TxnId) (request : List ℕ) : Type 0 where
  pub book : Book
  pub there : book_at w payer ≡ Some book
  pub handed : Handed book
  pub answer : Answered
  pub answers : answered ctx book (handed_with ctx book handed) id request ≡ Ok answer

-- the premise on an entry: where its request has a route, the book of that payer would answer it. A request without a route needs nothing
abbrev pub Answerable : Context → World → TxnId → List ℕ → Type 0
Answerable ctx w id request = (header : RequestHeader) (payer : ℕ) → readable ctx request ≡ Some header → payer_for ctx id header ≡ Some payer → WouldAnswer ctx w payer id request

-- a list of accepted events that help, with at most this many ticks and starts and at most four deliveries, with an advice or without, after which the entry has an answer
pub record RecoveredBy (ctx : Context) (w : World) (id : TxnId) (may : Event → Type 0) (ticks starts : ℕ) : Type 0 where
  pub events : List Event
  pub done : AllDone ctx w events
  pub help : AllByRecursion may events
  pub ticks_few : how_many is_tick events ≤ ticks
  pub deliveries_few : how_many is_delivery events ≤ 4
  pub starts_few : how_many is_start events ≤ starts
  pub answer : List ℕ
  pub settled : held ctx (run ctx w events) (Pharmacy id.pharmacy) id ≡ Some answer

-- with ticks of this pharmacy alone, one wait at most, and three starts at most; what is delivered was sent after this moment
abbrev pub Recovered : Context → World → JournalAtRest → TxnId → Type 0
Recovered ctx w journal id = RecoveredBy ctx w id (HelpsOne (length w.packets) id.pharmacy) journal.rule.again 3

-- with one circle of ticks at most, two starts at most, and none of a switch
abbrev pub RecoveredThrough : Context → World → JournalAtRest → TxnId → Type 0
RecoveredThrough ctx w journal id = RecoveredBy ctx w id (HelpsWithoutSwitch (length w.packets) id.pharmacy) (circle journal.rule) 2

-- a book with one row more, which is what the rules give for this request with an advice
abbrev pub one_row_more : Context → Book → Advice → TxnId → List ℕ → Book
one_row_more ctx b advice id request = record { payer = b.payer; settings = b.settings; plan = b.plan; rows = b.rows ++ new_row ctx b advice id request ∷ [] }

-- the payer of the route of a request
pub record IsRouted (ctx : Context) (id : TxnId) (request : List ℕ) (payer : ℕ) : Type 0 where
  pub header : RequestHeader
  pub reads : readable ctx request ≡ Some header
  pub route : payer_for ctx id header ≡ Some payer

-- a book is as it was; or it is of the payer of the route, had no row of the id, and has this one row more
pub data BookLeft (ctx : Context) (id : TxnId) (request : List ℕ) (payer : ℕ) (before after : Option Book) : Type 0 where
  AsItWas : after ≡ before → BookLeft ctx id request payer before after
  OneRowMore : (b : Book) → (advice : Advice) → before ≡ Some b → row_of id b.rows ≡ None → IsRouted ctx id request payer → after ≡ Some (one_row_more ctx b advice id request) → BookLeft ctx id request payer before after

-- what a recovery leaves as it was. The tables of switches are not named here: a full one may lose its oldest entry
pub record LeavesOthers (ctx : Context) (w v : World) (id : TxnId) (request : List ℕ) : Type 0 where
  -- every other pharmacy, up or down, with its phases
  pub pharmacies : (n : ℕ) → (n ≡ id.pharmacy → ⊥) → numbered v.pharmacies n ≡ numbered w.pharmacies n
  -- every other entry of this pharmacy
  pub entries : (number : ℕ) → (number ≡ id.number → ⊥) → entry_of v (record { pharmacy = id.pharmacy; number = number }) ≡ entry_of w (record { pharmacy = id.pharmacy; number = number })
  -- the rule by which it sends again
  pub rule : rule_at v id.pharmacy ≡ rule_at w id.pharmacy
  -- the entry's own request
  pub asks : asked v id ≡ Some request
  pub books : (n : ℕ) → BookLeft ctx id request n (book_at w n) (book_at v n)

-- a recovery that leaves everybody else as they were
pub record RecoveredAlone (ctx : Context) (w : World) (journal : JournalAtRest) (id : TxnId) (request : List ℕ) : Type 0 where
  pub recovered : Recovered ctx w journal id
  pub others : LeavesOthers ctx w (run ctx w recovered.events) id request
