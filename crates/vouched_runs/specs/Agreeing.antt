-- States of pharmacies and payers: what each says by itself, and where they agree.
use Rattle.std.specs.Prelude.{◌≡◌, ◌≤◌, ⊤, ℕ, ◌+◌, true, List, [], ◌∷◌, ◌++◌, length, Option, Some, None, Result, option_and_then, option_map}
use Rattle.std.specs.List.{AllByRecursion}
use Rattle.claim_model.specs.Words.{TxnId, RequestHeader, Order, Code, Ruling}
use Rattle.claim_model.specs.Context.{Context}
use Rattle.claim_model.specs.Laws.{Laws, IsRuling}
use Rattle.claim_model.specs.Readable.{readable, payer_for}
use Rattle.claim_model.specs.Numbered.{numbered}
use Rattle.claim_model.specs.Ruled.{Ruled, ruled}
use Rattle.claim_model.specs.Rows.{Row, Book, ruled_rows}
use Rattle.claim_model.specs.Judgement.{Judged, Unpriced, ToPrice, ToReverse, judged, Verdict, next_auth, priced, Consent, taken_back}
use Rattle.claim_model.specs.Book.{row_of}
use Rattle.claim_model.specs.Journal.{PharmacySettings, JournalAtRest, Kept, is_own}
use Rattle.claim_model.specs.World.{World}
use Rattle.claim_model.specs.Settings.{PayerSettings, WorldSettings, Accepts}
use Rattle.claim_model.specs.Held.{journal_at, book_at, asked, decided}
use Rattle.crash_safety.specs.Explained.{Turn}
use Rattle.vouched_runs.specs.Parties.{Parties, world_of}
use Rattle.vouched_runs.specs.Vouched.{Leads}

-- an entry of a pharmacy: its request is readable, and the pharmacy's own
pub record IsOwnEntry (ctx : Context) (s : PharmacySettings) (e : Kept) : Type 0 where
  pub header : RequestHeader
  pub reads : readable ctx e.request ≡ Some header
  pub own : is_own s header ≡ true

-- the journal of the pharmacy of this number, by itself
pub record IsKeptJournal (ctx : Context) (settings : WorldSettings) (n : ℕ) (j : JournalAtRest) : Type 0 where
  pub number : j.number ≡ n
  pub as_given : numbered settings.pharmacies n ≡ Some j.settings
  pub room : length j.entries ≤ j.settings.cap
  pub entries : AllByRecursion (IsOwnEntry ctx j.settings) j.entries

-- a ruling that the rules give for some plan or advice, where the order was judged so: what is settled; or, of a claim that is to be priced,
-- what some verdict makes of it under the next authorization; or, of a reversal of a payment, what some consent makes of it
abbrev pub RulesGive : Book → List Ruled → Judged → Ruling → Type 0
RulesGive b before (Unpriced settled) r = r ≡ settled
RulesGive b before (ToPrice c) r = (v : Verdict) × (r ≡ priced (next_auth b before) c (Some v))
RulesGive b before (ToReverse auth v) r = (k : Consent) × (r ≡ taken_back auth v (Some k))

-- one such ruling for each order from a place on, each over all rows before and the earlier places of its own request
abbrev pub RulesGiveAll : Book → List Ruled → TxnId → ℕ → List (Result Order (List Code)) → List Ruling → Type 0
RulesGiveAll b before id place [] [] = ⊤
RulesGiveAll b before id place [] (r ∷ rulings) = ⊥
RulesGiveAll b before id place (order ∷ orders) [] = ⊥
RulesGiveAll b before id place (order ∷ orders) (r ∷ rulings) =
    RulesGive b before (judged before order) r × RulesGiveAll b (before ++ ruled id place order r ∷ []) id (place + 1) orders rulings

-- a row that can stand in a book after these: its id is new, its request is readable, and its rulings are those that the rules give over the
-- rows before, and can be written
pub record IsNextRow (ctx : Context) (b : Book) (before : List Row) (row : Row) : Type 0 where
  pub fresh : row_of row.id before ≡ None
  pub header : RequestHeader
  pub reads : readable ctx row.request ≡ Some header
  pub given : RulesGiveAll b (ruled_rows ctx before) row.id 1 (ctx.orders row.request) row.rulings
  pub written : AllByRecursion IsRuling row.rulings

-- rows that were made one after another, after these
abbrev pub AreNextRows : Context → Book → List Row → List Row → Type 0
AreNextRows ctx b before [] = ⊤
AreNextRows ctx b before (row ∷ rows) = IsNextRow ctx b before row × AreNextRows ctx b (before ++ row ∷ []) rows

-- the book of the payer of this number, by itself
pub record IsKeptBook (ctx : Context) (settings : WorldSettings) (n : ℕ) (b : Book) : Type 0 where
  pub payer : b.payer ≡ n
  pub as_given : option_map (λ (p : PayerSettings). p.book) (numbered settings.payers n) ≡ Some b.settings
  pub rows : AreNextRows ctx b [] b.rows

-- states as a node's record says them that is read by itself, under these settings: nothing is said of one node to another
pub record AreKept (ctx : Context) (settings : WorldSettings) (p : Parties) : Type 0 where
  pub journals : (n : ℕ) (j : JournalAtRest) → journal_at (world_of p) n ≡ Some j → IsKeptJournal ctx settings n j
  pub books : (n : ℕ) (b : Book) → book_at (world_of p) n ≡ Some b → IsKeptBook ctx settings n b

-- the payer to which the request of a row is routed
abbrev pub payer_of : Context → Row → Option ℕ
payer_of ctx row = option_and_then (payer_for ctx row.id) (readable ctx row.request)

-- states that agree: each row of a book has the request that its pharmacy's journal has under its id, and one that is routed to this payer; and
-- each answer in a journal is what was decided for its id, by the row at the routed payer or for want of a route
pub record Agree (ctx : Context) (p : Parties) : Type 0 where
  pub asks : (n : ℕ) (b : Book) (k : ℕ) (row : Row) → book_at (world_of p) n ≡ Some b → numbered b.rows k ≡ Some row → asked (world_of p) row.id ≡ Some row.request
  pub routes : (n : ℕ) (b : Book) (k : ℕ) (row : Row) → book_at (world_of p) n ≡ Some b → numbered b.rows k ≡ Some row → payer_of ctx row ≡ Some n
  pub answers : (n : ℕ) (j : JournalAtRest) (k : ℕ) (e : Kept) (a : List ℕ) → journal_at (world_of p) n ≡ Some j → numbered j.entries k ≡ Some e → e.answer ≡ Some a
      → decided ctx (world_of p) (record { pharmacy = n; number = k }) ≡ Some a

-- the premises: a reading of bytes that keeps its laws, settings that a world takes, and states that agree. Nothing is said of how they came about
pub record Agreeing (ctx : Context) (settings : WorldSettings) (p : Parties) : Type 0 where
  pub laws : Laws ctx
  pub accepts : Accepts ctx settings
  pub kept : AreKept ctx settings p
  pub agree : Agree ctx p

-- this is true of all parties that vouched calls lead to from such states
abbrev pub AlwaysFromAgreeing : (Context → World → Type 0) → Type 0
AlwaysFromAgreeing promise =
    (ctx : Context) (settings : WorldSettings) (p q : Parties) (turns : List Turn) → Agreeing ctx settings p → Leads ctx p turns q → promise ctx (world_of q)

-- and between the two
abbrev pub LaterFromAgreeing : (Context → World → World → Type 0) → Type 0
LaterFromAgreeing promise =
    (ctx : Context) (settings : WorldSettings) (p q : Parties) (turns : List Turn) → Agreeing ctx settings p → Leads ctx p turns q → promise ctx (world_of p) (world_of q)
