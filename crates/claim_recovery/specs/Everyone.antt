-- All open entries of all pharmacies at once.
use Rattle.std.specs.Prelude.{◌≡◌, ℕ, ◌+◌, ◌<◌, ◌≤◌, Bool, ◌&&◌, is_none, List, [], ◌∷◌, ◌++◌, length, filter, sum_by, Option, Some, None, option_and_then}
use Rattle.std.specs.List.{AllByRecursion}
use Rattle.claim_model.specs.Words.{TxnId, RequestHeader}
use Rattle.claim_model.specs.Context.{Context}
use Rattle.claim_model.specs.Readable.{readable, payer_for, is_payer}
use Rattle.claim_model.specs.Rows.{Book, ruled_rows}
use Rattle.claim_model.specs.Judgement.{next_serial}
use Rattle.claim_model.specs.Book.{last_serial}
use Rattle.claim_model.specs.Numbered.{numbered}
use Rattle.claim_model.specs.Journal.{RetryRule, Journal, JournalAtRest, Kept}
use Rattle.claim_model.specs.Node.{Pharmacy, Power}
use Rattle.claim_model.specs.World.{World, Event, run}
use Rattle.claim_model.specs.Held.{journal_in, book_at, asked, row_at, held}
use Rattle.claim_recovery.specs.Help.{AllDone, Helps}
use Rattle.claim_recovery.specs.Recovered.{rule_at, IsOpen}

-- ---- the open entries of a world, by their ids

abbrev pub open_at : TxnId → Option (List ℕ) → List TxnId
open_at id None = id ∷ []
open_at id (Some answer) = []

-- of a journal's entries from a number on
abbrev pub open_from : ℕ → ℕ → List Kept → List TxnId
open_from pharmacy number [] = []
open_from pharmacy number (k ∷ more) = open_at (record { pharmacy = pharmacy; number = number }) k.answer ++ open_from pharmacy (number + 1) more

-- of pharmacies from a number on
abbrev pub open_in : ℕ → List (Power Journal JournalAtRest) → List TxnId
open_in pharmacy [] = []
open_in pharmacy (p ∷ more) = open_from pharmacy 1 (journal_in p).entries ++ open_in (pharmacy + 1) more

abbrev pub open_ids : World → List TxnId
open_ids w = open_in 1 w.pharmacies

-- ---- what books need for them

abbrev pub header_of : Context → World → TxnId → Option RequestHeader
header_of ctx w id = option_and_then (readable ctx) (asked w id)

-- the request of an id is routed to this payer, whose book has no row of it yet
abbrev pub needs_row : Context → World → ℕ → TxnId → Bool
needs_row ctx w payer id = is_payer payer (option_and_then (payer_for ctx id) (header_of ctx w id)) && is_none (row_at w payer id)

-- those of some ids that a payer has not decided
abbrev pub undecided : Context → World → ℕ → List TxnId → List TxnId
undecided ctx w payer ids = filter (needs_row ctx w payer) ids

abbrev pub count_in : Option RequestHeader → ℕ
count_in None = 0
count_in (Some h) = h.count

-- how many transactions the request of an id has
abbrev pub transactions : Context → World → TxnId → ℕ
transactions ctx w id = count_in (header_of ctx w id)

-- room for a row of each of these, and a serial for each of their transactions
pub record HasRoomFor (ctx : Context) (w : World) (b : Book) (ids : List TxnId) : Type 0 where
  pub rows : length b.rows + length ids ≤ b.settings.cap
  pub serials : next_serial b (ruled_rows ctx b.rows) + sum_by (transactions ctx w) ids ≤ last_serial + 1

-- the premise: each book has room and serials for those of these ids that it has not decided, asked only where there are such
abbrev pub RoomForAll : Context → World → List TxnId → Type 0
RoomForAll ctx w ids = (payer : ℕ) (b : Book) → book_at w payer ≡ Some b → 0 < length (undecided ctx w payer ids) → HasRoomFor ctx w b (undecided ctx w payer ids)

-- ---- what is reached

abbrev pub again_in : Option RetryRule → ℕ
again_in None = 0
again_in (Some r) = r.again

-- an open entry costs one wait of its pharmacy, as its rule is then, four deliveries and three starts at most
abbrev pub cost : World → TxnId → ℕ
cost w id = again_in (rule_at w id.pharmacy) + 7

-- the pharmacy of an id holds its answer
pub record IsSettled (ctx : Context) (w : World) (id : TxnId) : Type 0 where
  pub answer : List ℕ
  pub settled : held ctx w (Pharmacy id.pharmacy) id ≡ Some answer

-- one list of accepted events that help, after which every entry that was open has its answer, and no entry of any pharmacy is open
pub record AllRecovered (ctx : Context) (w : World) : Type 0 where
  pub events : List Event
  pub done : AllDone ctx w events
  pub help : AllByRecursion (Helps (length w.packets)) events
  pub few : length events ≤ sum_by (cost w) (open_ids w)
  pub settled : (id : TxnId) (request : List ℕ) → IsOpen w id request → IsSettled ctx (run ctx w events) id
  pub none_open : (id : TxnId) (request : List ℕ) → IsOpen (run ctx w events) id request → ⊥
