-- Answers that a pharmacy tells a caller before it keeps them.
use Rattle.std.specs.Prelude.{◌≡◌, ℕ, true, List, [], ◌∷◌, ◌++◌, replicate, Option, Some, None, Ok}
use Rattle.claim_model.specs.Words.{Advice, TxnId, RequestHeader, Ruling, Rejected, BadBin, RouteKey}
use Rattle.claim_model.specs.Context.{Context}
use Rattle.claim_model.specs.Laws.{Laws}
use Rattle.claim_model.specs.Readable.{readable, payer_for, rejection}
use Rattle.claim_model.specs.Numbered.{numbered}
use Rattle.claim_model.specs.Rows.{Book}
use Rattle.claim_model.specs.Book.{answered}
use Rattle.claim_model.specs.Journal.{Journal, JournalAtRest, Kept}
use Rattle.claim_model.specs.Node.{Node, Pharmacy, Power}
use Rattle.claim_model.specs.World.{World}
use Rattle.claim_model.specs.Settings.{WorldSettings, Accepts}
use Rattle.claim_model.specs.Held.{journal_in, book_at, asked, decided, held}
use Rattle.claim_model.specs.Nodes.{OfPharmacy}
use Rattle.crash_safety.specs.Network.{Network, Move, network}
use Rattle.crash_safety.specs.Kept.{Holds}
use Rattle.crash_safety.specs.Diskless.{light, HoldsHere}

-- a pharmacy that lives has this answer in memory, under this number: so it may have told it a caller. Nothing is said of its disk
pub record IsTold (n : Network) (id : TxnId) (a : List ℕ) : Type 0 where
  pub journal : Power Journal JournalAtRest
  pub lives : (n.at (Pharmacy id.pharmacy)).memory ≡ Some (OfPharmacy journal)
  pub entry : Kept
  pub stands : numbered (journal_in journal).entries id.number ≡ Some entry
  pub answer : entry.answer ≡ Some a

-- the answer comes again, byte for byte: its row is in the book of the payer to which the request is routed, which gives it
-- whatever an advice says, and changes nothing;
-- or it is the fixed rejection of a request without a route, which any switch gives
pub data ComesAgain (ctx : Context) (w : World) (id : TxnId) (a : List ℕ) : Type 0 where
  From_row : (request : List ℕ) → (h : RequestHeader) → (payer : ℕ) → (b : Book) → asked w id ≡ Some request → readable ctx request ≡ Some h → payer_for ctx id h ≡ Some payer → book_at w payer ≡ Some b
      → ((advice : Advice) → answered ctx b advice id request ≡ Ok (record { book = b; bytes = a; kept = true })) → ComesAgain ctx w id a
  Fixed : (request : List ℕ) → (h : RequestHeader) → asked w id ≡ Some request → readable ctx request ≡ Some h → payer_for ctx id h ≡ None → a ≡ rejection ctx h → ComesAgain ctx w id a

-- this is the answer for good
pub record IsFinal (ctx : Context) (w : World) (id : TxnId) (a : List ℕ) : Type 0 where
  pub decided_is : decided ctx w id ≡ Some a
  -- no node holds another one
  pub only : (node : Node) (x : List ℕ) → held ctx w node id ≡ Some x → x ≡ a
  pub again : ComesAgain ctx w id a

-- what a pharmacy told is the answer for good, on all disks and in all memories of that moment and of every later one, though a death takes its record
abbrev pub ToldForGood : Type 0
ToldForGood =
    (ctx : Context) (s : WorldSettings) (moves more : List Move) (id : TxnId) (a : List ℕ) (w : World) → Laws ctx → Accepts ctx s → IsTold (network ctx s moves) id a → Holds ctx s (network ctx s (moves ++ more)) w → IsFinal ctx w id a

-- the same where switches have no disk
abbrev pub ToldForGoodHere : Type 0
ToldForGoodHere =
    (ctx : Context) (s : WorldSettings) (moves more : List Move) (id : TxnId) (a : List ℕ) (w : World) → Laws ctx → Accepts ctx s → IsTold (light ctx s moves) id a → HoldsHere ctx s (light ctx s (moves ++ more)) w → IsFinal ctx w id a

-- a submitted request is readable, with this header
pub record IsAsked (ctx : Context) (w : World) (id : TxnId) (request : List ℕ) (h : RequestHeader) : Type 0 where
  pub submitted : asked w id ≡ Some request
  pub reads : readable ctx request ≡ Some h

-- the reading of bytes with other routes
abbrev pub rerouted : Context → (ℕ → RouteKey → Option ℕ) → Context
rerouted ctx route = record ctx { route = route }

-- all of the fixed rejection's rulings
abbrev pub bad_bins : RequestHeader → List Ruling
bad_bins h = replicate h.count (Rejected (BadBin ∷ []))
