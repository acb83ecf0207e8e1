-- A switch's in-flight table, which is lost when the switch stops.
use Rattle.std.specs.Prelude.{ℕ, cond, nat_lt, List, [], ◌∷◌, ◌++◌, map, drop, length, Option, Some, None, Result, Ok, Err, bytes_eq}
use Rattle.std.specs.Map.{lookup}
use Rattle.claim_model.specs.Words.{TxnId, RequestHeader, Envelope, Answer}
use Rattle.claim_model.specs.Context.{Context}
use Rattle.claim_model.specs.Readable.{readable, payer_for, rejection, same_id, answer_envelope, is_request}
use Rattle.claim_model.specs.Refusal.{Refusal, Unreadable, NumberReused, NotWaiting, Differs}

-- a request that was forwarded, and its answer once that came
pub record Slot : Type 0 where
  pub request : List ℕ
  pub answer : Option (List ℕ)

-- the slots by their ids, oldest first, and how many there may be
pub record Table : Type 0 where
  pub cap : ℕ
  pub entries : List (TxnId × Slot)

-- what a switch does with a request: forward it to a payer, or answer it
pub data Routed : Type 0 where
  Forward : (payer : ℕ) → (bytes : List ℕ) → Routed
  Back : (bytes : List ℕ) → Routed

-- the table after a request, and what is sent
pub record Requested : Type 0 where
  pub table : Table
  pub routed : Routed

-- the slot of an id
abbrev pub slot_of : TxnId → List (TxnId × Slot) → Option Slot
slot_of id entries = lookup (same_id id) entries

-- a new slot goes last; in a full table the oldest one leaves
abbrev pub entered : Table → TxnId → Slot → Table
entered t id slot = record { cap = t.cap; entries = cond (nat_lt (length t.entries) t.cap) t.entries (drop 1 t.entries) ++ (id, slot) ∷ [] }

abbrev pub answer_back : Context → TxnId → List ℕ → Routed
answer_back ctx id answer = Back (ctx.envelope (answer_envelope id answer))

-- to the payer of the route, with the same bytes, or back with the fixed rejection
abbrev pub routed_by : Context → Envelope → RequestHeader → Option ℕ → Routed
routed_by ctx e h None = answer_back ctx e.id (rejection ctx h)
routed_by ctx e h (Some payer) = Forward payer (ctx.envelope e)

abbrev pub requested_again : Context → Table → Envelope → RequestHeader → Option (List ℕ) → Requested
requested_again ctx t e h (Some answer) = record { table = t; routed = answer_back ctx e.id answer }
requested_again ctx t e h None = record { table = t; routed = routed_by ctx e h (payer_for ctx e.id h) }

abbrev pub entered_where : Table → Envelope → Option ℕ → Table
entered_where t e None = t
entered_where t e (Some payer) = entered t e.id (record { request = e.payload; answer = None })

abbrev pub requested_by : Context → Table → Envelope → RequestHeader → Option Slot → Result Requested Refusal
requested_by ctx t e h (Some slot) = cond (bytes_eq slot.request e.payload) (Ok (requested_again ctx t e h slot.answer)) (Err NumberReused)
requested_by ctx t e h None = Ok (record { table = entered_where t e (payer_for ctx e.id h); routed = routed_by ctx e h (payer_for ctx e.id h) })

abbrev pub requested_readable : Context → Table → Envelope → Option RequestHeader → Result Requested Refusal
requested_readable ctx t e None = Err Unreadable
requested_readable ctx t e (Some h) = requested_by ctx t e h (slot_of e.id t.entries)

-- a request at a switch: one with an answer gets it, one in flight is forwarded again, a new one is entered where it has a route
unfoldable pub requested : Context → Table → Envelope → Result Requested Refusal
requested ctx t e = cond (is_request e) (requested_readable ctx t e (readable ctx e.payload)) (Err Unreadable)

-- the table with an answer at an id
abbrev pub filled : Table → TxnId → List ℕ → Table
filled t id answer = record { cap = t.cap; entries = map (λ e. cond (same_id id e.0) (e.0, record { request = e.1.request; answer = Some answer }) e) t.entries }

-- the table after a response, and the packet for the pharmacy
pub record Responded : Type 0 where
  pub table : Table
  pub bytes : List ℕ

abbrev pub responded_with : Context → Table → Envelope → Option (List ℕ) → Result Responded Refusal
responded_with ctx t e None = Ok (record { table = filled t e.id e.payload; bytes = ctx.envelope e })
responded_with ctx t e (Some held) = cond (bytes_eq held e.payload) (Ok (record { table = t; bytes = ctx.envelope e })) (Err Differs)

abbrev pub responded_by : Context → Table → Envelope → Option Slot → Result Responded Refusal
responded_by ctx t e None = Err NotWaiting
responded_by ctx t e (Some slot) = responded_with ctx t e slot.answer

abbrev pub responded_readable : Context → Table → Envelope → Option Answer → Result Responded Refusal
responded_readable ctx t e None = Err Unreadable
responded_readable ctx t e (Some answer) = responded_by ctx t e (slot_of e.id t.entries)

-- a response at a switch fills its slot and goes to the pharmacy; an equal second one goes again
unfoldable pub responded : Context → Table → Envelope → Result Responded Refusal
responded ctx t e = cond (is_request e) (Err Unreadable) (responded_readable ctx t e (ctx.read_answer e.payload))
