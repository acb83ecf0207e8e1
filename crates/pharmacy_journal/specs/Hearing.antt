-- What an entry becomes by an envelope.
use Rattle.std.specs.Prelude.{◌≡◌, ℕ, zero, Bool, true, suc, cond, not, ◌&&◌, List, [], ◌∷◌, Option, Result, Err}
use Rattle.envelope.specs.Envelope.{Opened, envelope_text}
use Rattle.claim_model.specs.Words.{Envelope}
use Rattle.claim_model.specs.Readable.{is_request}
use Rattle.claim_model.specs.Journal.{State, settle_by}
use Rattle.claim_model.specs.declared.refusal.Refusal.{Refusal}
use Rattle.claim_model.specs.declared.refusal.Refusal.TheVariants.{Unreadable}
use Rattle.pharmacy_journal.specs.Reading.{settles_with}
use Rattle.pharmacy_journal.specs.Entries.{entry_of, kept_of}
use Rattle.pharmacy_journal.specs.declared.slot.Slot.{Slot}
use Rattle.pharmacy_journal.specs.declared.slot.Slot.TheVariants.{Waiting, Settled}

-- an envelope without its place in memory
abbrev pub envelope_seen : Opened → Envelope
envelope_seen e = record { kind = e.kind; id = e.id; payload = e.payload }

-- the packet that an envelope was opened from
abbrev pub packet_text : Opened → List ℕ
packet_text e = envelope_text e.kind e.id e.payload

-- the state of an entry after a text of kind 2
abbrev pub state_by : List ℕ → State → List ℕ → Result State Refusal
state_by request state answer = cond (settles_with request answer) (settle_by answer state) (Err Unreadable)

-- an open entry that this answer fits
abbrev pub IsAnsweredBy : Slot → List ℕ → Type 0
IsAnsweredBy (Waiting t) answer = settles_with t.request answer ≡ true
IsAnsweredBy (Settled t) answer = ⊥

-- an envelope has an answer that fits the request of an entry
abbrev pub answers : Slot → Opened → Bool
answers slot e = not (is_request (envelope_seen e)) && settles_with (kept_of slot).request e.payload

-- the state of an entry after an envelope, or why it is refused
abbrev pub state_after : List ℕ → State → Envelope → Result State Refusal
state_after request state e = cond (not (is_request e) && settles_with request e.payload) (settle_by e.payload state) (Err Unreadable)

-- the same of an entry that is in this phase, where it is open
abbrev pub state_told : Slot → Option ℕ → List ℕ → Result State Refusal
state_told slot phase answer = state_by (kept_of slot).request (entry_of slot phase).state answer

abbrev pub state_heard : Slot → Option ℕ → Opened → Result State Refusal
state_heard slot phase e = state_after (kept_of slot).request (entry_of slot phase).state (envelope_seen e)

-- an open entry with its answer
abbrev pub settled_slot : Slot → List ℕ → Slot
settled_slot (Waiting t) answer = Settled (record { id = t.id; request = t.request; answer = answer })
settled_slot (Settled t) answer = Settled t

-- entries of which the one at a place has its answer
abbrev pub settled_at : List Slot → ℕ → List ℕ → List Slot
settled_at [] place answer = []
settled_at (slot ∷ slots) zero answer = settled_slot slot answer ∷ slots
settled_at (slot ∷ slots) (suc place) answer = slot ∷ settled_at slots place answer
