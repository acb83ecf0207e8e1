-- The marks of a run.
use Rattle.std.specs.Prelude.{ℕ, ◌+◌, List, [], ◌∷◌, ◌++◌, drop, length}
use Rattle.claim_model.specs.Context.{Context}
use Rattle.claim_model.specs.Node.{Node, Outcome, Done, Refused}
use Rattle.claim_model.specs.World.{World, Packet, Event, Submission, Ticking, Delivery, Stopping, Starting, Revising, Adjudication, step, world_after}
use Rattle.claim_model.specs.Refusal.{refusal_name}

-- a mark of a picture, with the number of its event; a refusal by its name
pub data Mark : Type 0 where
  Submitted : (event pharmacy : ℕ) → Mark
  Ticked : (event pharmacy : ℕ) → Mark
  Arrived : (event packet : ℕ) → Mark
  Stopped : (event : ℕ) → Node → Mark
  Started : (event : ℕ) → Node → Mark
  Revised : (event : ℕ) → Node → Mark
  Sent : (event packet : ℕ) → (from to : Node) → Mark
  Turned : (event : ℕ) → (name : List ℕ) → Mark

-- the mark of an event that was made
abbrev pub made_mark : ℕ → Event → Mark
made_mark number (Submission n text) = Submitted number n
made_mark number (Ticking n) = Ticked number n
made_mark number (Delivery k) = Arrived number k
made_mark number (Stopping node) = Stopped number node
made_mark number (Starting node) = Started number node
made_mark number (Revising node revision) = Revised number node
made_mark number (Adjudication k advice) = Arrived number k

-- the marks of packets that an event sent, numbered from one on
abbrev pub sent_marks : ℕ → ℕ → List Packet → List Mark
sent_marks event number [] = []
sent_marks event number (p ∷ more) = Sent event number p.from p.to ∷ sent_marks event (number + 1) more

-- the marks of those after this many that were sent before
abbrev pub marks_behind : ℕ → ℕ → List Packet → List Mark
marks_behind event posted packets = sent_marks event (posted + 1) (drop posted packets)

-- the marks of an event before which this many packets were sent: the event and what it sent, or its refusal
abbrev pub event_marks : ℕ → ℕ → Event → Outcome World → List Mark
event_marks number posted event (Refused why) = Turned number (refusal_name why) ∷ []
event_marks number posted event (Done next sent) = made_mark number event ∷ marks_behind number posted next.packets

-- the marks of a run whose first event has this number
abbrev pub marks_from : Context → World → ℕ → List Event → List Mark
marks_from ctx w number [] = []
marks_from ctx w number (event ∷ events) =
    event_marks number (length w.packets) event (step ctx w event) ++ marks_from ctx (world_after w (step ctx w event)) (number + 1) events
