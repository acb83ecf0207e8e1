-- How many packets are sent at once: one, but for a tick, which sends one for each entry at most.
use Rattle.std.specs.Prelude.{ℕ, List, Option, Some, None}
use Rattle.claim_model.specs.Numbered.{numbered}
use Rattle.claim_model.specs.Journal.{Journal, JournalAtRest}
use Rattle.claim_model.specs.Node.{Power, Node, Pharmacy, Switch, Payer, Call, Submit, Tick, Take, Stop, Start, Revise, Adjudicate}
use Rattle.claim_model.specs.World.{Event, Submission, Ticking, Delivery, Stopping, Starting, Revising, Adjudication}
use Rattle.node_state.specs.Sends.{most_due}
use Rattle.world_core.specs.NodeLists.{NodeLists}

-- by a node that is there or not
abbrev pub most_of : {A : Type 0} → (A → ℕ) → Option A → ℕ
most_of most None = 0
most_of most (Some node) = most node

-- by the pharmacy of a number in a tick
abbrev pub room_due : List (Power Journal JournalAtRest) → ℕ → ℕ
room_due nodes n = most_of most_due (numbered nodes n)

-- by a node in a tick
abbrev pub room_ticking : NodeLists → Node → ℕ
room_ticking nodes (Pharmacy n) = room_due nodes.pharmacies n
room_ticking nodes (Switch n) = 1
room_ticking nodes (Payer n) = 1

-- by a node in a call
abbrev pub room_asked : NodeLists → Node → Call → ℕ
room_asked nodes node (Submit text) = 1
room_asked nodes node Tick = room_ticking nodes node
room_asked nodes node (Take from bytes) = 1
room_asked nodes node Stop = 1
room_asked nodes node Start = 1
room_asked nodes node (Revise change) = 1
room_asked nodes node (Adjudicate from bytes advice) = 1

-- in an event
abbrev pub room_for : NodeLists → Event → ℕ
room_for nodes (Submission n text) = 1
room_for nodes (Ticking n) = room_due nodes.pharmacies n
room_for nodes (Delivery k) = 1
room_for nodes (Stopping node) = 1
room_for nodes (Starting node) = 1
room_for nodes (Revising n change) = 1
room_for nodes (Adjudication k advice) = 1
