-- Whether a node is up, which calls it makes while it is, and how many packets it may send at once.
use Rattle.std.specs.Prelude.{ℕ, Bool, true, false, List, [], map, length}
use Rattle.claim_model.specs.Journal.{Journal, JournalAtRest}
use Rattle.claim_model.specs.Table.{Table}
use Rattle.claim_model.specs.Node.{Power, Up, AtRest, Call, Submit, Tick, Take, Stop, Start, Revise, Adjudicate}
use Rattle.switch_node.specs.declared.table.InFlight.{InFlight}
use Rattle.switch_node.specs.Ring.{in_flight}

abbrev pub is_up : {A B : Type 0} → Power A B → Bool
is_up (Up node) = true
is_up (AtRest kept) = false

-- a call that is no packet alone, and neither stops a node nor starts it
abbrev pub asks : Call → Bool
asks (Submit text) = true
asks Tick = true
asks (Take from bytes) = false
asks Stop = false
asks Start = false
asks (Revise change) = true
asks (Adjudicate from bytes advice) = true

-- a tick sends at most as many packets as the journal has entries
abbrev pub most_due : Power Journal JournalAtRest → ℕ
most_due (Up j) = length j.entries
most_due (AtRest j) = 0

-- by a pharmacy in a call
abbrev pub most_sent : Power Journal JournalAtRest → Call → ℕ
most_sent node (Submit text) = 1
most_sent node Tick = most_due node
most_sent node (Take from bytes) = 1
most_sent node Stop = 1
most_sent node Start = 1
most_sent node (Revise change) = 1
most_sent node (Adjudicate from bytes advice) = 1

-- the ids in a switch's table and whether each has its answer, oldest first; a stopped switch has none
abbrev pub in_flight_at : Power Table ℕ → List InFlight
in_flight_at (Up t) = map in_flight t.entries
in_flight_at (AtRest cap) = []
