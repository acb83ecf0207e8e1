-- What a journal sends. Packets are written alike under every table of routes.
use Rattle.std.specs.Prelude.{ℕ, ◌+◌, ◌%◌, Bool, false, ◌==◌, List, [], ◌∷◌, map, Option, Some, None}
use Rattle.std.specs.List.{slice_get, flat_map}
use Rattle.envelope.specs.Envelope.{envelope_text}
use Rattle.claim_model.specs.Words.{Request}
use Rattle.claim_model.specs.Journal.{Journal, Entry, State, Waits, Has, Sending, switch_at}
use Rattle.claim_model.specs.Node.{Sent, to_switch}
use Rattle.pharmacy_journal.specs.Places.{places_from}

-- the packet of an entry in a phase
abbrev pub packet_of : Journal → ℕ → ℕ → List ℕ → Sending
packet_of j number phase request = record { switch = switch_at j.rule phase; bytes = envelope_text Request (record { pharmacy = j.number; number = number }) request }

abbrev pub packet_in : Journal → ℕ → List ℕ → State → List Sending
packet_in j number request (Waits phase) = packet_of j number phase request ∷ []
packet_in j number request (Has answer) = []

abbrev pub packet_by : Journal → ℕ → Option Entry → List Sending
packet_by j number None = []
packet_by j number (Some e) = packet_in j number e.request e.state

-- the packet of the entry at a place, where it is open
abbrev pub packet_at : Journal → ℕ → List Sending
packet_at j place = packet_by j (place + 1) (slice_get j.entries place)

-- the same, as a node sends it
abbrev pub sent_at : Journal → ℕ → List Sent
sent_at j place = map to_switch (packet_at j place)

abbrev pub is_due_in : ℕ → State → Bool
is_due_in again (Waits phase) = (phase % again) == 0
is_due_in again (Has answer) = false

abbrev pub is_due_entry : ℕ → Entry → Bool
is_due_entry again e = is_due_in again e.state

-- the places of the entries that are due
abbrev pub due_places : Journal → List ℕ
due_places j = places_from (is_due_entry j.rule.again) 0 j.entries

-- their packets, in order
unfoldable pub due_packets : Journal → List Sending
due_packets j = flat_map (packet_at j) (due_places j)
