-- The entries as they stand in memory: a ring, whose oldest entry stands at its head.
use Rattle.std.specs.Prelude.{◌≡◌, ℕ, ◌+◌, ◌<◌, ◌≤◌, ◌==◌, List, ◌++◌, take, drop, length, is_some, Some, cond, if◌then◌else◌}
use Rattle.std.specs.List.{IsDistinct}
use Rattle.std.specs.Map.{keys_of}
use Rattle.claim_model.specs.Words.{TxnId}
use Rattle.claim_model.specs.Readable.{same_id}
use Rattle.claim_model.specs.Table.{Slot}
use Rattle.switch_node.specs.declared.table.InFlight.{InFlight}

-- a list from its place n on, and then what stands before
unfoldable pub turned : {X : Type 0} → ℕ → List X → List X
turned n xs = drop n xs ++ take n xs

-- what keeps a ring: no more entries than the cap, the oldest within it and first until it is full, and no id twice
pub record IsRing (cap head : ℕ) (entries : List (TxnId × Slot)) : Type 0 where
  pub few : length entries ≤ cap
  pub within : head < cap
  pub straight : length entries < cap → head ≡ 0
  pub distinct : IsDistinct same_id (keys_of entries)

-- the ids of a table, oldest first, and whether each has its answer
abbrev pub in_flight : TxnId × Slot → InFlight
in_flight e = record { id = e.0; answered = is_some e.1.answer }

-- an entry with its answer, where it is the id's
abbrev pub answered_at : TxnId → List ℕ → TxnId × Slot → TxnId × Slot
answered_at id answer e = cond (same_id id e.0) (e.0, record { request = e.1.request; answer = Some answer }) e

-- the place after this one, round a ring of this many places
abbrev pub next : ℕ → ℕ → ℕ
next place cap = if place + 1 == cap then 0 else place + 1
