-- Logs in the making of an order: what is left of each, and whose next call an event makes.
use Rattle.std.specs.Prelude.{◌≡◌, ℕ, Bool, MatchBool, List, [], ◌∷◌, ◌++◌, slice_get, slice_set, true, Some}
use Rattle.claim_model.specs.Numbered.{numbered}
use Rattle.claim_model.specs.Node.{Node, Call}
use Rattle.claim_model.specs.World.{Packet, Event, posted}
use Rattle.claim_model.specs.Logs.{Logged, NodeLog}
use Rattle.claim_model.specs.Nodes.{asked}
use Rattle.run_merge.specs.Naming.{calls_of, all_distinct}
use Rattle.run_merge.specs.Order.{Asks, Leads, suits}

-- no packet of these is this one
abbrev pub IsAbsent : List Packet → Packet → Type 0
IsAbsent packets p = (k : ℕ) → numbered packets k ≡ Some p → ⊥

-- no event makes this call, where these packets were sent
abbrev pub NoEvent : List Packet → Node → Call → Type 0
NoEvent packets node call = (e : Event) → asked packets e ≡ Some (record { node = node; call = call }) → suits node call ≡ true → ⊥

-- an event makes this call
abbrev pub Does : List Packet → Node → Call → Event → Type 0
Does packets node call e = (asked packets e ≡ Some (record { node = node; call = call })) × (suits node call ≡ true)

-- no event makes the next call of a log, if there is one
abbrev pub Waits : List Packet → NodeLog → Type 0
Waits packets log = (r : Logged) (calls : List Logged) → log.calls ≡ r ∷ calls → NoEvent packets log.node r.call

-- an event makes the next call of a log
pub record Goes (packets : List Packet) (log : NodeLog) (e : Event) : Type 0 where
  pub first : Logged
  pub calls : List Logged
  pub is : log.calls ≡ first ∷ calls
  pub asks : Asks packets e log.node first

abbrev pub AllWait : List Packet → List NodeLog → Type 0
AllWait packets lines = (k : ℕ) (log : NodeLog) → slice_get lines k ≡ Some log → Waits packets log

-- an event makes the next call of the log at a place
pub record GoesAt (packets : List Packet) (lines : List NodeLog) (place : ℕ) (e : Event) : Type 0 where
  pub log : NodeLog
  pub at : slice_get lines place ≡ Some log
  pub goes : Goes packets log e

-- an order in the making: what is left of each log, the packets that were sent, and the events
pub record OrderParts : Type 0 where
  pub lines : List NodeLog
  pub packets : List Packet
  pub events : List Event

-- an order after one event more
pub record IsPlaced (old new : OrderParts) : Type 0 where
  pub place : ℕ
  pub event : Event
  pub log : NodeLog
  pub first : Logged
  pub calls : List Logged
  pub at : slice_get old.lines place ≡ Some log
  pub is : log.calls ≡ first ∷ calls
  pub asks : Asks old.packets event log.node first
  pub lines : new.lines ≡ slice_set old.lines place (record { node = log.node; calls = calls })
  pub packets : new.packets ≡ posted old.packets log.node first.sent
  pub events : new.events ≡ old.events ++ event ∷ []

-- an order that its events made, from these calls of each node
pub record IsMadeByEvents (given : Node → List Logged) (order : OrderParts) : Type 0 where
  pub distinct : all_distinct order.lines ≡ true
  pub leads : Leads [] given order.events order.packets (calls_of order.lines)

-- an order that no event goes on with
pub record IsStill (old new : OrderParts) : Type 0 where
  pub lines : new.lines ≡ old.lines
  pub packets : new.packets ≡ old.packets
  pub events : new.events ≡ old.events
  pub wait : AllWait old.packets old.lines

-- a step tells whether it placed a call
abbrev pub Steps : Bool → OrderParts → OrderParts → Type 0
Steps placed old new = MatchBool placed (IsPlaced old new) (IsStill old new)

-- no log has a call left
abbrev pub AllPlaced : List NodeLog → Type 0
AllPlaced lines = (k : ℕ) (log : NodeLog) → slice_get lines k ≡ Some log → log.calls ≡ []
