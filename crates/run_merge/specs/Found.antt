-- What a search finds, or that there is none of it.
use Rattle.std.specs.Prelude.{List, map, Option, MatchOption}
use Rattle.claim_model.specs.Node.{Node, Call}
use Rattle.claim_model.specs.World.{Packet}
use Rattle.claim_model.specs.Logs.{Logged, NodeLog}
use Rattle.world_setup.specs.Seen.{event_seen}
use Rattle.world_setup.specs.declared.event.Event.{Event}
use Rattle.run_merge.specs.Order.{Completes, NoOrder}
use Rattle.run_merge.specs.Line.{NoEvent, Does, Waits, Goes, AllWait, GoesAt}
use Rattle.run_merge.specs.LineSeen.{lines_seen}
use Rattle.run_merge.specs.declared.order.Order.{Order}
use Rattle.run_merge.specs.declared.order.Turn.{Turn}

-- the event that makes a call
abbrev pub EventFor : List Packet → Node → Call → Option Event → Type 0
EventFor packets node call found = MatchOption found (NoEvent packets node call) (λ e. Does packets node call (event_seen e))

-- the event that makes the next call of a log
abbrev pub NextOf : List Packet → NodeLog → Option Event → Type 0
NextOf packets log found = MatchOption found (Waits packets log) (λ e. Goes packets log (event_seen e))

-- in an order, the place of a log and the event that makes its next call
abbrev pub IsTurn : Order → Turn → Type 0
IsTurn order turn = GoesAt order.posted (lines_seen order.lines.items) turn.place (event_seen turn.event)

abbrev pub TurnIn : Order → Option Turn → Type 0
TurnIn order found = MatchOption found (AllWait order.posted (lines_seen order.lines.items)) (λ t. IsTurn order t)

-- an order that makes all of these calls
abbrev pub OrderOf : (Node → List Logged) → Option Order → Type 0
OrderOf rest found = MatchOption found (NoOrder rest) (λ o. Completes rest (map event_seen o.events.items) o.posted)
