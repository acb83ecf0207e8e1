-- An order of the calls of logs, in which each packet is sent before it is taken. It mentions no settings.
use Rattle.std.specs.Prelude.{◌≡◌, ⊤, List, [], ◌∷◌, ◌++◌, map, cond, Some}
use Rattle.std.specs.List.{AllByRecursion}
use Rattle.claim_model.specs.Context.{Context}
use Rattle.claim_model.specs.Node.{Node, Sent}
use Rattle.claim_model.specs.World.{Packet, Event, posted}
use Rattle.claim_model.specs.Settings.{WorldSettings, opening}
use Rattle.claim_model.specs.Nodes.{AnyNode, node_at, same_node, Asked, asked}
use Rattle.claim_model.specs.Logs.{Logged, NodeLog, Makes}
use Rattle.claim_model.specs.Interleavings.{HasLog}

-- an event, the call that it is, and what the node sent then
pub record Turn : Type 0 where
  pub event : Event
  pub asked : Asked
  pub sent : List Sent

-- each event asks for its call where what the turns before it sent was sent, and these packets
abbrev pub IsOrder : List Packet → List Turn → Type 0
IsOrder packets [] = ⊤
IsOrder packets (t ∷ turns) = (asked packets t.event ≡ Some t.asked) × IsOrder (posted packets t.asked.node t.sent) turns

abbrev pub events_of : List Turn → List Event
events_of turns = map (λ (t : Turn). t.event) turns

-- the calls of one node among the turns
abbrev pub turns_of : List Turn → Node → List Logged
turns_of [] node = []
turns_of (t ∷ turns) node = cond (same_node t.asked.node node) (record { call = t.asked.call; sent = t.sent } ∷ []) [] ++ turns_of turns node

-- the turns are those of these logs: each node's calls are its log, and a node without a log has none
pub record AreTurnsOf (logs : List NodeLog) (turns : List Turn) : Type 0 where
  pub order : IsOrder [] turns
  pub same : AllByRecursion (λ (log : NodeLog). turns_of turns log.node ≡ log.calls) logs
  pub others : (node : Node) → (HasLog logs node → ⊥) → turns_of turns node ≡ []

-- the events of the turns of these logs
pub record HasTurns (logs : List NodeLog) (events : List Event) : Type 0 where
  pub turns : List Turn
  pub events_are : events_of turns ≡ events
  pub turns_are : AreTurnsOf logs turns

-- the node of the log makes it by itself under these settings
pub record IsMade (ctx : Context) (s : WorldSettings) (log : NodeLog) : Type 0 where
  pub before : AnyNode
  pub opens : node_at (opening s) log.node ≡ Some before
  pub makes : Makes ctx before log.calls
