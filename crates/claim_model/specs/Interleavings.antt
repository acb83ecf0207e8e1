-- Lists of events that are an interleaving of logs: a condition on a finished run.
use Rattle.std.specs.Prelude.{◌≡◌, ◌⊎◌, ℕ, ⊤, List, [], ◌∷◌, ◌++◌, filter, Some, IsSome}
use Rattle.std.specs.List.{AllByRecursion}
use Rattle.claim_model.specs.Context.{Context}
use Rattle.claim_model.specs.Numbered.{numbered}
use Rattle.claim_model.specs.Settings.{WorldSettings, opening}
use Rattle.claim_model.specs.Node.{Node, Outcome, Done, Refused}
use Rattle.claim_model.specs.World.{World, Event, step, world_after, run}
use Rattle.claim_model.specs.Nodes.{AnyNode, node_at, asked}
use Rattle.claim_model.specs.Logs.{Logged, NodeLog, log_in, replay, Makes, posted_by, is_from}

abbrev pub IsDone : Outcome World → Type 0
IsDone (Done next sent) = ⊤
IsDone (Refused why) = ⊥

-- every event of a run is accepted
abbrev pub AllAccepted : Context → World → List Event → Type 0
AllAccepted ctx w [] = ⊤
AllAccepted ctx w (event ∷ events) = IsDone (step ctx w event) × AllAccepted ctx (world_after w (step ctx w event)) events

-- the log of a node, among these
pub record HasLog (logs : List NodeLog) (node : Node) : Type 0 where
  pub number : ℕ
  pub log : NodeLog
  pub at : numbered logs number ≡ Some log
  pub names : log.node ≡ node

-- each node of the settings has a log, no node has two, and there is no log of another node
pub record OnePerNode (settings : WorldSettings) (logs : List NodeLog) : Type 0 where
  pub each : (node : Node) → IsSome (node_at (opening settings) node) → HasLog logs node
  pub once : (i j : ℕ) (a b : NodeLog) → numbered logs i ≡ Some a → numbered logs j ≡ Some b → a.node ≡ b.node → i ≡ j
  pub known : AllByRecursion (λ log. IsSome (node_at (opening settings) log.node)) logs

-- the events are a legal interleaving of the logs: the opening world accepts each of them, and the log of each node in that run is the given
-- one, with every byte of every packet. A delivery has its packet sent by an earlier event, since it is accepted
pub record IsInterleaving (ctx : Context) (settings : WorldSettings) (logs : List NodeLog) (events : List Event) : Type 0 where
  pub one : OnePerNode settings logs
  pub accepted : AllAccepted ctx (opening settings) events
  pub same : AllByRecursion (λ log. log_in ctx (opening settings) events log.node ≡ log.calls) logs

-- a log begins with these calls
pub record Begins (done log : List Logged) : Type 0 where
  pub left : List Logged
  pub is : log ≡ done ++ left

-- the next call of a node's log is enabled at the end of a run that has made the calls before it: an event makes this call, is accepted there,
-- and sends what the log says
pub record CanGoOn (ctx : Context) (w : World) (made : List Event) (log : Node → List Logged) : Type 0 where
  pub node : Node
  pub next : Logged
  pub more : List Logged
  pub is : log node ≡ log_in ctx w made node ++ next ∷ more
  pub event : Event
  pub asks : asked (run ctx w made).packets event ≡ Some (record { node = node; call = next.call })
  pub after : World
  pub accepted : step ctx (run ctx w made) event ≡ Done after next.sent

-- a run whose logs are how the logs of another run begin either has made all of these, or some node can make the next call of its own: so
-- whoever takes one enabled call after another is never caught where the logs have a legal interleaving
abbrev pub GoesOn : Context → World → List Event → List Event → Type 0
GoesOn ctx w events made = CanGoOn ctx w made (log_in ctx w events) ⊎ ((node : Node) → log_in ctx w made node ≡ log_in ctx w events node)

-- a run on the way to an interleaving: each of its events is accepted, and each log begins with what its node has made
pub record IsBegun (ctx : Context) (settings : WorldSettings) (logs : List NodeLog) (made : List Event) : Type 0 where
  pub accepted : AllAccepted ctx (opening settings) made
  pub begun : AllByRecursion (λ log. Begins (log_in ctx (opening settings) made log.node) log.calls) logs

-- the next call of one of the logs is enabled at the end of a run
pub record NextCall (ctx : Context) (settings : WorldSettings) (logs : List NodeLog) (made : List Event) : Type 0 where
  pub number : ℕ
  pub log : NodeLog
  pub at : numbered logs number ≡ Some log
  pub next : Logged
  pub more : List Logged
  pub is : log.calls ≡ log_in ctx (opening settings) made log.node ++ next ∷ more
  pub event : Event
  pub asks : asked (run ctx (opening settings) made).packets event ≡ Some (record { node = log.node; call = next.call })
  pub after : World
  pub accepted : step ctx (run ctx (opening settings) made) event ≡ Done after next.sent

-- a log of an interleaving: its node makes it by itself from the opening, its replay is the node at the end, and it sent all that this node sent
pub record IsLogOf (ctx : Context) (settings : WorldSettings) (events : List Event) (log : NodeLog) : Type 0 where
  pub before : AnyNode
  pub opens : node_at (opening settings) log.node ≡ Some before
  pub makes : Makes ctx before log.calls
  pub leads : node_at (run ctx (opening settings) events) log.node ≡ Some (replay ctx before log.calls)
  pub posts : filter (is_from log.node) (run ctx (opening settings) events).packets ≡ posted_by log.node log.calls

-- two worlds have the same nodes, and of each sender the same packets in the same order
pub record SameNodes (v w : World) : Type 0 where
  pub nodes : (node : Node) → node_at v node ≡ node_at w node
  pub packets : (node : Node) → filter (is_from node) v.packets ≡ filter (is_from node) w.packets
