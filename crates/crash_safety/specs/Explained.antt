-- Logs of pharmacies and payers alone, in an order in which each packet that was taken is explained by what these sent before.
use Rattle.std.specs.Prelude.{◌≡◌, ⊤, ℕ, true, cond, List, [], ◌∷◌, ◌++◌, map, Option, Some, None, Ok}
use Rattle.std.specs.List.{AllByRecursion}
use Rattle.claim_model.specs.Words.{RequestHeader, Envelope}
use Rattle.claim_model.specs.Context.{Context}
use Rattle.claim_model.specs.Readable.{readable, payer_for, rejection, is_request, answer_envelope}
use Rattle.claim_model.specs.Node.{Node, Pharmacy, Switch, Payer, Sent, Call, Submit, Tick, Take, Stop, Start, Revise, OfPlan, OfRule, OfCap, Adjudicate, Outcome, Done, Refused}
use Rattle.claim_model.specs.World.{World, Packet, Event, packet_from, step, world_after}
use Rattle.claim_model.specs.Settings.{WorldSettings, opening}
use Rattle.claim_model.specs.Nodes.{AnyNode, node_at, same_node, Asked, asked}
use Rattle.claim_model.specs.Logs.{Logged, Makes}
use Rattle.claim_model.specs.Interleavings.{AllAccepted}
use Rattle.crash_safety.specs.Runs.{IsAmong}

-- a call of a node, in an order of calls of several nodes
pub record Turn : Type 0 where
  pub node : Node
  pub logged : Logged

abbrev pub sent_in : Turn → List Packet
sent_in t = map (packet_from t.node) t.logged.sent

-- the calls of one node among the turns
abbrev pub log_among : List Turn → Node → List Logged
log_among [] node = []
log_among (t ∷ turns) node = cond (same_node t.node node) (t.logged ∷ []) [] ++ log_among turns node

abbrev pub packet : Node → Node → List ℕ → Packet
packet from to bytes = record { from = from; to = to; bytes = bytes }

-- what a pharmacy may hear from a switch: an answer that a payer had sent to that switch, byte for byte; or the fixed rejection of a request
-- that this pharmacy had sent to that switch, and that has no route
pub data Heard (ctx : Context) (packets : List Packet) (pharmacy switch : ℕ) (bytes : List ℕ) : Type 0 where
  Answer : (payer : ℕ) → IsAmong packets (packet (Payer payer) (Switch switch) bytes) → Heard ctx packets pharmacy switch bytes
  Rejection : (request : List ℕ) → (e : Envelope) → (h : RequestHeader) → IsAmong packets (packet (Pharmacy pharmacy) (Switch switch) request) → ctx.read_envelope request ≡ Ok e → is_request e ≡ true
      → readable ctx e.payload ≡ Some h → payer_for ctx e.id h ≡ None → bytes ≡ ctx.envelope (answer_envelope e.id (rejection ctx h)) → Heard ctx packets pharmacy switch bytes

-- a call of a pharmacy or a payer is explained by these packets: what it takes from a switch, with an advice or without, was sent to that switch; other
-- calls of its kind need no explanation, and an advice needs none: the payer's own system gave it
abbrev pub IsExplained : Context → List Packet → Node → Call → Type 0
IsExplained ctx packets (Pharmacy n) (Take from bytes) = (m : ℕ) × (from ≡ Switch m) × Heard ctx packets n m bytes
IsExplained ctx packets (Pharmacy n) (Submit text) = ⊤
IsExplained ctx packets (Pharmacy n) Tick = ⊤
IsExplained ctx packets (Pharmacy n) Stop = ⊤
IsExplained ctx packets (Pharmacy n) Start = ⊤
IsExplained ctx packets (Pharmacy n) (Revise (OfPlan change)) = ⊥
IsExplained ctx packets (Pharmacy n) (Revise (OfRule rule)) = ⊤
IsExplained ctx packets (Pharmacy n) (Revise (OfCap most)) = ⊥
IsExplained ctx packets (Pharmacy n) (Adjudicate from bytes advice) = ⊥
IsExplained ctx packets (Payer n) (Take from bytes) = (m : ℕ) × (from ≡ Switch m) × ((k : ℕ) × IsAmong packets (packet (Pharmacy k) (Switch m) bytes))
IsExplained ctx packets (Payer n) (Submit text) = ⊥
IsExplained ctx packets (Payer n) Tick = ⊥
IsExplained ctx packets (Payer n) Stop = ⊤
IsExplained ctx packets (Payer n) Start = ⊤
IsExplained ctx packets (Payer n) (Revise (OfPlan change)) = ⊤
IsExplained ctx packets (Payer n) (Revise (OfRule rule)) = ⊥
IsExplained ctx packets (Payer n) (Revise (OfCap most)) = ⊥
IsExplained ctx packets (Payer n) (Adjudicate from bytes advice) = (m : ℕ) × (from ≡ Switch m) × ((k : ℕ) × IsAmong packets (packet (Pharmacy k) (Switch m) bytes))
IsExplained ctx packets (Switch m) call = ⊥

-- each call is explained by the packets of those before it, and these
abbrev pub Explained : Context → List Packet → List Turn → Type 0
Explained ctx packets [] = ⊤
Explained ctx packets (t ∷ turns) = IsExplained ctx packets t.node t.logged.call × Explained ctx (packets ++ sent_in t) turns

-- the node of a turn is there
abbrev pub IsThereIn : World → Turn → Type 0
IsThereIn w t = (x : AnyNode) × (node_at w t.node ≡ Some x)

-- an order of calls of pharmacies and payers: their nodes are there and make their logs by themselves, and each call is explained
pub record IsExplainedOrder (ctx : Context) (s : WorldSettings) (turns : List Turn) : Type 0 where
  pub there : AllByRecursion (IsThereIn (opening s)) turns
  pub makes : (node : Node) (before : AnyNode) → node_at (opening s) node ≡ Some before → Makes ctx before (log_among turns node)
  pub explained : Explained ctx [] turns

-- the accepted calls of pharmacies and payers in a run, in its order, each with what it sent

abbrev pub turns_at : Node → Call → List Sent → List Turn
turns_at (Pharmacy n) call sent = record { node = Pharmacy n; logged = record { call = call; sent = sent } } ∷ []
turns_at (Switch n) call sent = []
turns_at (Payer n) call sent = record { node = Payer n; logged = record { call = call; sent = sent } } ∷ []

abbrev pub turns_if : Asked → Outcome World → List Turn
turns_if a (Refused why) = []
turns_if a (Done next sent) = turns_at a.node a.call sent

abbrev pub turns_by : Option Asked → Outcome World → List Turn
turns_by None outcome = []
turns_by (Some a) outcome = turns_if a outcome

abbrev pub outside : Context → World → List Event → List Turn
outside ctx w [] = []
outside ctx w (event ∷ events) = turns_by (asked w.packets event) (step ctx w event) ++ outside ctx (world_after w (step ctx w event)) events

-- a run of accepted events, of which these are the calls of pharmacies and payers; what is left are calls of switches
pub record Goes (ctx : Context) (w : World) (turns : List Turn) : Type 0 where
  pub events : List Event
  pub accepted : AllAccepted ctx w events
  pub are : outside ctx w events ≡ turns
