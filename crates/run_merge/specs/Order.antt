-- Ordering the calls of logs: which event makes a call, and what is left after it.
use Rattle.std.specs.Prelude.{◌≡◌, ℕ, ◌+◌, Bool, true, false, cond, List, [], ◌∷◌, length, Some}
use Rattle.claim_model.specs.Node.{Node, Pharmacy, Switch, Payer, Call, Submit, Tick, Take, Stop, Start, Revise, Revision, OfPlan, OfRule, OfCap, Adjudicate}
use Rattle.claim_model.specs.World.{Packet, Event, posted}
use Rattle.claim_model.specs.Nodes.{same_node, asked}
use Rattle.claim_model.specs.Logs.{Logged, NodeLog}

-- what is left of each node's calls, where one node has this left
abbrev pub advanced : (Node → List Logged) → Node → List Logged → Node → List Logged
advanced rest node more m = cond (same_node node m) more (rest m)

-- a plan is a payer's, a rule of retries a pharmacy's, and a cap a switch's
abbrev pub revises : Node → Revision → Bool
revises (Pharmacy n) (OfPlan change) = false
revises (Pharmacy n) (OfRule rule) = true
revises (Pharmacy n) (OfCap most) = false
revises (Switch n) (OfPlan change) = false
revises (Switch n) (OfRule rule) = false
revises (Switch n) (OfCap most) = true
revises (Payer n) (OfPlan change) = true
revises (Payer n) (OfRule rule) = false
revises (Payer n) (OfCap most) = false

-- a node of this kind may accept a call of this kind, as far as revisions go
abbrev pub suits : Node → Call → Bool
suits node (Submit text) = true
suits node Tick = true
suits node (Take from bytes) = true
suits node Stop = true
suits node Start = true
suits node (Revise revision) = revises node revision
suits node (Adjudicate from bytes advice) = true

-- an event makes a call of a node, where these packets were sent
abbrev pub Asks : List Packet → Event → Node → Logged → Type 0
Asks packets e node r = (asked packets e ≡ Some (record { node = node; call = r.call })) × (suits node r.call ≡ true)

-- events that make the next call of one node after another, from these packets and what is left of each node's calls, lead to those
abbrev pub Leads : List Packet → (Node → List Logged) → List Event → List Packet → (Node → List Logged) → Type 0
Leads packets rest [] sent left = (sent ≡ packets) × ((m : Node) → left m ≡ rest m)
Leads packets rest (e ∷ more) sent left =
    (node : Node) × (r : Logged) × (calls : List Logged) × (Asks packets e node r) × (rest node ≡ r ∷ calls) × (Leads (posted packets node r.sent) (advanced rest node calls) more sent left)

-- no event makes the next call of any node
abbrev pub Stuck : List Packet → (Node → List Logged) → Type 0
Stuck packets left = (node : Node) (r : Logged) (calls : List Logged) → left node ≡ r ∷ calls → (e : Event) → Asks packets e node r → ⊥

abbrev pub none_left : Node → List Logged
none_left node = []

-- events that make all calls, and send these packets
abbrev pub Completes : (Node → List Logged) → List Event → List Packet → Type 0
Completes rest events sent = Leads [] rest events sent none_left

-- events that make all calls
pub record InOrder (rest : Node → List Logged) (events : List Event) : Type 0 where
  pub sent : List Packet
  pub leads : Leads [] rest events sent none_left

-- how many calls are left
abbrev pub calls_left : List NodeLog → ℕ
calls_left [] = 0
calls_left (log ∷ more) = length log.calls + calls_left more

-- no events make all calls
abbrev pub NoOrder : (Node → List Logged) → Type 0
NoOrder rest = (events : List Event) → InOrder rest events → ⊥
