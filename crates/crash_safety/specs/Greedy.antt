-- Taking one explained call after another: an audit of pharmacies and payers alone is never caught.
use Rattle.std.specs.Prelude.{◌≡◌, ◌⊎◌, ⊤, ℕ, true, List, [], ◌∷◌, ◌++◌, Option, Some, None}
use Rattle.claim_model.specs.Words.{RequestHeader, Envelope, RouteKey}
use Rattle.claim_model.specs.Context.{Context}
use Rattle.claim_model.specs.Readable.{readable, payer_for, rejection, is_request, answer_envelope, route_key}
use Rattle.claim_model.specs.Node.{Node, Pharmacy, Switch, Payer, Call, Submit, Tick, Take, Stop, Start, Revise, Adjudicate}
use Rattle.claim_model.specs.World.{Packet}
use Rattle.claim_model.specs.Settings.{WorldSettings}
use Rattle.claim_model.specs.Logs.{Logged}
use Rattle.crash_safety.specs.Explained.{Turn, sent_in, log_among, IsExplained, IsExplainedOrder}

-- all packets of some turns
abbrev pub sent_among : List Turn → List Packet
sent_among [] = []
sent_among (t ∷ turns) = sent_in t ++ sent_among turns

-- each node's calls among the first turns are how its calls among the others begin
abbrev pub BeginsAs : List Turn → List Turn → Type 0
BeginsAs done turns = (node : Node) → (left : List Logged) × (log_among turns node ≡ log_among done node ++ left)

-- the next call of some node is explained by what was sent so far
pub record CanTake (ctx : Context) (done turns : List Turn) : Type 0 where
  pub node : Node
  pub next : Logged
  pub left : List Logged
  pub is : log_among turns node ≡ log_among done node ++ next ∷ left
  pub explained : IsExplained ctx (sent_among done) node next.call

-- nothing is left, or some node's next call can be taken
abbrev pub GoesOn : Context → List Turn → List Turn → Type 0
GoesOn ctx done turns = CanTake ctx done turns ⊎ ((node : Node) → log_among turns node ≡ log_among done node)

-- an explained order of what lies on these disks, or in these files
pub record HasOrder (ctx : Context) (s : WorldSettings) (logs : Node → List Logged) : Type 0 where
  pub turns : List Turn
  pub order : IsExplainedOrder ctx s turns
  pub pharmacies : (k : ℕ) → log_among turns (Pharmacy k) ≡ logs (Pharmacy k)
  pub payers : (k : ℕ) → log_among turns (Payer k) ≡ logs (Payer k)

-- what this turn heard as a rejection for want of a route has none by the other routes either
abbrev pub RejectionStays : Context → (ℕ → RouteKey → Option ℕ) → Node → Call → Type 0
RejectionStays ctx route (Pharmacy n) (Take from bytes) =
    (e : Envelope) (h : RequestHeader) → bytes ≡ ctx.envelope (answer_envelope e.id (rejection ctx h)) → is_request e ≡ true → readable ctx e.payload ≡ Some h → payer_for ctx e.id h ≡ None → route e.id.number (route_key h) ≡ None
RejectionStays ctx route (Pharmacy n) (Submit text) = ⊤
RejectionStays ctx route (Pharmacy n) Tick = ⊤
RejectionStays ctx route (Pharmacy n) Stop = ⊤
RejectionStays ctx route (Pharmacy n) Start = ⊤
RejectionStays ctx route (Pharmacy n) (Revise revision) = ⊤
RejectionStays ctx route (Pharmacy n) (Adjudicate from bytes advice) = ⊤
RejectionStays ctx route (Switch m) call = ⊤
RejectionStays ctx route (Payer n) call = ⊤
