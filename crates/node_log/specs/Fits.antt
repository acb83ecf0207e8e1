-- Calls that a node makes as its log has them.
use Rattle.std.specs.Prelude.{◌≡◌, Bool, MatchBool, List, [], ◌∷◌}
use Rattle.claim_model.specs.Context.{Context}
use Rattle.claim_model.specs.Node.{Sent, Outcome, Done, Refused}
use Rattle.claim_model.specs.Nodes.{AnyNode, node_step}
use Rattle.claim_model.specs.Logs.{Logged}

-- what is so of the node that a call leaves, where it sent this
abbrev pub FitsBy : (AnyNode → Type 0) → List Sent → Outcome AnyNode → Type 0
FitsBy P sent (Done after out) = (out ≡ sent) × P after
FitsBy P sent (Refused why) = ⊥

-- a node in this state accepts the calls of a log, and sends with each what the log has, byte for byte
abbrev pub Fits : Context → AnyNode → List Logged → Type 0
Fits ctx s [] = Unit {0}
Fits ctx s (r ∷ more) = FitsBy (λ after. Fits ctx after more) r.sent (node_step ctx s r.call)

-- a test tells whether something is so
abbrev pub Tells : Bool → Type 0 → Type 0
Tells told P = MatchBool told P (P → ⊥)

-- a test tells whether a node makes the call of a record, and sends with it what the record has; it is the new one then
abbrev pub TellsMade : Bool → Context → AnyNode → Logged → AnyNode → Type 0
TellsMade told ctx old r new =
    MatchBool told (node_step ctx old r.call ≡ Done new r.sent) ((after : AnyNode) → node_step ctx old r.call ≡ Done after r.sent → ⊥)
