-- The logs of days: what pharmacies and payers did from where the days before left them.
use Rattle.std.specs.Prelude.{◌≡◌, ◌⊎◌, ℕ, List, [], ◌∷◌, ◌++◌, Some, IsSome}
use Rattle.std.specs.List.{AllByRecursion}
use Rattle.claim_model.specs.Context.{Context}
use Rattle.claim_model.specs.Numbered.{numbered}
use Rattle.claim_model.specs.Node.{Node}
use Rattle.claim_model.specs.Nodes.{node_at}
use Rattle.claim_model.specs.Logs.{Logged, NodeLog}
use Rattle.claim_model.specs.Interleavings.{HasLog}
use Rattle.crash_safety.specs.Explained.{Turn, log_among}
use Rattle.vouched_runs.specs.Parties.{Parties, world_of}
use Rattle.vouched_runs.specs.Vouched.{Leads}

-- each of these parties has a log, none has two, and there is no log of another node
pub record OneForEach (p : Parties) (logs : List NodeLog) : Type 0 where
  pub each : (node : Node) → IsSome (node_at (world_of p) node) → HasLog logs node
  pub once : (i j : ℕ) (a b : NodeLog) → numbered logs i ≡ Some a → numbered logs j ≡ Some b → a.node ≡ b.node → i ≡ j
  pub known : AllByRecursion (λ (log : NodeLog). IsSome (node_at (world_of p) log.node)) logs

-- the logs are of days that begin with these parties: their calls, in this order, lead on, each vouched for
pub record AreDays (ctx : Context) (p : Parties) (logs : List NodeLog) (turns : List Turn) : Type 0 where
  pub one : OneForEach p logs
  pub after : Parties
  pub leads : Leads ctx p turns after
  pub same : AllByRecursion (λ (log : NodeLog). log_among turns log.node ≡ log.calls) logs

-- a node can make the next of its calls where others led
pub record CanGo (ctx : Context) (r : Parties) (made turns : List Turn) : Type 0 where
  pub next : Turn
  pub more : List Logged
  pub is : log_among turns next.node ≡ log_among made next.node ++ next.logged ∷ more
  pub then : Parties
  pub leads : Leads ctx r (next ∷ []) then

-- whoever takes one such call after another is never caught: a node can go on, or all calls are made
abbrev pub GoesOn : Context → Parties → List Turn → List Turn → Type 0
GoesOn ctx r made turns = CanGo ctx r made turns ⊎ ((node : Node) → log_among made node ≡ log_among turns node)
