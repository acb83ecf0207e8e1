-- The logs of all nodes, and what a call, or a run, adds to each.
use Rattle.std.specs.Prelude.{◌≡◌, ℕ, zero, suc, ◌+◌, ⊤, cond, List, [], ◌∷◌, ◌++◌, length, map}
use Rattle.claim_model.specs.Context.{Context}
use Rattle.claim_model.specs.Node.{Node, Pharmacy, Switch, Payer}
use Rattle.claim_model.specs.World.{World, Event}
use Rattle.claim_model.specs.Nodes.{same_node}
use Rattle.claim_model.specs.Logs.{Logged, NodeLog, log_in}
use Rattle.world_setup.specs.declared.settings.WorldSettings.{WorldSettings}
use Rattle.claimdump.specs.declared.node_logs.Kind.{Kind}
use Rattle.claimdump.specs.declared.node_logs.Kind.TheVariants as kind

-- the node of a kind that has this number
abbrev pub of_kind : Kind → ℕ → Node
of_kind kind.Pharmacy number = Pharmacy number
of_kind kind.Switch number = Switch number
of_kind kind.Payer number = Payer number

-- the logs of the nodes of each kind, by their numbers
pub record AllLogs : Type 0 where
  pub pharmacies : List NodeLog
  pub switches : List NodeLog
  pub payers : List NodeLog

-- these are logs of the nodes of a kind, numbered from here on
abbrev pub AreFrom : Kind → ℕ → List NodeLog → Type 0
AreFrom kind number [] = ⊤
AreFrom kind number (log ∷ logs) = (log.node ≡ of_kind kind number) × AreFrom kind (number + 1) logs

-- the log of each node stands at its number
pub record AreAll (logs : AllLogs) : Type 0 where
  pub pharmacies : AreFrom kind.Pharmacy 1 logs.pharmacies
  pub switches : AreFrom kind.Switch 1 logs.switches
  pub payers : AreFrom kind.Payer 1 logs.payers

-- as many logs of no calls, of the nodes of a kind, numbered from here on
abbrev pub none_from : Kind → ℕ → ℕ → List NodeLog
none_from kind number zero = []
none_from kind number (suc count) = record { node = of_kind kind number; calls = [] } ∷ none_from kind (number + 1) count

-- a log of no calls for each node of settings
abbrev pub no_calls : WorldSettings → AllLogs
no_calls s = record {
  pharmacies = none_from kind.Pharmacy 1 (length s.pharmacies.items);
  switches = none_from kind.Switch 1 (length s.switches.items);
  payers = none_from kind.Payer 1 (length s.payers.items);
}

-- the same for each log
abbrev pub each : (NodeLog → NodeLog) → AllLogs → AllLogs
each f logs = record { pharmacies = map f logs.pharmacies; switches = map f logs.switches; payers = map f logs.payers }

-- a log, and after it a call of this node where it is its own
abbrev pub with_own : Node → Logged → NodeLog → NodeLog
with_own node r log = record { node = log.node; calls = log.calls ++ cond (same_node node log.node) (r ∷ []) [] }

-- a log, and after it what its node did in a run of these events, refused ones included
abbrev pub gone_on : Context → World → List Event → NodeLog → NodeLog
gone_on ctx w events log = record { node = log.node; calls = log.calls ++ log_in ctx w events log.node }

-- all logs: those of pharmacies, of switches, and of payers
abbrev pub in_order : AllLogs → List NodeLog
in_order logs = logs.pharmacies ++ (logs.switches ++ logs.payers)
