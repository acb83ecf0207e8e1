-- Logs that are made of switches which have none.
use Rattle.std.specs.Prelude.{◌≡◌, ℕ, zero, suc, ◌+◌, cond, List, [], ◌∷◌, ◌++◌, length, map}
use Rattle.std.specs.List.{AllByRecursion}
use Rattle.claim_model.specs.Context.{Context}
use Rattle.claim_model.specs.Settings as model
use Rattle.claim_model.specs.Node.{Node, Switch}
use Rattle.claim_model.specs.Logs.{NodeLog}
use Rattle.world_setup.specs.Seen.{settings_seen}
use Rattle.world_setup.specs.declared.settings.WorldSettings.{WorldSettings}
use Rattle.run_merge.specs.Naming.{has_log}
use Rattle.run_merge.specs.Merged.{FitsAlone}
use Rattle.node_logged.specs.Setting.{context_of}
use Rattle.node_logged.specs.Holding.{Holding}

-- a node, where none of these logs is of it
abbrev pub if_none : List NodeLog → Node → List Node
if_none logs node = cond (has_log node logs) [] (node ∷ [])

-- the switches up to this number of which there is no log, in the order of their numbers
abbrev pub unlogged : List NodeLog → ℕ → List Node
unlogged logs zero = []
unlogged logs (suc n) = unlogged logs n ++ if_none logs (Switch (n + 1))

-- the nodes of logs
abbrev pub nodes_of : List NodeLog → List Node
nodes_of logs = map (λ (log : NodeLog). log.node) logs

-- one log of each switch of the settings of which there was none, in order; by itself each switch makes its log, from its opening
pub record AreMade (ctx : Context) (s : model.WorldSettings) (logs made : List NodeLog) : Type 0 where
  pub named : nodes_of made ≡ unlogged logs (length s.switches)
  pub fit : AllByRecursion (FitsAlone ctx s) made

-- the same of settings with their routes
abbrev pub AreMadeUnder : WorldSettings → List NodeLog → List NodeLog → Type 0
AreMadeUnder s logs made = AreMade (context_of s) (settings_seen s) logs made

-- which node it is, under which settings
abbrev pub who : Holding → WorldSettings × Node
who h = (h.settings, h.log.node)

-- the log of a node that is held
abbrev pub log_of : Holding → NodeLog
log_of h = h.log

-- a log fits the node that made it, from its opening
abbrev pub FitsUnder : Holding → Type 0
FitsUnder h = FitsAlone (context_of h.settings) (settings_seen h.settings) h.log

-- these nodes under these settings
abbrev pub all_under : WorldSettings → List Node → List (WorldSettings × Node)
all_under s nodes = map (λ (node : Node). (s, node)) nodes

-- nodes that are these under these settings, whatever they have done
abbrev pub Stand : WorldSettings → List Node → List Holding → Type 0
Stand s nodes held = map who held ≡ all_under s nodes
