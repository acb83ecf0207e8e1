-- A node with its log beside it, and what a call makes of them.
use Rattle.std.specs.Prelude.{◌≡◌, List, [], ◌∷◌, ◌++◌, ◌-◌, length, slice_get, Option, Some, None, option_map, unwrap_or}
use Rattle.claim_model.specs.Node.{Call, Stop, Start, Sent, Outcome, Done, Refused}
use Rattle.claim_model.specs.Nodes.{AnyNode, node_step}
use Rattle.claim_model.specs.Logs.{Logged, NodeLog}
use Rattle.world_setup.specs.declared.settings.WorldSettings.{WorldSettings}
use Rattle.node_log.specs.Replayed.{replayed}
use Rattle.run_merge.specs.Merged.{FitsThere}
use Rattle.node_logged.specs.Setting.{context_of, opened}

-- the settings that all nodes share, a node, and its log
pub record Holding : Type 0 where
  pub settings : WorldSettings
  pub state : AnyNode
  pub log : NodeLog

-- the node is the replay, from its opening, of the log beside it
abbrev pub IsReplay : WorldSettings → AnyNode → NodeLog → Type 0
IsReplay settings state log = replayed settings log.node log.calls ≡ Some state

-- the node is the replay of the log beside it, and by itself accepts each call of the log in its turn and sends with it what stands beside the call
pub record IsKept (settings : WorldSettings) (state : AnyNode) (log : NodeLog) : Type 0 where
  pub replay : IsReplay settings state log
  pub fits : FitsThere (context_of settings) (opened settings log.node) log.calls

-- the log with an accepted call and what it sent after the others
abbrev pub recorded : NodeLog → Call → List Sent → NodeLog
recorded log call sent = record { node = log.node; calls = log.calls ++ record { call = call; sent = sent } ∷ [] }

abbrev pub held_by : Holding → Call → Outcome AnyNode → Option Holding
held_by h call (Done next sent) = Some (record { settings = h.settings; state = next; log = recorded h.log call sent })
held_by h call (Refused why) = None

-- one step of the node, and one record of it after the others; none where the node refuses the call
abbrev pub after_call : Holding → Call → Option Holding
after_call h call = held_by h call (node_step (context_of h.settings) h.state call)

abbrev pub started_from : Holding → Option Holding → Option Holding
started_from h (Some stopped) = after_call stopped Start
started_from h None = after_call h Start

-- a stop, unless the node is down, and then a start
abbrev pub after_restart : Holding → Option Holding
after_restart h = started_from h (after_call h Stop)

-- the last call of a log with what it sent, if there is one
abbrev pub last_record : List Logged → Option Logged
last_record calls = slice_get calls (length calls - 1)

-- what the last call of a log sent; nothing where there is none
abbrev pub last_sent : List Logged → List Sent
last_sent calls = unwrap_or (option_map (λ (l : Logged). l.sent) (last_record calls)) []
