-- One log by itself: whether its node makes it, and what the node has then.
use Rattle.std.specs.Prelude.{ℕ, ◌+◌, ◌-◌, ◌^◌, Bool, true, false, cond, min, nat_le, List, [], ◌∷◌, ◌++◌, length, slice_index, codes, Option, Some, None, Result, Ok, Err}
use Rattle.claim_model.specs.Context.{Context}
use Rattle.claim_model.specs.Settings.{opening}
use Rattle.claim_model.specs.Node.{Call, Submit, Tick, Take, Stop, Start, Revise, Adjudicate}
use Rattle.claim_model.specs.Nodes.{AnyNode, node_at}
use Rattle.claim_model.specs.Logs.{Logged, NodeLog}
use Rattle.world_setup.specs.Seen.{settings_seen}
use Rattle.world_setup.specs.declared.settings.WorldSettings.{WorldSettings}
use Rattle.kept_logs.specs.Rests.{begins}
use Rattle.log_audit.specs.Lacks.{node_line}
use Rattle.log_audit.specs.Wrongs.{FirstWrong, calls_made, wrong_line}

-- a node after its calls, or the line that says which call it does not make
abbrev pub ended : NodeLog → Result AnyNode FirstWrong → Result AnyNode (List ℕ)
ended log (Ok node) = Ok node
ended log (Err first) = Err (wrong_line log.node first)

-- where it begins as this node; or with nothing that is a beginning of it
abbrev pub made_from : Context → NodeLog → Option AnyNode → Result AnyNode (List ℕ)
made_from ctx log None = Err (node_line log.node (codes " cannot begin with what its closed logs left"))
made_from ctx log (Some node) = ended log (calls_made ctx node 1 log.calls)

-- and where its settings have it
abbrev pub made_at : Context → NodeLog → Option AnyNode → Option AnyNode → Result AnyNode (List ℕ)
made_at ctx log None begun = Err (node_line log.node (codes " is no node of these settings"))
made_at ctx log (Some opened) begun = made_from ctx log begun

-- the node of a log after its calls, from what the log begins with, or the line that says why it does not make them
abbrev pub lone_node : Context → WorldSettings → Option (List ℕ) → NodeLog → Result AnyNode (List ℕ)
lone_node ctx s rest log = made_at ctx log (node_at (opening (settings_seen s)) log.node) (begins s log.node rest)

abbrev pub is_made : {A B : Type 0} → Result A B → Bool
is_made (Ok node) = true
is_made (Err line) = false

-- how many ticks there were after a call, as far as 64 bits hold it
abbrev pub ticked : ℕ → Call → ℕ
ticked ticks (Submit text) = ticks
ticked ticks Tick = min (ticks + 1) (2 ^ 64 - 1)
ticked ticks (Take from bytes) = ticks
ticked ticks Stop = ticks
ticked ticks Start = ticks
ticked ticks (Revise change) = ticks
ticked ticks (Adjudicate from bytes advice) = ticks

-- the count of ticks at a submission
abbrev pub submitted : ℕ → Call → List ℕ
submitted ticks (Submit text) = ticks ∷ []
submitted ticks Tick = []
submitted ticks (Take from bytes) = []
submitted ticks Stop = []
submitted ticks Start = []
submitted ticks (Revise change) = []
submitted ticks (Adjudicate from bytes advice) = []

-- how many ticks came in all, from this many on
abbrev pub ticks_after : ℕ → List Logged → ℕ
ticks_after ticks [] = ticks
ticks_after ticks (r ∷ more) = ticks_after (ticked ticks r.call) more

-- and at each submission
abbrev pub submitted_at : ℕ → List Logged → List ℕ
submitted_at ticks [] = []
submitted_at ticks (r ∷ more) = submitted ticks r.call ++ submitted_at (ticked ticks r.call) more

-- how many ticks there were at the submission of a number, where this many submissions were made before these calls; none, where it is one of those
abbrev pub ticks_then : List ℕ → ℕ → ℕ → ℕ
ticks_then at before number = cond (nat_le number before) 0 (slice_index at (number - before - 1))

-- how many ticks of a pharmacy that has this many entries came in these calls after the submission of a number; in all of them, where it was submitted before them
abbrev pub age : ℕ → List Logged → ℕ → ℕ
age entries calls number = ticks_after 0 calls - ticks_then (submitted_at 0 calls) (entries - length (submitted_at 0 calls)) number
