-- A call that is recorded at the number of its node.
use Rattle.std.specs.Prelude.{ℕ, List, Option, Some, None}
use Rattle.claim_model.specs.Numbered.{numbered, renumbered}
use Rattle.claim_model.specs.Logs.{Logged, NodeLog}
use Rattle.node_log.specs.LogSeen.{with_call}

-- logs, with a call more in the one of a number, where there is one
abbrev pub recorded_in : List NodeLog → ℕ → Logged → Option NodeLog → List NodeLog
recorded_in logs number r None = logs
recorded_in logs number r (Some log) = renumbered logs number (with_call log r)

abbrev pub recorded_at : List NodeLog → ℕ → Logged → List NodeLog
recorded_at logs number r = recorded_in logs number r (numbered logs number)
