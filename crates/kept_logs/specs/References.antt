-- What callers call their submissions, and the numbers that these have.
use Rattle.std.specs.Prelude.{ℕ, ◌==◌, cond, List, [], ◌∷◌, ◌++◌, length}
use Rattle.claim_model.specs.Context.{Context}
use Rattle.claim_model.specs.Node.{Call, Submit, Tick, Take, Stop, Start, Revise, Adjudicate}
use Rattle.claim_model.specs.Nodes.{AnyNode, node_step}
use Rattle.claim_model.specs.Logs.{node_after}
use Rattle.node_state.specs.Nodes.{entries_of}
use Rattle.kept_logs.specs.Stamps.{Stamped}

-- what a caller calls a submission, and the number of its entry
pub record Reference : Type 0 where
  pub name : List ℕ
  pub number : ℕ

-- of a submission under this name, which may be none: of the entry that the node then has last
abbrev pub named : List ℕ → AnyNode → List Reference
named name next = cond (length name == 0) [] (record { name = name; number = entries_of next } ∷ [])

-- the reference of a call that was made under this name
abbrev pub referred : List ℕ → Call → AnyNode → List Reference
referred name (Submit text) next = named name next
referred name Tick next = []
referred name (Take from bytes) next = []
referred name Stop next = []
referred name Start next = []
referred name (Revise change) next = []
referred name (Adjudicate from bytes advice) next = []

-- the references of calls that a node makes, in order
abbrev pub references_in : Context → AnyNode → List Stamped → List Reference
references_in ctx node [] = []
references_in ctx node (r ∷ calls) =
    referred r.stamp.reference r.logged.call (node_after node (node_step ctx node r.logged.call)) ++ references_in ctx (node_after node (node_step ctx node r.logged.call)) calls
