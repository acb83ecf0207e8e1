-- The logs of nodes by their names.
use Rattle.std.specs.Prelude.{ℕ, ◌+◌, ◌-◌, Bool, true, cond, not, ◌&&◌, nat_lt, List, [], ◌∷◌}
use Rattle.std.specs.List.{list_any}
use Rattle.claim_model.specs.Node.{Node, Pharmacy, Switch, Payer}
use Rattle.claim_model.specs.Nodes.{same_node}
use Rattle.claim_model.specs.Logs.{Logged, NodeLog}

-- the name at a place among those of all nodes: of pharmacies, then of switches, then of payers
abbrev pub name_at : ℕ → ℕ → ℕ → Node
name_at pharmacies switches place =
    cond (nat_lt place pharmacies) (Pharmacy (place + 1)) (cond (nat_lt place (pharmacies + switches)) (Switch (place - pharmacies + 1)) (Payer (place - (pharmacies + switches) + 1)))

-- whether there is a log of this node
abbrev pub has_log : Node → List NodeLog → Bool
has_log node logs = list_any (λ log. same_node log.node node) logs

-- whether no two logs are of one node
abbrev pub all_distinct : List NodeLog → Bool
all_distinct [] = true
all_distinct (log ∷ more) = not (has_log log.node more) && all_distinct more

-- the calls that the logs have of a node
abbrev pub calls_of : List NodeLog → Node → List Logged
calls_of [] node = []
calls_of (log ∷ more) node = cond (same_node log.node node) log.calls (calls_of more node)
