use Rattle.std.proofs.Common.{◌≡◌, ◌∷◌, ◌++◌, drop}
use Rattle.std.specs.List.{flat_map}
use Rattle.log_audit.specs.Rules.{switch_name}
use Rattle.log_audit.proofs.revisions.retries.put_more.Given as goal

-- the names so far, and then those that are left
abbrev pub invariant-loop-node : goal.invariant-loop-node
invariant-loop-node l = l.text.items ++ flat_map (λ node. 32 ∷ switch_name node) (drop l.node-index l.nodes) ≡ l.initial.text.items ++ flat_map (λ node. 32 ∷ switch_name node) l.nodes
