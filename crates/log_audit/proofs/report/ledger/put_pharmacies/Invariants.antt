use Rattle.std.proofs.Common.{◌≡◌, ◌+◌, ◌++◌, drop}
use Rattle.world_core.specs.Parts.{context_of}
use Rattle.log_audit.specs.Texts.{texts_from}
use Rattle.log_audit.specs.Ledger.{node_requests}
use Rattle.log_audit.proofs.report.ledger.put_pharmacies.Given as goal

-- the lines so far, and then those of the pharmacies that are left
abbrev pub invariant-loop-passed : goal.invariant-loop-passed
invariant-loop-passed l =
    l.out.items ++ texts_from (node_requests (context_of l.world) l.world.world) (l.passed + 1) (drop l.passed l.nodes)
    ≡ l.initial.out.items ++ texts_from (node_requests (context_of l.world) l.world.world) 1 l.nodes
