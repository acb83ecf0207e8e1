use Rattle.std.proofs.Common.{◌≡◌, ◌+◌, ◌++◌, drop}
use Rattle.bin_routes.specs.Table.{RouteMaps}
use Rattle.claim_model.specs.Bytes.{bytes_with}
use Rattle.log_audit.specs.Texts.{texts_from}
use Rattle.log_audit.specs.Ledger.{node_paid}
use Rattle.log_audit.proofs.report.paid.put_payers.Given as goal

-- the lines so far, and then those of the payers that are left
abbrev pub invariant-loop-passed : goal.invariant-loop-passed
invariant-loop-passed l =
    (routes : RouteMaps) → l.out.items ++ texts_from (node_paid (bytes_with routes) l.pharmacies) (l.passed + 1) (drop l.passed l.nodes)
    ≡ l.initial.out.items ++ texts_from (node_paid (bytes_with routes) l.pharmacies) 1 l.nodes
