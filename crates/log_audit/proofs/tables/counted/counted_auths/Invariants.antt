use Rattle.std.proofs.Common.{◌≡◌, ◌||◌, drop}
use Rattle.std.specs.List.{flat_map}
use Rattle.bin_routes.specs.Table.{RouteMaps}
use Rattle.claim_model.specs.Words.{Auth}
use Rattle.claim_model.specs.Bytes.{bytes_with}
use Rattle.pharmacy_journal.specs.Counting.{has_auth}
use Rattle.log_audit.specs.Tables.{names_auth, node_counted, is_counted}
use Rattle.log_audit.proofs.tables.counted.counted_auths.Given as goal

-- the authorizations so far and those of the pharmacies that are left are all
abbrev pub invariant-loop-node : goal.invariant-loop-node
invariant-loop-node l =
    (routes : RouteMaps) (a : Auth) → (has_auth l.auths.keys a || names_auth (flat_map (node_counted (bytes_with routes)) (drop l.node-index l.nodes)) a) ≡ is_counted (bytes_with routes) l.nodes a
