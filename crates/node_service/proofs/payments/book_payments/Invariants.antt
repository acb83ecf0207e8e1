use Rattle.std.proofs.Common.{◌≡◌, ◌++◌, drop}
use Rattle.std.specs.List.{flat_map}
use Rattle.bin_routes.specs.Table.{RouteMaps}
use Rattle.claim_model.specs.Bytes.{bytes_with}
use Rattle.node_service.specs.Payments.{row_payments}
use Rattle.node_service.proofs.payments.book_payments.Given as goal

-- the payments so far, and then those of the rows that are left
abbrev pub invariant-loop-row : goal.invariant-loop-row
invariant-loop-row l =
    (routes : RouteMaps) → l.list.items ++ flat_map (row_payments (bytes_with routes) l.book) (drop l.row-index l.row-items) ≡ flat_map (row_payments (bytes_with routes) l.book) l.row-items
