use Rattle.std.proofs.Common.{◌≡◌, ◌++◌, drop}
use Rattle.std.specs.List.{flat_map}
use Rattle.bin_routes.specs.Table.{RouteMaps}
use Rattle.claim_model.specs.Bytes.{bytes_with}
use Rattle.node_service.specs.Payments.{ruling_payment}
use Rattle.node_service.proofs.payments.put_row.Given as goal

-- the payments so far, and then those of the rulings that are left
abbrev pub invariant-loop-ruling : goal.invariant-loop-ruling
invariant-loop-ruling l =
    (routes : RouteMaps) → l.list.items ++ flat_map (ruling_payment (bytes_with routes) l.book) (drop l.ruling-index l.ruling-items)
    ≡ l.initial.list.items ++ flat_map (ruling_payment (bytes_with routes) l.book) l.ruling-items
