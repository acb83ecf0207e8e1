use Rattle.std.proofs.Common.{◌++◌}
use Rattle.std.specs.List.{flat_map}
use Rattle.bin_routes.specs.Table.{RouteMaps}
use Rattle.claim_model.specs.Bytes.{bytes_with}
use Rattle.node_service.specs.Payments.{book_payments, page, payment_line}
use Rattle.node_service.proofs.Pages.{PagedBefore}
use Rattle.node_service.proofs.payment_lines.put_book_page.Given as goal

-- what is told, and then what is left to be told, is all
abbrev pub invariant-loop-more : goal.invariant-loop-more
invariant-loop-more l =
    (routes : RouteMaps) → PagedBefore (flat_map payment_line) l.out.items (l.fn.out.items ++ flat_map payment_line (page l.number l.count (book_payments (bytes_with routes) l.book))) (book_payments (bytes_with routes) l.book)
    l.passed l.more l.count
