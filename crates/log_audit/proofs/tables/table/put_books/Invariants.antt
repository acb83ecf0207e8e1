use Rattle.std.proofs.Common.{◌≡◌, ◌++◌, drop}
use Rattle.std.specs.List.{flat_map}
use Rattle.bin_routes.specs.Table.{RouteMaps}
use Rattle.claim_model.specs.Bytes.{bytes_with}
use Rattle.claim_model.specs.Held.{book_in}
use Rattle.table_text.specs.Rows.{rows_text}
use Rattle.log_audit.specs.TabledSeen.{book_rows}
use Rattle.log_audit.proofs.tables.table.put_books.Given as goal

-- the rows so far, and then those of the books that are left
abbrev pub invariant-loop-node : goal.invariant-loop-node
invariant-loop-node g l =
    (routes : RouteMaps) → l.out ++ rows_text l.style (flat_map (λ node. book_rows (bytes_with routes) l.of (book_in node)) (drop l.node-index l.nodes))
    ≡ l.initial.out ++ rows_text l.style (flat_map (λ node. book_rows (bytes_with routes) l.of (book_in node)) l.nodes)
