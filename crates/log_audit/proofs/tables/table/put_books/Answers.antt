use Rattle.claim_model.specs.Bytes.{bytes_with}
use Rattle.claim_model.specs.Held.{book_in}
use Rattle.log_audit.specs.TabledSeen.{book_rows}
use Rattle.log_audit.proofs.Joining.{blocks_go_on, blocks_are_done}
use Rattle.log_audit.proofs.tables.table.put_books.Goals as goal

pub loop-node-preserved : goal.loop-node-preserved
loop-node-preserved g c = λ routes.
    blocks_go_on c.args.style (λ node. book_rows (bytes_with routes) c.args.of (book_in node)) c.loop-node.out c.put_of_book.new.out _ c.args.nodes.now c.loop-node.node-index c.node-item.result c.loop-node-test.true c.node-item.is
    (rw (c.book-in-loop-node.ensures, c.in_ok-reading.ensures) at c.in_ok-put_of_book.ensures routes) (c.loop-node.invariant routes)

pub returns : goal.returns
returns g c = λ routes.
    blocks_are_done c.args.style (λ node. book_rows (bytes_with routes) c.args.of (book_in node)) c.loop-node.out _ c.args.nodes.now c.loop-node.node-index c.loop-node-test.false (c.loop-node.invariant routes)
