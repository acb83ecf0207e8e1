use Rattle.std.proofs.Common.{◌∙◌}
use Rattle.claim_model.specs.Bytes.{bytes_with}
use Rattle.world_report.specs.BookRows.{row_lines}
use Rattle.world_report.proofs.Joining.{blocks_go_on, blocks_are_done}
use Rattle.world_report.proofs.lists.put_rows.Goals as goal

pub loop-row-preserved : goal.loop-row-preserved
loop-row-preserved c = λ routes.
    blocks_go_on (row_lines (bytes_with routes) c.args.book.now.rows) c.loop-row.out.items c.put_row.new.out.items _ c.rows-rows.result.now c.loop-row.row-index c.row-item.result c.loop-row-test.true c.row-item.is
    (c.in_ok-put_row.ensures routes) (c.loop-row.invariant routes)

pub returns : goal.returns
returns c = λ routes.
    blocks_are_done (row_lines (bytes_with routes) c.args.book.now.rows) c.loop-row.out.items _ c.rows-rows.result.now c.loop-row.row-index c.loop-row-test.false (c.loop-row.invariant routes)
    ∙ rw c.rows-rows.ensures.value
