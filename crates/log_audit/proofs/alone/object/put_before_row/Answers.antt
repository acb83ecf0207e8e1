use Rattle.log_audit.proofs.Joining.{rows_text-one}
use Rattle.log_audit.proofs.alone.object.put_before_row.Goals as goal

pub returns-then-is_behind : goal.returns-then-is_behind
returns-then-is_behind c = rw (← c.is_behind.ensures, c.if-is_behind.true, rows_text-one) (rw c.node.ensures at c.put_node_row.ensures)
