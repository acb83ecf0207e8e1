use Rattle.std.proofs.Common.{append_assoc}
use Rattle.log_audit.specs.Tables.{table_member}
use Rattle.log_audit.proofs.tables.table.put_member.Goals as goal

pub returns : goal.returns
unfolding table_member
returns g c = λ routes. simp (c.in_ok-put-3.ensures, c.in_ok-put-2.ensures, c.name.ensures, c.in_ok-put.ensures, append_assoc) at (c.put_rows_list.ensures routes)
