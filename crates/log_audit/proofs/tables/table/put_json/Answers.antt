use Rattle.std.proofs.Common.{append_assoc}
use Rattle.log_audit.specs.Tables.{table_members}
use Rattle.log_audit.proofs.tables.table.put_json.Goals as goal

pub returns : goal.returns
unfolding table_members
returns g c = λ routes.
    simp (c.in_ok-put_member-4.ensures routes, c.in_ok-put_member-3.ensures routes, c.in_ok-put_member-2.ensures routes, c.in_ok-put_member.ensures routes, append_assoc) at (c.put_member-5.ensures routes)
