use Rattle.std.proofs.Common.{append_assoc}
use Rattle.log_audit.specs.LoneTelling.{behind_list}
use Rattle.log_audit.proofs.alone.object.put_behind_list.Goals as goal

pub returns : goal.returns
unfolding behind_list
returns g c =
    simp (c.as_slice-2.ensures.value, c.in_ok-put_list.ensures, c.in_ok-extend_from_slice.ensures.items, c.piece-list.ensures, c.as_slice.ensures.value, c.in_ok-put_before.ensures, c.piece-rows.ensures, append_assoc) at c.put.ensures
