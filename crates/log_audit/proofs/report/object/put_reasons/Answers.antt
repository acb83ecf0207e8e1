use Rattle.std.proofs.Common.{append_assoc}
use Rattle.log_audit.proofs.report.object.put_reasons.Goals as goal

pub returns : goal.returns
returns c = simp (c.in_ok-put_list.ensures, c.in_ok-extend_from_slice.ensures.items, append_assoc) at c.in_ok-extend_from_slice-2.ensures.items
