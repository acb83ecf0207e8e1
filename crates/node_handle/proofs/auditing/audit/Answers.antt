use Rattle.std.proofs.Common.{inl}
use Rattle.node_handle.proofs.auditing.audit.Goals as goal

pub returns-in-Ok : goal.returns-in-Ok
returns-in-Ok c = inl (c.in-Ok.report.text.items, (c.in-Ok.report.legal, (c.in-Ok.ensures.judged, c.give.ensures)))
