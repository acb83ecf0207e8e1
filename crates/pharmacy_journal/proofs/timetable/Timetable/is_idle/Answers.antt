use Rattle.std.proofs.Common.{sym, ◌∙◌}
use Rattle.pharmacy_journal.specs.Retry.{phase_at}
use Rattle.pharmacy_journal.proofs.Idle.{quiet_by_leads, quiet_by_buckets}
use Rattle.pharmacy_journal.proofs.timetable.Timetable.is_idle.Goals as goal

pub returns : goal.returns
returns c =
    let t = c.self.inside in
    rw (← c.self.view_is, c.have_open.ensures, c.as_slice.ensures.value, c.as_slice-2.ensures.value)
    (quiet_by_buckets t.retry.rule t.leads.items t.buckets.items c.self.invariant ∙ sym (quiet_by_leads (phase_at t.retry) t.leads.items))
