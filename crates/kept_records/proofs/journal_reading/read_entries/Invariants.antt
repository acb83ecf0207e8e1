use Rattle.std.proofs.Common.{◌≡◌, ◌-◌}
use Rattle.kept_records.specs.Faults.{each_in}
use Rattle.kept_records.specs.Journals.{entry_in}
use Rattle.kept_records.proofs.journal_reading.read_entries.Given as goal

abbrev pub invariant-loop : goal.invariant-loop
invariant-loop l = each_in (entry_in l.head.version) l.total l.head.count l.fn.journal l.bytes ≡ each_in (entry_in l.head.version) l.total (l.head.count - l.counter) l.journal l.rest
