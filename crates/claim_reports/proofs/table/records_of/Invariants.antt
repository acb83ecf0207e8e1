use Rattle.std.proofs.Common.{map}
use Rattle.csv.specs.Records.{fields_of}
use Rattle.claim_reports.proofs.Continuing.{IsReading}
use Rattle.claim_reports.proofs.table.records_of.Given as goal

-- the records so far, and a reader of the others
abbrev pub invariant-loop-record : goal.invariant-loop-record
invariant-loop-record l = IsReading l.fn.text (map fields_of l.records.items) l.record-iterator
