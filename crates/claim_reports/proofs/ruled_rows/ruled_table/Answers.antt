-- Each row with the time of its ruling.
use Rattle.std.proofs.Common.{ℕ, ◌∙◌, map}
use Rattle.std.specs.Global.{Vec}
use Rattle.csv.specs.Records.{fields_of}
use Rattle.claim_reports.proofs.Timed.{ruled_is}
use Rattle.claim_reports.proofs.ruled_rows.ruled_table.Goals as goal

pub returns-clause-made : goal.returns-clause-made
returns-clause-made c =
    ruled_is (λ (text : Vec ℕ). text.items) c.with_times.result c.args.rows.now c.args.calls.now (map fields_of c.in_ok-table.table.records.items) c.in_ok-requests.requests.items c.in_ok-taken.taken.items _
    c.in_ok-table.ensures.read c.in_ok-lacks.ensures.read c.in_ok-lacks-2.ensures.read c.in_ok-requests.ensures.read c.in_ok-taken.ensures.read
    (c.as_slice-3.ensures.value ∙ (rw (c.as_slice.ensures.value, c.as_slice-2.ensures.value) at c.in_ok-times.ensures.times))
    (rw c.records.ensures at c.with_times.ensures.made)
