use Rattle.std.proofs.Common.{ap, sym, ◌∙◌}
use Rattle.std.proofs.lemmas.Result.{err_from_is_err_and}
use Rattle.kept_records.specs.Faults.{◌>>=◌, ended}
use Rattle.kept_records.specs.Journals.{entry_in, entries_in}
use Rattle.kept_records.proofs.Chains.{ok_as, fault_as}
use Rattle.kept_records.proofs.Loops.{each_goes_on, each_stops, each_ends}
use Rattle.kept_records.proofs.journal_reading.read_entries.Goals as goal

pub returns-in_err-rest-clause-fault : goal.returns-in_err-rest-clause-fault
unfolding entries_in
returns-in_err-rest-clause-fault c =
    let p = err_from_is_err_and c.from_residual.result c.from_residual.ensures.1 in
    let place = c.saturating_sub-place.ensures in
    rw (p.1, p.2) (λ other. ap (λ r. r >>= ended c.args.total) (c.loop.invariant ∙ each_stops (entry_in c.args.head.version) c.args.total c.args.head.count c.loop.counter c.loop.journal c.loop.rest.now c.in_err-rest.field-0.0 c.loop-test.true (rw place at (c.in_err-rest.ensures.fault other))))

pub loop-preserved : goal.loop-preserved
loop-preserved c =
    let place = c.saturating_sub-place.ensures in
    c.loop.invariant ∙ each_goes_on (entry_in c.args.head.version) c.args.total c.args.head.count c.loop.counter c.loop.journal c.loop.rest.now c.enter.new.journal c.in_ok-rest.rest.now c.loop-test.true (rw place at c.in_ok-rest.ensures.ok)

pub returns-clause-ok : goal.returns-clause-ok
unfolding entries_in
returns-clause-ok c =
    ok_as (entries_in c.args.head.version c.args.total c.args.head.count c.args.journal c.args.bytes.now) c.finish.result
    (ap (λ r. r >>= ended c.args.total) (c.loop.invariant ∙ each_ends (entry_in c.args.head.version) c.args.total c.args.head.count c.loop.counter c.loop.journal c.loop.rest.now c.loop-test.false) ∙ sym c.finish.ensures)

pub returns-clause-fault : goal.returns-clause-fault
unfolding entries_in
returns-clause-fault c =
    fault_as (entries_in c.args.head.version c.args.total c.args.head.count c.args.journal c.args.bytes.now) c.finish.result
    (ap (λ r. r >>= ended c.args.total) (c.loop.invariant ∙ each_ends (entry_in c.args.head.version) c.args.total c.args.head.count c.loop.counter c.loop.journal c.loop.rest.now c.loop-test.false) ∙ sym c.finish.ensures)
