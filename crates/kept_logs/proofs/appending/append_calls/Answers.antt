use Rattle.std.proofs.Common.{◌+◌, ◌-◌, length, arith}
use Rattle.kept_logs.specs.Digests.{version_seen}
use Rattle.kept_logs.specs.Logs.{records_in}
use Rattle.kept_logs.specs.LogSeen.{entry_seen}
use Rattle.kept_logs.proofs.Loops.{stepped, passed_on}
use Rattle.kept_logs.proofs.AppendedSoFar.{nothing_appended, one_more_appended, appended_to_here, all_appended, no_record_appended}
use Rattle.kept_logs.proofs.appending.append_calls.Goals as goal

pub loop-place-init : goal.loop-place-init
loop-place-init c = nothing_appended (version_seen c.args.version) c.args.before c.args.total c.args.bytes.now c.args.text.now.items

pub returns-in_err-entry-clause-fault : goal.returns-in_err-entry-clause-fault
returns-in_err-entry-clause-fault c =
    passed_on c.from_residual.result c.in_err-entry.field-0.0 (records_in (version_seen c.args.version) c.args.total c.args.bytes.now) c.from_residual.ensures.1
    (λ other. no_record_appended (version_seen c.args.version) c.args.before c.args.total c.args.bytes.now c.args.text.now.items c.loop-place.text.items c.loop-place.place c.loop-place.rest.now c.in_err-entry.field-0.0 c.loop-place.invariant c.loop-place-test.true
    (grind (arith, c.in_err-entry.ensures.fault other, c.saturating_sub-start.ensures)))

pub loop-place-preserved : goal.loop-place-preserved
loop-place-preserved c =
    one_more_appended (version_seen c.args.version) c.args.before c.args.total c.args.bytes.now c.args.text.now.items c.loop-place.text.items c.append_entry.new.text.items c.loop-place.place c.loop-place.rest.now c.in-Some.after.now (entry_seen c.in-Some.entry)
    c.loop-place.invariant c.loop-place-test.true
    (stepped (version_seen c.args.version) _ (c.loop-place.place + 1) c.saturating_sub-start.result (c.args.total - length c.loop-place.rest.now) c.loop-place.rest.now c.in_ok-entry.field-0 _ c.saturating_sub-start.ensures c.in_ok-entry.ensures.ok c.in-Some.is)
    c.in_ok-append_entry.ensures

pub returns-in_default-clause-ok : goal.returns-in_default-clause-ok
returns-in_default-clause-ok c =
    appended_to_here (version_seen c.args.version) c.args.before c.args.total c.args.bytes.now c.args.text.now.items c.loop-place.text.items c.loop-place.place c.loop-place.rest.now c.loop-place.invariant c.loop-place-test.true
    (stepped (version_seen c.args.version) _ (c.loop-place.place + 1) c.saturating_sub-start.result (c.args.total - length c.loop-place.rest.now) c.loop-place.rest.now c.in_ok-entry.field-0 _ c.saturating_sub-start.ensures c.in_ok-entry.ensures.ok c.in_default.is)

pub returns-clause-ok : goal.returns-clause-ok
returns-clause-ok c = all_appended (version_seen c.args.version) c.args.before c.args.total c.args.bytes.now c.args.text.now.items c.loop-place.text.items c.loop-place.place c.loop-place.rest.now c.loop-place.invariant (omega arith)
