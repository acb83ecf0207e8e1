use Rattle.std.proofs.Common.{List, ◌+◌, ◌-◌, ◌++◌, ◌∷◌, [], length, ◌∙◌, refl, ap, sym, arith}
use Rattle.kept_logs.specs.Stamps.{Stamped}
use Rattle.kept_logs.specs.Digests.{version_seen}
use Rattle.kept_logs.specs.Logs.{behind, calls_in, records_in}
use Rattle.kept_logs.specs.LogSeen.{entry_seen}
use Rattle.kept_logs.proofs.Loops.{calls_begin, calls_taken, calls_cut, calls_stop, calls_all, stepped, passed_on}
use Rattle.kept_logs.proofs.kept.read_records.Goals as goal

pub loop-place-init : goal.loop-place-init
loop-place-init c = calls_begin (version_seen c.args.version) c.args.total c.args.bytes.now c.new-calls.result.items c.new-calls.ensures.items

pub returns-in_err-entry-clause-fault : goal.returns-in_err-entry-clause-fault
returns-in_err-entry-clause-fault c =
    passed_on c.from_residual.result c.in_err-entry.field-0.0 (records_in (version_seen c.args.version) c.args.total c.args.bytes.now) c.from_residual.ensures.1
    (λ other. c.loop-place.invariant ∙ calls_stop (version_seen c.args.version) c.args.total (length c.args.bytes.now) c.loop-place.place c.loop-place.calls.items c.loop-place.rest.now c.in_err-entry.field-0.0 c.loop-place-test.true
    (grind (arith, c.in_err-entry.ensures.fault other, c.saturating_sub-start.ensures)))

pub loop-place-preserved : goal.loop-place-preserved
loop-place-preserved c =
    let bytes = c.args.bytes.now in
    let done = c.loop-place.calls.items in
    let step = calls_taken (version_seen c.args.version) c.args.total (length bytes) c.loop-place.place done c.loop-place.rest.now (entry_seen c.in-Some.entry) c.in-Some.after.now c.loop-place-test.true
    (stepped (version_seen c.args.version) _ (c.loop-place.place + 1) c.saturating_sub-start.result (c.args.total - length c.loop-place.rest.now) c.loop-place.rest.now c.in_ok-entry.field-0 _ c.saturating_sub-start.ensures c.in_ok-entry.ensures.ok c.in-Some.is) in
    c.loop-place.invariant ∙ step ∙ ap (λ (d : List Stamped). behind d (calls_in (version_seen c.args.version) c.args.total (c.loop-place.place + 1 + 1) (length bytes - (c.loop-place.place + 1)) c.in-Some.after.now))
    (sym (c.in_ok-push.ensures.items ∙ ap (λ (x : Stamped). done ++ x ∷ []) c.in_ok-kept_of.ensures))

pub returns-in_default-clause-ok : goal.returns-in_default-clause-ok
returns-in_default-clause-ok c = record {
  rest = c.loop-place.rest.now;
  read = c.loop-place.invariant ∙ calls_cut (version_seen c.args.version) c.args.total (length c.args.bytes.now) c.loop-place.place c.loop-place.calls.items c.loop-place.rest.now c.loop-place-test.true
      (stepped (version_seen c.args.version) _ (c.loop-place.place + 1) c.saturating_sub-start.result (c.args.total - length c.loop-place.rest.now) c.loop-place.rest.now c.in_ok-entry.field-0 _ c.saturating_sub-start.ensures c.in_ok-entry.ensures.ok c.in_default.is);
  count = refl;
}

pub returns-clause-ok : goal.returns-clause-ok
returns-clause-ok c = record {
  rest = c.loop-place.rest.now;
  read = c.loop-place.invariant ∙ calls_all (version_seen c.args.version) c.args.total (length c.args.bytes.now) c.loop-place.place c.loop-place.calls.items c.loop-place.rest.now (omega arith);
  count = refl;
}
