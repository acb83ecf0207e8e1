use Rattle.std.proofs.Common.{◌+◌, ◌-◌, length, refl, arith}
use Rattle.world_setup.specs.Seen.{call_seen}
use Rattle.claim_model.specs.Bytes.{bytes_with}
use Rattle.kept_logs.specs.Digests.{version_seen}
use Rattle.kept_logs.specs.LogSeen.{call_alone, entry_seen}
use Rattle.kept_logs.proofs.Loops.{stepped}
use Rattle.kept_logs.proofs.MadeSoFar.{all_made, cut_off_here, no_record_here, not_made_here, nothing_made, one_more_made}
use Rattle.kept_logs.proofs.making.make_calls.Goals as goal

pub loop-place-init : goal.loop-place-init
loop-place-init c = nothing_made (bytes_with c.args.routes.now) c.args.opening (version_seen c.args.version) c.args.total c.args.bytes.now c.new-references.result.items c.new-references.ensures.items

pub returns-in-Ok-None : goal.returns-in-Ok-None
returns-in-Ok-None c =
    cut_off_here (bytes_with c.args.routes.now) c.args.opening (version_seen c.args.version) c.args.total c.args.bytes.now c.loop-place.node c.loop-place.references.items c.loop-place.place c.loop-place.rest.now c.loop-place.invariant c.loop-place-test.true
    (stepped (version_seen c.args.version) _ (c.loop-place.place + 1) c.saturating_sub-start.result (c.args.total - length c.loop-place.rest.now) c.loop-place.rest.now c.in-Ok-None.field-0 _ c.saturating_sub-start.ensures c.in-Ok-None.ensures.ok c.in-Ok-None.field-0-is)

pub loop-place-preserved : goal.loop-place-preserved
loop-place-preserved c =
    one_more_made (bytes_with c.args.routes.now) c.args.opening (version_seen c.args.version) c.args.total c.args.bytes.now c.loop-place.node c.make_entry.new.node c.loop-place.references.items c.make_entry.new.references.items c.loop-place.place c.loop-place.rest.now c.in-Ok-Some.after.now
    _ (call_alone c.in-Ok-Some.entry) (call_seen c.in-Ok-Some.entry.call) (entry_seen c.in-Ok-Some.entry) c.loop-place.invariant c.loop-place-test.true
    (stepped (version_seen c.args.version) _ (c.loop-place.place + 1) c.saturating_sub-start.result (c.args.total - length c.loop-place.rest.now) c.loop-place.rest.now c.in-Ok-Some.field-0 _ c.saturating_sub-start.ensures c.in-Ok-Some.ensures.ok c.in-Ok-Some.field-0-is)
    refl c.if-not-branch.false c.in_ok-make_entry-in-Ok-Some.ensures.made refl (c.in_ok-make_entry-in-Ok-Some.ensures.noted c.if-not-branch.false)

pub returns : goal.returns
returns c = all_made (bytes_with c.args.routes.now) c.args.opening (version_seen c.args.version) c.args.total c.args.bytes.now c.loop-place.node c.loop-place.references.items c.loop-place.place c.loop-place.rest.now c.loop-place.invariant (omega arith)

pub returns-in-Err : goal.returns-in-Err
returns-in-Err c =
    no_record_here (bytes_with c.args.routes.now) c.args.opening (version_seen c.args.version) c.args.total c.args.bytes.now c.loop-place.node c.loop-place.references.items c.loop-place.place c.loop-place.rest.now c.in-Err.fault c.loop-place.invariant c.loop-place-test.true
    (grind (arith, c.in-Err.ensures.fault c.in_ok-no_record-in-Err.ensures, c.saturating_sub-start.ensures))

pub returns-then-not-branch : goal.returns-then-not-branch
returns-then-not-branch c =
    not_made_here (bytes_with c.args.routes.now) c.args.opening (version_seen c.args.version) c.args.total c.args.bytes.now c.loop-place.node c.make_entry.new.node c.loop-place.references.items c.loop-place.place c.loop-place.rest.now c.in-Ok-Some.after.now
    _ (call_alone c.in-Ok-Some.entry) (entry_seen c.in-Ok-Some.entry) c.loop-place.invariant c.loop-place-test.true
    (stepped (version_seen c.args.version) _ (c.loop-place.place + 1) c.saturating_sub-start.result (c.args.total - length c.loop-place.rest.now) c.loop-place.rest.now c.in-Ok-Some.field-0 _ c.saturating_sub-start.ensures c.in-Ok-Some.ensures.ok c.in-Ok-Some.field-0-is)
    refl c.if-not-branch.true c.in_ok-make_entry-in-Ok-Some.ensures.made
