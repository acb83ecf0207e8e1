use Rattle.std.proofs.Common.{map, take}
use Rattle.log_audit.specs.Changes.{change_seen}
use Rattle.log_audit.specs.ChangeTables.{change_rows}
use Rattle.log_audit.proofs.Changing.{rows_go_on, rows_are_done}
use Rattle.log_audit.proofs.revisions.tables.put_changes.Goals as goal

pub loop-place-preserved : goal.loop-place-preserved
loop-place-preserved c =
    rows_go_on change_seen (change_rows c.args.settings.now c.args.of c.args.name.now) c.loop-place.out.items c.put_change.new.out.items _ c.args.changes.now c.loop-place.place _ c.loop-place-test.true c.in_ok-put_change.ensures c.loop-place.invariant

pub returns : goal.returns
returns c =
    rows_are_done change_seen (change_rows c.args.settings.now c.args.of c.args.name.now) c.loop-place.out.items _ (map change_seen (take c.loop-place.place c.args.changes.now)) c.args.changes.now c.loop-place.place c.loop-place-test.false c.loop-place.invariant
