use Rattle.std.proofs.Common.{sym}
use Rattle.kept_logs.specs.Digests.{version_seen}
use Rattle.log_folder.proofs.Standing.{first_passed, more_passed}
use Rattle.log_folder.proofs.undamaged.run_behind.Goals as goal

pub loop-number-init : goal.loop-number-init
loop-number-init c = first_passed (version_seen c.args.version) c.args.bytes.now c.args.first c.args.from c.args.after.now c.requires.stands c.requires.within

pub loop-number-preserved : goal.loop-number-preserved
loop-number-preserved c = more_passed (version_seen c.args.version) c.args.bytes.now c.args.first c.args.from c.loop-number.number c.loop-number.left.now c.in-Some.after.now c.loop-number.invariant (sym c.in-Some.ensures)
