use Rattle.std.proofs.Common.{ℕ, length, sym, subst}
use Rattle.kept_logs.specs.Digests.{version_seen}
use Rattle.log_folder.specs.Undamaged.{IsCountBefore}
use Rattle.log_folder.proofs.Standing.{none_counted, more_counted, counted_out}
use Rattle.log_folder.proofs.undamaged.records_before.Goals as goal

pub loop-passed-init : goal.loop-passed-init
loop-passed-init c = none_counted (version_seen c.of-version.result) c.args.bytes.now c.args.place c.behind_head-left.result.now c.behind_head-left.ensures

pub loop-passed-preserved : goal.loop-passed-preserved
loop-passed-preserved c = more_counted (version_seen c.of-version.result) c.args.bytes.now c.args.place c.loop-passed.passed c.loop-passed.left.now c.in-Some.after.now c.loop-passed.invariant c.if-bytes-left.false (sym c.in-Some.ensures)

pub returns-clause-count : goal.returns-clause-count
returns-clause-count c =
    subst (λ (v : ℕ). IsCountBefore v c.args.bytes.now c.args.place (length c.args.bytes.now)) c.of-version.ensures (counted_out (version_seen c.of-version.result) c.args.bytes.now c.args.place c.loop-passed.passed c.loop-passed.left.now c.loop-passed.invariant c.loop-passed-test.false)
