use Rattle.std.proofs.Common.{arith}
use Rattle.claim_model.specs.Bytes.{bytes_with}
use Rattle.world_setup.specs.Seen.{settings_seen}
use Rattle.run_merge.proofs.Merging.{fit_not, fit_next, fit_all}
use Rattle.run_merge.proofs.history.all_fit.Goals as goal
use Rattle.world_setup.specs.Taken.{routes_in}

pub returns-then-not-branch : goal.returns-then-not-branch
returns-then-not-branch c =
    fit_not (bytes_with (routes_in c.args.settings.now)) (settings_seen c.args.settings.now) c.args.logs.now c.loop-log.log-index c.log-item.result (omega arith) c.log-item.is (rw c.if-not-branch.true at c.in_ok-fits_alone.ensures)

pub loop-log-preserved : goal.loop-log-preserved
loop-log-preserved c =
    fit_next (bytes_with (routes_in c.args.settings.now)) (settings_seen c.args.settings.now) c.args.logs.now c.loop-log.log-index c.log-item.result (omega arith) c.log-item.is (rw c.if-not-branch.false at c.in_ok-fits_alone.ensures) c.loop-log.invariant

pub returns : goal.returns
returns c = fit_all (bytes_with (routes_in c.args.settings.now)) (settings_seen c.args.settings.now) c.args.logs.now c.loop-log.log-index (omega arith) c.loop-log.invariant
