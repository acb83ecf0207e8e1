use Rattle.std.proofs.Common.{arith, refl, sym, ap}
use Rattle.claim_model.specs.Bytes.{bytes_with}
use Rattle.world_setup.specs.Seen.{settings_seen, node_seen}
use Rattle.node_log.specs.LogSeen.{log_seen, logs_seen}
use Rattle.run_merge.proofs.Merging.{fit_next, fit_all}
use Rattle.log_audit.proofs.Ends.{standing_by, stands_as, stands_at}
use Rattle.log_audit.proofs.judging.standing.nodes_left.Goals as goal
use Rattle.world_setup.specs.Taken.{routes_in}

pub loop-log-init : goal.loop-log-init
loop-log-init c = record {
  fit = record { fit = λ k log lt is. absurd (omega (arith, lt)) };
  by_number = c.new-found.ensures c.args.settings.now (logs_seen c.args.logs.now);
}

pub loop-log-preserved : goal.loop-log-preserved
loop-log-preserved c =
    let s = c.args.settings.now in
    let logs = c.args.logs.now in
    let place = c.loop-log.log-index in
    let log = c.log-item.result in
    let left = rw c.in-Some.is at c.in_ok-node.ensures in
    record {
      fit = fit_next (bytes_with (routes_in s)) (settings_seen s) logs place log (omega arith) c.log-item.is left.fits c.loop-log.invariant.fit;
      by_number = c.in_ok-enter.ensures c.if-not-branch.false s (logs_seen logs)
          (stands_as s (logs_seen logs) (log_seen log).node (node_seen c.node.result) c.in-Some.node c.in-Some.node (sym (ap node_seen c.node.ensures)) refl (stands_at s logs place log c.in-Some.node (omega arith) c.log-item.is left)) c.loop-log.invariant.by_number;
    }

pub returns : goal.returns
returns c =
    let s = c.args.settings.now in
    let logs = c.args.logs.now in
    standing_by s (logs_seen logs) c.loop-log.found c.in_order.result (fit_all (bytes_with (routes_in s)) (settings_seen s) logs c.loop-log.log-index (omega arith) c.loop-log.invariant.fit) c.loop-log.invariant.by_number
    c.in_order.ensures
