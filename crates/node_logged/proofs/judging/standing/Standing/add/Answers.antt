use Rattle.std.proofs.Common.{ap}
use Rattle.world_setup.specs.Seen.{node_seen}
use Rattle.node_log.specs.LogSeen.{log_seen, logs_seen}
use Rattle.node_logged.specs.StandingSeen.{nodes_seen}
use Rattle.node_logged.proofs.Stands.{stands_next, logs_more}
use Rattle.node_logged.proofs.judging.standing.Standing.add.Goals as goal

pub returns-clause-nodes : goal.returns-clause-nodes
returns-clause-nodes c = λ was yes.
    let all = c.are_true-self.ensures yes in
    let next = c.in_ok-is_next.ensures all.2 in
    stands_next c.args.settings.now c.args.held.settings (nodes_seen c.args.self.now.nodes) (nodes_seen c.add_next.new.nodes) (logs_seen c.args.self.now.logs.items) (logs_seen c.push.new.self.items) (node_seen c.node.result)
    c.into_parts-state.result.0 (log_seen c.into_parts-state.result.1) (c.is_under-is_under.ensures all.1) c.into_parts-state.ensures.kept (ap node_seen c.node.ensures) next.0 next.1
    (logs_more c.args.self.now.logs.items c.push.new.self.items c.into_parts-state.result.1 c.in_ok-push.ensures.items) (was all.0)
