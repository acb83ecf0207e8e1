-- The node that is opened is served, and ends its log.
use Rattle.world_setup.specs.Seen.{node_seen}
use Rattle.log_turning.specs.Joined.{part_seen}
use Rattle.log_turning.proofs.Closing.{is_served}
use Rattle.log_turning.proofs.leaving.left_by.Goals as goal

pub returns-in-Ok-clause-left : goal.returns-in-Ok-clause-left
returns-in-Ok-clause-left c =
    let text = c.args.text.now in
    let node = node_seen c.args.node in
    let closed = part_seen c.args.closed.now in
    c.ended.ensures.closed text node closed.rest closed.log (is_served text node closed.rest closed.log c.in-Ok.kept c.in-Ok.service c.in-Ok.ensures.opened)
