use Rattle.run_merge.proofs.Placing.{placed}
use Rattle.run_merge.proofs.Places.{get_below}
use Rattle.run_merge.specs.LineSeen.{line_seen}
use Rattle.std.proofs.Common.{map}
use Rattle.world_setup.specs.Seen.{sent_seen}
use Rattle.run_merge.proofs.order.Order.place.Goals as goal

pub returns : goal.returns
returns c =
    placed c.args.self.now.lines.items c.args.turn.place c.index-line.result.now c.rest-after.result c.index-left-0.result c.args.self.now.posted c.post.new.self (map sent_seen c.sent-sent.result.now) c.args.self.now.events.items c.push.new.self.items c.args.turn.event
    (get_below line_seen c.args.self.now.lines.items c.args.turn.place c.requires.log c.requires.at) c.index-line.ensures c.requires c.index-left-0.is c.in_ok-post.ensures c.sent-sent.ensures c.in_ok-push.ensures.items c.rest-after.ensures
