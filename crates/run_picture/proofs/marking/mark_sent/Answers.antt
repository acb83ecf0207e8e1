use Rattle.std.proofs.Common.{◌∙◌, map}
use Rattle.run_picture.specs.Seen.{mark_seen}
use Rattle.run_picture.proofs.Making.{sent_is_done, sent_by_views}
use Rattle.run_picture.proofs.marking.mark_sent.Goals as goal

pub returns : goal.returns
returns c =
    sent_is_done (map mark_seen c.loop-place.marks.items) _ c.args.number c.loop-place.place c.args.packets.now c.loop-place-test.false c.loop-place.invariant
    ∙ sent_by_views (map mark_seen c.args.marks.now.items) c.args.number c.args.posted c.args.packets.now
