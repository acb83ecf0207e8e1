use Rattle.world_setup.specs.Seen.{node_seen}
use Rattle.log_turning.specs.Joined.{part_seen}
use Rattle.log_folder.proofs.Ended.{begun, ended}
use Rattle.log_folder.proofs.closing.close_read.Goals as goal

pub returns-in-Ok-clause-each : goal.returns-in-Ok-clause-each
returns-in-Ok-clause-each g c =
    begun c.args.text.now (node_seen c.args.node) c.args.bytes.now (part_seen c.part_of-part.result) c.in-Ok.turned (g.F.Folder.deeds c.args.folder.now) (g.F.Folder.deeds c.close_turned.new.folder) c.part_of-part.ensures c.in-Ok.ensures.turned c.close_turned.ensures.each

pub returns-in-Ok-clause-done : goal.returns-in-Ok-clause-done
returns-in-Ok-clause-done g c =
    ended c.args.text.now (node_seen c.args.node) c.args.least c.args.bytes.now (part_seen c.part_of-part.result) c.in-Ok.turned (g.F.Folder.deeds c.args.folder.now) (g.F.Folder.deeds c.close_turned.new.folder) c.close_turned.result c.part_of-part.ensures c.in-Ok.ensures.turned c.close_turned.ensures.done
