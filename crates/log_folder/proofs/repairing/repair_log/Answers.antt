use Rattle.world_setup.specs.Seen.{node_seen}
use Rattle.log_folder.proofs.Repairs.{repaired}
use Rattle.log_folder.proofs.repairing.repair_log.Goals as goal

pub returns-in-Ok-clause-done : goal.returns-in-Ok-clause-done
returns-in-Ok-clause-done g c =
    repaired c.args.text.now (node_seen c.args.node) c.args.typed c.in-Ok.mended (g.F.Folder.deeds c.args.folder.now) (g.F.Folder.deeds c.mend_log.new.folder) c.told_of.result c.in-Ok.ensures.done c.told_of.ensures.told c.told_of.ensures.ended
