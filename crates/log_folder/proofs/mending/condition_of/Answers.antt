use Rattle.world_setup.specs.Seen.{node_seen}
use Rattle.log_turning.specs.Joined.{part_seen}
use Rattle.log_folder.proofs.Sound.{sound}
use Rattle.log_folder.proofs.mending.condition_of.Goals as goal

pub returns-in-Ok-clause-told : goal.returns-in-Ok-clause-told
returns-in-Ok-clause-told c =
    sound c.args.text.now (node_seen c.args.node) c.args.bytes.now (part_seen c.part_of-part.result) c.calls.result c.in-Ok.whole c.in-Ok.service c.part_of-part.ensures c.in-Ok.ensures.opened c.calls.ensures
