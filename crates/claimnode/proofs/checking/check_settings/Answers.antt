use Rattle.world_setup.specs.Seen.{node_seen}
use Rattle.claimnode.proofs.checking.check_settings.Goals as goal

pub returns-in-Err-Settings-clause-refused : goal.returns-in-Err-Settings-clause-refused
returns-in-Err-Settings-clause-refused c =
    c.why_refused.ensures c.args.text.now (node_seen c.args.node) (rw c.in-Err-Settings.field-0-is at c.in-Err-Settings.ensures.refused)
