-- A stop alone is added, and the node is at rest.
use Rattle.std.proofs.Common.{◌∙◌, true, sym}
use Rattle.world_setup.specs.Seen.{settings_seen}
use Rattle.node_logged.specs.Setting.{context_of}
use Rattle.log_turning.proofs.Unturned.{told_down}
use Rattle.log_turning.proofs.turning.stop.Goals as goal

pub returns-then-is_some-clause-down : goal.returns-then-is_some-clause-down
returns-then-is_some-clause-down c =
    told_down (context_of c.args.service.now.settings) (settings_seen c.args.service.now.settings) c.args.service.now.node c.args.service.now.state c.record_at_rest.result c.record_at_rest.ensures.record (sym c.is_some.ensures ∙ c.if-is_some.true)
