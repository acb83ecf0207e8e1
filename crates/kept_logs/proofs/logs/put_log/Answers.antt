use Rattle.node_log.specs.LogSeen.{log_seen}
use Rattle.std.proofs.Common.{map, ap}
use Rattle.world_setup.specs.Seen.{node_seen}
use Rattle.kept_logs.specs.Stamps.{plain, plain_log}
use Rattle.kept_logs.specs.Digests.{version_seen}
use Rattle.kept_logs.proofs.Loops.{written}
use Rattle.kept_logs.proofs.logs.put_log.Goals as goal

pub returns-clause-text : goal.returns-clause-text
returns-clause-text c =
    written (version_seen c.version.result) c.args.settings.now (node_seen c.node.result) (plain_log (log_seen c.args.log.now)) c.new-text.result.items c.put_head.new.out.items c.put_records.new.text.items (map plain c.records.result.now)
    c.version.ensures c.new-text.ensures.items (ap node_seen c.node.ensures) (ap (map plain) c.records.ensures) c.in_ok-put_head.ensures.text c.in_ok-put_records.ensures.text
