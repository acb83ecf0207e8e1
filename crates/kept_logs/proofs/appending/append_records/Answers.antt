use Rattle.kept_logs.specs.Digests.{version_seen}
use Rattle.kept_logs.proofs.AppendedSoFar.{appended_as_read}
use Rattle.kept_logs.proofs.appending.append_records.Goals as goal

pub returns-clause-ok : goal.returns-clause-ok
returns-clause-ok c =
    appended_as_read (version_seen c.version.result) c.args.digest.now c.args.bytes.now c.in_ok-node.records.now c.args.before c.args.text.now.items c.append_calls.new.text.items c.in_ok-node.node c.in_ok-calls.calls c.in_ok-calls.torn c.saturating_sub-whole.result
    c.version.ensures c.in_ok-node.ensures.ok c.in_ok-calls.ensures.ok c.saturating_sub-whole.ensures
