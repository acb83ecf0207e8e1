use Rattle.std.proofs.Common.{sym, ◌∙◌, ◌+◌}
use Rattle.claim_model.specs.Node.{Pharmacy}
use Rattle.claim_model.specs.Numbered.{numbered}
use Rattle.claim_model.specs.Settings.{opening}
use Rattle.world_setup.specs.Seen.{settings_seen}
use Rattle.run_merge.specs.Naming.{calls_of}
use Rattle.node_log.specs.LogSeen.{logs_seen}
use Rattle.node_logged.specs.Setting.{context_of}
use Rattle.node_logged.proofs.Replaying.{there_at, has_journal}
use Rattle.node_logged.proofs.judging.replaying.ledger_of.Goals as goal

pub node_after-requires : goal.node_after-requires
node_after-requires c = there_at c.args.settings.now.pharmacies.items c.args.place c.requires

pub unreachable-requires : goal.unreachable-requires
unreachable-requires c =
    has_journal (context_of c.args.settings.now) (calls_of (logs_seen c.args.logs.now) (Pharmacy (c.args.place + 1))) (numbered (opening (settings_seen c.args.settings.now)).pharmacies (c.args.place + 1)) c.in_ok-node.node c.in_ok-node.ensures
    (sym c.in_ok-journal.ensures ∙ c.in-None.is)
