use Rattle.std.proofs.Common.{arith, ap, length}
use Rattle.claim_model.specs.Settings.{opening}
use Rattle.world_setup.specs.Seen.{settings_seen}
use Rattle.world_setup.specs.declared.settings.WorldSettings.{WorldSettings}
use Rattle.node_log.specs.LogSeen.{logs_seen}
use Rattle.node_logged.specs.Setting.{context_of}
use Rattle.node_logged.specs.Replayed.{ledgers_of}
use Rattle.node_logged.proofs.Replaying.{ledgers_step, ledgers_end}
use Rattle.node_logged.proofs.judging.replaying.ledgers.Goals as goal

pub loop-place-preserved : goal.loop-place-preserved
loop-place-preserved c =
    ledgers_step (context_of c.args.settings.now) (logs_seen c.args.logs.now) (opening (settings_seen c.args.settings.now)).pharmacies c.loop-place.place c.loop-place.ledgers.items c.push.new.self.items (ledgers_of c.args.settings.now (logs_seen c.args.logs.now))
    c.in_ok-ledger_of.field-0 c.in_ok-ledger_of.ensures c.in_ok-push.ensures.items c.loop-place.invariant

pub returns : goal.returns
returns c =
    ledgers_end (context_of c.args.settings.now) (logs_seen c.args.logs.now) c.args.settings.now.pharmacies.items c.loop-place.place c.loop-place.ledgers.items (ledgers_of c.args.settings.now (logs_seen c.args.logs.now)) (omega (arith, ap (λ (s : WorldSettings). length s.pharmacies.items) c.settings.ensures.kept)) c.loop-place.invariant

pub ledger_of-requires : goal.ledger_of-requires
ledger_of-requires c = omega (arith, ap (λ (s : WorldSettings). length s.pharmacies.items) c.settings.ensures.kept)
