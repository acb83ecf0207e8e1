use Rattle.std.proofs.Common.{arith, ap, length}
use Rattle.world_setup.specs.declared.settings.WorldSettings.{WorldSettings}
use Rattle.node_logged.proofs.Worlds.{one_more, none_more, all_made}
use Rattle.node_logged.proofs.judging.worlds.ledgers_in.Goals as goal

pub loop-place-preserved : goal.loop-place-preserved
loop-place-preserved c = λ logs of.
    one_more c.args.settings.now logs c.args.world.now.world c.loop-place.place c.in-Some.ledger c.loop-place.ledgers.items c.push.new.self.items of (rw c.in-Some.is at c.in_ok-ledger.ensures) c.in_ok-push.ensures.items (c.loop-place.invariant logs of)

pub loop-place-preserved-in-None : goal.loop-place-preserved-in-None
loop-place-preserved-in-None c = λ logs of.
    none_more c.args.settings.now logs c.args.world.now.world c.loop-place.place c.loop-place.ledgers.items of (rw c.in-None.is at c.in_ok-ledger.ensures) (c.loop-place.invariant logs of)

pub returns : goal.returns
returns c = λ logs of. all_made c.args.settings.now logs c.loop-place.place c.loop-place.ledgers.items (omega (arith, ap (λ (s : WorldSettings). length s.pharmacies.items) c.settings.ensures.kept)) (c.loop-place.invariant logs of)
