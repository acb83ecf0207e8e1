use Rattle.std.proofs.Common.{◌∙◌, arith}
use Rattle.world_setup.proofs.Identities.{goes_on, none_seen, was_not}
use Rattle.world_setup.proofs.identity.some_provider_twice.Goals as goal

pub loop-settings-init : goal.loop-settings-init
loop-settings-init c = none_seen c.new-seen.result.keys c.args.pharmacies.now c.new-seen.ensures.empty

pub loop-settings-preserved : goal.loop-settings-preserved
loop-settings-preserved c =
    goes_on c.loop-settings.seen.keys c.is_new.new.seen.keys c.args.pharmacies.now c.loop-settings.settings-index c.settings-item.result (omega arith) c.settings-item.is
    (was_not c.in_ok-is_new.field-0 _ c.if-not-branch.false c.in_ok-is_new.ensures.new) c.in_ok-is_new.ensures.seen
    ∙ c.loop-settings.invariant
