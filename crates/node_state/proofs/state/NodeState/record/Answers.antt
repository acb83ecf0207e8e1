-- A node that has no record is up, or is no node of that name under the settings.
use Rattle.std.proofs.Common.{sym, ap, ◌∙◌}
use Rattle.std.specs.Prelude.{map}
use Rattle.world_setup.specs.Seen.{payer_seen, settings_seen}
use Rattle.world_setup.specs.declared.settings.WorldSettings.{WorldSettings}
use Rattle.node_state.proofs.state.NodeState.record.Goals as goal

pub returns-in-Pharmacy-Pharmacy-clause-none : goal.returns-in-Pharmacy-Pharmacy-clause-none
returns-in-Pharmacy-Pharmacy-clause-none c =
    rw (← c.self.view_is, c.in-Pharmacy-Pharmacy.is-0, c.in-Pharmacy-Pharmacy.is-1)
    (c.record_under.ensures.none (settings_seen c.args.settings.now) (sym (c.as_slice.ensures.value ∙ ap (λ (s : WorldSettings). s.pharmacies.items) c.settings-settings.ensures.kept)))

pub returns-in-Switch-Switch-clause-none : goal.returns-in-Switch-Switch-clause-none
returns-in-Switch-Switch-clause-none c =
    rw (← c.self.view_is, c.in-Switch-Switch.is-0, c.in-Switch-Switch.is-1)
    (c.record_under-in-Switch-Switch.ensures.none (settings_seen c.args.settings.now) (sym (c.as_slice-in-Switch-Switch.ensures.value ∙ ap (λ (s : WorldSettings). s.switches.items) c.settings-settings.ensures.kept)))

pub returns-in-Payer-Payer-clause-none : goal.returns-in-Payer-Payer-clause-none
returns-in-Payer-Payer-clause-none c =
    rw (← c.self.view_is, c.in-Payer-Payer.is-0, c.in-Payer-Payer.is-1)
    (c.record_under-in-Payer-Payer.ensures.none (settings_seen c.args.settings.now)
    (ap (map payer_seen) (sym (c.as_slice-in-Payer-Payer.ensures.value ∙ ap (λ (s : WorldSettings). s.payers.items) c.settings-settings.ensures.kept))))
