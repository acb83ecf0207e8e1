use Rattle.std.proofs.Common.{sym, ap, ◌∙◌}
use Rattle.std.specs.Option.{option_copied}
use Rattle.node_state.proofs.AtRest.{switch_recorded}
use Rattle.node_state.proofs.resting.SwitchNode.record_under.Goals as goal

pub returns-in-AtRest-clause-record : goal.returns-in-AtRest-clause-record
returns-in-AtRest-clause-record c = λ s same.
    rw (← c.self.view_is, c.in-AtRest.is, c.record_under.ensures.record)
    (switch_recorded s c.args.switches.now c.args.number c.in_ok-settings.settings.now c.in-AtRest.kept c.record_under.ensures.fits same (sym c.of_number.ensures ∙ ap option_copied c.in_ok-settings.was))
