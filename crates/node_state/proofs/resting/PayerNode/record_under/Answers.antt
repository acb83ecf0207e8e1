use Rattle.std.proofs.lemmas.Option.{IfSome_then}
use Rattle.std.proofs.Common.{sym, ap, ◌∙◌}
use Rattle.std.specs.Option.{option_copied}
use Rattle.node_state.proofs.AtRest.{none_then, payer_record, payer_unrecorded}
use Rattle.node_state.proofs.resting.PayerNode.record_under.Goals as goal

pub returns-in-AtRest-clause-record : goal.returns-in-AtRest-clause-record
returns-in-AtRest-clause-record c = λ s same.
    rw (← c.self.view_is, c.in-AtRest.is)
    (IfSome_then (option_copied c.record_under.result) c.record_under.ensures.record
    (λ bytes reads. payer_record s c.args.payers.now c.args.number c.in_ok-settings.settings.now c.in-AtRest.kept bytes same (sym c.of_number.ensures ∙ ap option_copied c.in_ok-settings.was) reads))

pub returns-in-AtRest-clause-none : goal.returns-in-AtRest-clause-none
returns-in-AtRest-clause-none c = λ s same.
    rw (← c.self.view_is, c.in-AtRest.is)
    (none_then c.record_under.result c.record_under.ensures.none
    (payer_unrecorded s c.args.payers.now c.args.number c.in_ok-settings.settings.now c.in-AtRest.kept same (sym c.of_number.ensures ∙ ap option_copied c.in_ok-settings.was)))
