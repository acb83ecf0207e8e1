use Rattle.std.proofs.Common.{sym, ap, ◌∙◌, Some, None}
use Rattle.std.specs.Option.{option_copied}
use Rattle.node_state.proofs.AtRest.{payer_read}
use Rattle.node_state.proofs.Openings.{payer_is}
use Rattle.node_state.proofs.resumed.payer_resumed.Goals as goal

pub returns-in-Some-2 : goal.returns-in-Some-2
returns-in-Some-2 c =
    let at = sym c.of_number.ensures ∙ ap option_copied c.in-Some.is in
    let own = payer_is c.args.number c.in-Some-new.payer c.in-Some-new.ensures in
    rw (c.payer.ensures, c.running.ensures) (payer_read c.args.payers.now c.args.number c.in-Some-new.payer c.in-Some.settings.now c.args.kept.now (Some c.in-Some-2.book) own at (sym c.in-Some-2.is ∙ c.in_ok-book.ensures))

pub returns-in-None : goal.returns-in-None
returns-in-None c =
    let at = sym c.of_number.ensures ∙ ap option_copied c.in-Some.is in
    let own = payer_is c.args.number c.in-Some-new.payer c.in-Some-new.ensures in
    payer_read c.args.payers.now c.args.number c.in-Some-new.payer c.in-Some.settings.now c.args.kept.now None own at (sym c.in-None.is ∙ c.in_ok-book.ensures)
