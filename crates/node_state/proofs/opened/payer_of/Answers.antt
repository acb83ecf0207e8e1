use Rattle.std.proofs.Common.{◌-◌, length, refl, arith}
use Rattle.std.proofs.lemmas.Option.{slice_get_read}
use Rattle.node_state.proofs.Openings.{payer_opened, payer_is}
use Rattle.node_state.proofs.opened.payer_of.Goals as goal

pub returns : goal.returns
returns c =
    let there = slice_get_read c.args.payers.now (length c.args.payers.now) (c.args.number - 1) c.index-payers-number.result refl (omega arith) c.index-payers-number.is in
    rw c.keyed.ensures (payer_opened c.args.number c.args.payers.now c.index-payers-number.result c.in_ok-settings.settings c.in-Some.payer c.requires.some there c.in_ok-settings.ensures (payer_is c.args.number c.in-Some.payer c.in-Some.ensures))
