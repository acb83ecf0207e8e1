use Rattle.std.proofs.Common.{◌-◌, length, refl, arith}
use Rattle.std.proofs.lemmas.Option.{slice_get_read}
use Rattle.node_state.proofs.Openings.{pharmacy_numbered, given_is}
use Rattle.node_state.proofs.opened.pharmacy_of.Goals as goal

pub returns : goal.returns
returns c =
    let there = slice_get_read c.args.pharmacies.now (length c.args.pharmacies.now) (c.args.number - 1) c.index-pharmacies-number.result refl (omega arith) c.index-pharmacies-number.is in
    given_is _ _ c.new.result (pharmacy_numbered c.args.number c.args.pharmacies.now c.in_ok-settings.settings c.requires.some (rw c.in_ok-settings.ensures there)) c.new.ensures
