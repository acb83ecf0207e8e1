use Rattle.std.proofs.Common.{◌-◌, length, refl, arith}
use Rattle.std.proofs.lemmas.Option.{slice_get_read}
use Rattle.node_state.proofs.Openings.{switch_numbered}
use Rattle.node_state.proofs.opened.switch_of.Goals as goal

pub returns : goal.returns
returns c =
    let there = slice_get_read c.args.switches.now (length c.args.switches.now) (c.args.number - 1) c.index-switches-number.result refl (omega arith) c.index-switches-number.is in
    rw c.new.ensures (switch_numbered c.args.number c.args.switches.now c.index-switches-number.result c.requires.some there)
