use Rattle.std.proofs.Common.{◌∙◌, arith}
use Rattle.bin_routes.proofs.Rows.{goes}
use Rattle.bin_routes.proofs.table.Routes.new.Goals as goal

pub loop-place-preserved : goal.loop-place-preserved
loop-place-preserved c =
    let ok = c.in_ok-add.ensures.ok in
    let next = goes c.args.payers c.args.rows.now c.loop-place.place c.index-rows-place.result c.loop-place.routes c.add.new.self (omega arith) c.index-rows-place.is c.loop-place.invariant.so_far ok.0 ok.1 in
    record { so_far = next.so_far; rest = c.loop-place.invariant.rest ∙ next.rest }
