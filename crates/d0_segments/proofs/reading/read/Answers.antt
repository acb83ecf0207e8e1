use Rattle.std.proofs.Common.{◌≡◌, ◌-◌, ap, sym, length, arith, length-drop}
use Rattle.std.proofs.lemmas.Result.{err_from_is_err_and}
use Rattle.d0_segments.proofs.Whole.{body_fails}
use Rattle.d0_segments.proofs.reading.read.Goals as goal

pub returns-in_err-shared-clause-fault : goal.returns-in_err-shared-clause-fault
returns-in_err-shared-clause-fault g c =
    let p = err_from_is_err_and c.from_residual.result c.from_residual.ensures.1 in
    let kind = g.H.Header.kind in
    let body = c.in-Ok.front.1 in
    let bytes = c.args.bytes.now in
    let place : length bytes - length body.now ≡ kind.size = omega (arith, ap length c.in-Ok.ensures.behind, length-drop kind.size bytes, c.in-Ok.ensures.long) in
    rw (p.1, p.2) (body_fails kind bytes body.now (length bytes - length body.now) c.in_err-shared.field-0.0 (sym c.in-Ok.ensures.fault) c.in-Ok.ensures.behind place c.in_err-shared.ensures.fault)
