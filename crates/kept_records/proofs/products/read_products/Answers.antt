use Rattle.std.proofs.Common.{◌∙◌}
use Rattle.std.proofs.lemmas.Result.{err_from_is_err_and}
use Rattle.kept_records.specs.Plans.{listed}
use Rattle.kept_records.proofs.Loops.{each_goes_on, each_stops, each_ends}
use Rattle.kept_records.proofs.products.read_products.Goals as goal

pub returns-in_err-rest-clause-fault : goal.returns-in_err-rest-clause-fault
returns-in_err-rest-clause-fault c =
    let p = err_from_is_err_and c.from_residual.result c.from_residual.ensures.1 in
    let place = c.saturating_sub-place.ensures in
    rw (p.1, p.2) (λ other. c.loop.invariant ∙ each_stops listed c.args.total c.args.count c.loop.counter c.loop.plan c.loop.rest.now c.in_err-rest.field-0.0 c.loop-test.true (rw place at (c.in_err-rest.ensures.fault other)))

pub loop-preserved : goal.loop-preserved
loop-preserved c =
    let place = c.saturating_sub-place.ensures in
    c.loop.invariant ∙ each_goes_on listed c.args.total c.args.count c.loop.counter c.loop.plan c.loop.rest.now c.list_next.new.plan c.in_ok-rest.rest.now c.loop-test.true (rw place at c.in_ok-rest.ensures.ok)

pub returns-clause-ok : goal.returns-clause-ok
returns-clause-ok c = c.loop.invariant ∙ each_ends listed c.args.total c.args.count c.loop.counter c.loop.plan c.loop.rest.now c.loop-test.false
