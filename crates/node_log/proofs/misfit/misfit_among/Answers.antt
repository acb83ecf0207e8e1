use Rattle.std.proofs.Common.{◌+◌, drop, subst}
use Rattle.claim_model.specs.Bytes.{bytes_with}
use Rattle.node_log.proofs.Breaking.{Leads, leads_step, breaks_here}
use Rattle.node_log.proofs.Lists.{left_at}
use Rattle.node_log.proofs.misfit.misfit_among.Goals as goal

pub returns-then-not-branch-clause-first : goal.returns-then-not-branch-clause-first
returns-then-not-branch-clause-first c =
    let ctx = bytes_with c.args.routes.now in
    let records = c.args.records.now in
    breaks_here ctx c.loop-place.node c.args.node.now c.index-records-place.result (drop (c.loop-place.place + 1) records) records c.loop-place.place
    (rw c.if-not-branch.true at c.in_ok-makes.ensures)
    (subst (λ calls. Leads ctx c.loop-place.node calls c.args.node.now records c.loop-place.place) (left_at records c.loop-place.place c.index-records-place.result c.loop-place-test.true c.index-records-place.is) c.loop-place.invariant)

pub loop-place-preserved : goal.loop-place-preserved
loop-place-preserved c =
    let ctx = bytes_with c.args.routes.now in
    let records = c.args.records.now in
    leads_step ctx c.loop-place.node c.makes.new.node c.args.node.now c.index-records-place.result (drop (c.loop-place.place + 1) records) records c.loop-place.place
    (rw c.if-not-branch.false at c.in_ok-makes.ensures)
    (subst (λ calls. Leads ctx c.loop-place.node calls c.args.node.now records c.loop-place.place) (left_at records c.loop-place.place c.index-records-place.result c.loop-place-test.true c.index-records-place.is) c.loop-place.invariant)
