use Rattle.std.proofs.Common.{◌≡◌, ◌∙◌, ◌-◌, eqb, true, false, ap, sym, length, arith, length-drop}
use Rattle.std.proofs.lemmas.Bool.{eq-eqb}
use Rattle.std.proofs.lemmas.Result.{err_from_is_err_and}
use Rattle.d0_segments.proofs.Whole.{differs}
use Rattle.d0_segments.proofs.Passed.{body_told, count_told, differ, agree, spelled_by}
use Rattle.d0_segments.proofs.checking.check.Goals as goal

pub returns-in_err-found-clause-fault : goal.returns-in_err-found-clause-fault
returns-in_err-found-clause-fault g c =
    let p = err_from_is_err_and c.from_residual.result c.from_residual.ensures.1 in
    let kind = g.H.Header.kind in
    let body = c.in-Ok.front.1 in
    let bytes = c.args.bytes.now in
    let place : length bytes - length body.now ≡ kind.size = omega (arith, ap length c.in-Ok.ensures.behind, length-drop kind.size bytes, c.in-Ok.ensures.long) in
    rw (p.1, p.2) (sym (body_told kind bytes body.now (length bytes - length body.now) (sym c.in-Ok.ensures.fault) c.in-Ok.ensures.behind place c.in_err-found.field-0.0 c.in_err-found.ensures.fault))

pub returns-then-found-said-clause-fault : goal.returns-then-found-said-clause-fault
returns-then-found-said-clause-fault g c =
    let kind = g.H.Header.kind in
    let header = c.in-Ok.front.0 in
    let body = c.in-Ok.front.1 in
    let bytes = c.args.bytes.now in
    let found = c.in_ok-found.found in
    let place : length bytes - length body.now ≡ kind.size = omega (arith, ap length c.in-Ok.ensures.behind, length-drop kind.size bytes, c.in-Ok.ensures.long) in
    let differ_so : eqb (kind.said header) found ≡ false = differs (kind.said header) found (λ same. omega (arith, c.announced-said.ensures, c.if-found-said.true)) in
    rw c.announced-said.ensures (sym (count_told kind bytes body.now (length bytes - length body.now) (sym c.in-Ok.ensures.fault) c.in-Ok.ensures.behind place header found c.in-Ok.ensures.header c.in_ok-found.ensures.faultless c.in_ok-found.ensures.count
    ∙ differ (kind.said header) found differ_so))

pub returns-clause-fault : goal.returns-clause-fault
returns-clause-fault g c =
    let kind = g.H.Header.kind in
    let header = c.in-Ok.front.0 in
    let body = c.in-Ok.front.1 in
    let bytes = c.args.bytes.now in
    let found = c.in_ok-found.found in
    let place : length bytes - length body.now ≡ kind.size = omega (arith, ap length c.in-Ok.ensures.behind, length-drop kind.size bytes, c.in-Ok.ensures.long) in
    let same : eqb (kind.said header) found ≡ true = eq-eqb (kind.said header) found (omega (arith, c.announced-said.ensures, c.if-found-said.false)) in
    sym (count_told kind bytes body.now (length bytes - length body.now) (sym c.in-Ok.ensures.fault) c.in-Ok.ensures.behind place header found c.in-Ok.ensures.header c.in_ok-found.ensures.faultless c.in_ok-found.ensures.count
    ∙ agree (kind.said header) found same)

pub returns-clause-parts : goal.returns-clause-parts
returns-clause-parts g c =
    let kind = g.H.Header.kind in
    let header = c.in-Ok.front.0 in
    let body = c.in-Ok.front.1 in
    let bytes = c.args.bytes.now in
    let found = c.in_ok-found.found in
    let place : length bytes - length body.now ≡ kind.size = omega (arith, ap length c.in-Ok.ensures.behind, length-drop kind.size bytes, c.in-Ok.ensures.long) in
    let same : eqb (kind.said header) found ≡ true = eq-eqb (kind.said header) found (omega (arith, c.announced-said.ensures, c.if-found-said.false)) in
    let none = count_told kind bytes body.now (length bytes - length body.now) (sym c.in-Ok.ensures.fault) c.in-Ok.ensures.behind place header found c.in-Ok.ensures.header c.in_ok-found.ensures.faultless c.in_ok-found.ensures.count
    ∙ agree (kind.said header) found same in
    rw (c.new.ensures.header, c.new.ensures.body, c.at.ensures) (spelled_by kind bytes body.now header c.in-Ok.ensures.header c.in-Ok.ensures.behind none)
