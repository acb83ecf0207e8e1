use Rattle.std.proofs.Common.{List, [], ◌∷◌, ◌++◌, length, ap, arith}
use Rattle.std.proofs.lemmas.Result.{err_from_is_err_and}
use Rattle.d0_segments.specs.Parts.{SegmentParts}
use Rattle.d0_segments.specs.Pieces.{shared_of, groups_of}
use Rattle.claim_profile.specs.declared.answer_reading.Speaker.TheVariants.{Book}
use Rattle.claim_profile.specs.Ruling.{rulings_in}
use Rattle.claim_profile.proofs.RulingList.{goes_on, ends}
use Rattle.claim_profile.proofs.answer_reading.check_rulings.Goals as goal

pub returns-in_err-_ruling-clause-fault : goal.returns-in_err-_ruling-clause-fault
returns-in_err-_ruling-clause-fault c =
    let h = c.args.header.now in
    let l = c.loop-group in
    let group = c.in-Some.group.bytes.now in
    let p = err_from_is_err_and c.from_residual.result c.from_residual.ensures.1 in
    rw (p.1, p.2) (ends Book h l.invariant.read.0 (groups_of l.rest.bytes.now) (groups_of group) (shared_of group) c.in_err-_ruling.field-0.0 (rulings_in Book h (groups_of c.args.from.bytes.now)) c.in-Some.ensures.groups c.in_err-_ruling.ensures l.invariant.read.1)

pub loop-group-preserved : goal.loop-group-preserved
loop-group-preserved c =
    let h = c.args.header.now in
    let l = c.loop-group in
    let group = c.in-Some.group.bytes.now in
    let r = c.in_ok-_ruling._ruling in record {
      read = (l.invariant.read.0 ++ r ∷ [], goes_on Book h l.invariant.read.0 (groups_of l.rest.bytes.now) (groups_of group) (shared_of group) r (rulings_in Book h (groups_of c.args.from.bytes.now)) c.in-Some.ensures.groups c.in_ok-_ruling.ensures l.invariant.read.1);
      left = omega (arith, l.invariant.left, ap (λ (gs : List (List SegmentParts)). length gs) c.in-Some.ensures.groups);
    }
