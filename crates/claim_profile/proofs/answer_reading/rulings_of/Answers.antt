use Rattle.std.proofs.Common.{List, length, ap, arith}
use Rattle.std.proofs.lemmas.Result.{err_from_is_err_and}
use Rattle.d0_segments.specs.Parts.{SegmentParts}
use Rattle.d0_segments.specs.Pieces.{shared_of, groups_of}
use Rattle.claim_profile.specs.Ruling.{rulings_in}
use Rattle.claim_profile.proofs.RulingList.{goes_on, ends, fails}
use Rattle.claim_profile.proofs.answer_reading.rulings_of.Goals as goal

pub returns-in_err-ruling-clause-fault : goal.returns-in_err-ruling-clause-fault
returns-in_err-ruling-clause-fault c =
    let h = c.args.header.now in
    let l = c.loop-group in
    let group = c.in-Some.group.bytes.now in
    let total = rulings_in c.args.by h (groups_of c.args.from.bytes.now) in
    let p = err_from_is_err_and c.from_residual.result c.from_residual.ensures.1 in
    rw (p.1, p.2) (fails c.in_err-ruling.field-0.0 total
    (ends c.args.by h l.rulings.items (groups_of l.rest.bytes.now) (groups_of group) (shared_of group) c.in_err-ruling.field-0.0 total c.in-Some.ensures.groups c.in_err-ruling.ensures l.invariant.read))

pub loop-group-preserved : goal.loop-group-preserved
loop-group-preserved c =
    let h = c.args.header.now in
    let l = c.loop-group in
    let group = c.in-Some.group.bytes.now in record {
      read = rw c.in_ok-push.ensures.items
          (goes_on c.args.by h l.rulings.items (groups_of l.rest.bytes.now) (groups_of group) (shared_of group) c.in_ok-ruling.ruling (rulings_in c.args.by h (groups_of c.args.from.bytes.now)) c.in-Some.ensures.groups c.in_ok-ruling.ensures l.invariant.read);
      left = omega (arith, l.invariant.left, ap (λ (gs : List (List SegmentParts)). length gs) c.in-Some.ensures.groups);
    }
