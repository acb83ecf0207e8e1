use Rattle.std.proofs.Common.{◌≡◌, ◌+◌, arith}
use Rattle.claim_reports.proofs.Ledgers.{takes_more}
use Rattle.claim_reports.proofs.Telling.{passed}
use Rattle.claim_reports.proofs.WrongMoves.{good_more}
use Rattle.claim_reports.proofs.ledger.Ledger.take_all.Goals as goal

pub loop-place-preserved : goal.loop-place-preserved
loop-place-preserved c =
    let sums = c.in_ok-all.ensures.sums in
    record {
      takes = λ before is.
          takes_more before c.args.moves.now c.loop-place.place _ c.args.self.now c.loop-place.self c.take.new.self c.loop-place.all.paid c.loop-place.all.reversed c.in_ok-moved.moved
          c.in_ok-all.all.paid c.in_ok-all.all.reversed c.loop-place-test.true (λ i. (sums i).paid) (λ i. (sums i).reversed) c.in_ok-moved.ensures.takes (c.loop-place.invariant.takes before is);
      good = λ before is fit.
          let lt = c.loop-place-test.true in
          let first = c.saturating_add.ensures in
          let then = c.saturating_add-number.ensures in
          let number : c.saturating_add-number.result ≡ c.args.passed + c.loop-place.place + 1 = omega arith in
          let last : c.args.passed + c.loop-place.place + 1 + 1 ≡ c.args.passed + (c.loop-place.place + 1) + 1 = omega arith in
          rw (sums, ← last)
          (good_more _ before c.args.moves.now c.loop-place.place (c.args.passed + c.loop-place.place + 1) c.loop-place.all.paid c.loop-place.all.reversed _ c.loop-place.self c.take.new.self c.in_ok-moved.moved
          lt (c.loop-place.invariant.takes before is).is c.in_ok-moved.ensures.takes (rw number at c.in_ok-moved.ensures.refuses) c.in_ok-all.ensures.refuses (c.loop-place.invariant.good before is fit));
    }
