use Rattle.std.proofs.Common.{◌≡◌, ◌+◌, ◌<◌, length, take, get_or, ◌∙◌, arith}
use Rattle.std.proofs.lemmas.List.{get_or_read}
use Rattle.pharmacy_journal.proofs.Payable.{counting_at}
use Rattle.pharmacy_journal.proofs.Tellings.{same_more}
use Rattle.pharmacy_journal.proofs.counting.first_of_each.Goals as goal

pub loop-place-preserved : goal.loop-place-preserved
loop-place-preserved c =
    let l = c.loop-place in
    let xs = l.payments.items in
    let ys = c.args.named.items in
    let i = l.place in
    let p = c.index-payment.result.now in
    let h = c.in_ok-kept.ensures in
    let in_ys : i < length ys = omega (arith, c.len-place-end.ensures, c.loop-place-test.true, c.args.named.ok.0) in
    let in_xs : i < length xs = omega (arith, in_ys, l.invariant.same) in
    let more = same_more xs ys i p in_xs in_ys l.invariant.rest in
    let is : p ≡ get_or ys i p = get_or_read xs _ _ in_xs c.index-payment.ensures p ∙ more.0 in
    record {
      behind = omega (arith, h.one, l.invariant.behind);
      same = h.same ∙ l.invariant.same;
      rest = h.rest (i + 1) (omega (arith, l.invariant.behind)) ∙ more.1;
      counted = counting_at l.seen.keys c.count.new.seen.keys (take l.kept xs) (take c.in_ok-kept.kept c.count.new.payments.items) ys i p in_ys is h.counted h.seen ∙ l.invariant.counted;
    }
