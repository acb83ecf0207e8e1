use Rattle.std.proofs.Common.{[], ◌∷◌}
use Rattle.std.specs.Prelude.{codes}
use Rattle.std.proofs.lemmas.Result.{on_ok_weaker}
use Rattle.world_report.proofs.JoinedWords.{words_join}
use Rattle.world_report.proofs.rulings.put_ruling.Goals as goal

pub returns-in_ok-put_word-in-Paid : goal.returns-in_ok-put_word-in-Paid
returns-in_ok-put_word-in-Paid c =
    rw c.in-Paid.is (on_ok_weaker c.put_payment.result
    (λ last. words_join c.args.out.now.items _ _ (codes "P" ∷ []) _ c.in_ok-put_word-in-Paid.ensures last) c.put_payment.ensures)

pub returns-in_ok-put_word-in-Duplicate : goal.returns-in_ok-put_word-in-Duplicate
returns-in_ok-put_word-in-Duplicate c =
    rw c.in-Duplicate.is (on_ok_weaker c.put_payment-in-Duplicate.result
    (λ last. words_join c.args.out.now.items _ _ (codes "D" ∷ []) _ c.in_ok-put_word-in-Duplicate.ensures last) c.put_payment-in-Duplicate.ensures)

pub returns-in_ok-put_word-in-Reversed : goal.returns-in_ok-put_word-in-Reversed
returns-in_ok-put_word-in-Reversed c =
    rw c.in-Reversed.is (on_ok_weaker c.put_word-in-Reversed-2.result
    (λ last. words_join c.args.out.now.items _ _ (codes "A" ∷ []) _ c.in_ok-put_word-in-Reversed.ensures (rw c.digits.ensures at last)) c.put_word-in-Reversed-2.ensures)

pub returns-in_ok-put_word-in-Rejected : goal.returns-in_ok-put_word-in-Rejected
returns-in_ok-put_word-in-Rejected c =
    rw c.in-Rejected.is (on_ok_weaker c.put_codes.result
    (λ last. words_join c.args.out.now.items _ _ (codes "R" ∷ []) _ c.in_ok-put_word-in-Rejected.ensures (rw c.as_slice.ensures.codes at last)) c.put_codes.ensures)
