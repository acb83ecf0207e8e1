use Rattle.std.proofs.Common.{List, filter, cond, sym, ap, ◌∙◌}
use Rattle.payer_book.specs.declared.ruling.changes.Change.{Change}
use Rattle.payer_book.specs.declared.ruling.matches.Matches.{Matches}
use Rattle.payer_book.specs.Ledger.{is_for_payment}
use Rattle.payer_book.specs.Changes.{left_by}
use Rattle.payer_book.specs.Matches.{tally, with_one}
use Rattle.payer_book.proofs.Overlay.{tally_left}
use Rattle.payer_book.proofs.ruling.changes.+left_matching.Goals as goal

pub returns-in-Some-left : goal.returns-in-Some-left
returns-in-Some-left t c =
    let v = c.args.reversal.now in
    let s = c.in-Some-left.payment.now in
    c.add_match.ensures ∙ (ap (λ (m : Matches). cond (is_for_payment v s) (with_one m s.auth) m) c.left_matching-matches.ensures
    ∙ (sym (tally_left v c.in-Some.first.now c.in-Some.later.now s (sym c.in-Some-left.ensures)) ∙ ap (λ (cs : List Change). tally (filter (is_for_payment v) (left_by cs))) (sym c.in-Some.ensures.cases.0)))
