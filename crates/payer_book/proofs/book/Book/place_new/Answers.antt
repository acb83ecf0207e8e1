use Rattle.std.proofs.Common.{◌≡◌, List, false, length, sym, ap, subst}
use Rattle.claim_model.specs.Words.{Advice}
use Rattle.claim_model.specs.Bytes.{bytes_with}
use Rattle.claim_model.specs.Rows.{Row, Book}
use Rattle.claim_model.specs.Book.{unadvised}
use Rattle.payer_book.specs.Added.{with_row}
use Rattle.payer_book.specs.Advices.{advice_seen}
use Rattle.payer_book.specs.Placing.{IsAnsweredAt}
use Rattle.payer_book.proofs.AnsweredAt.{at_end}
use Rattle.payer_book.proofs.book.Book.place_new.Goals as goal

pub returns-clause-ok : goal.returns-clause-ok
returns-clause-ok c =
    let ctx = bytes_with c.args.routes.now in
    let place = length c.rows-place.result.now in
    let is : place ≡ length c.args.self.now.rows = ap (λ (rows : List Row). length rows) c.rows-place.ensures.value in
    subst (λ (after : Book). IsAnsweredAt ctx c.args.self.now unadvised c.args.id c.args.request.now after place false) (sym c.in_ok-enter.ensures.book)
    (subst (λ (advice : Advice). IsAnsweredAt ctx c.args.self.now advice c.args.id c.args.request.now (with_row c.args.self.now c.in_ok-row.row) place false) c.none.ensures.value
    (at_end ctx c.args.self.now (advice_seen c.none.result) c.args.id c.args.request.now c.in_ok-row.row place is c.in_ok-row.ensures.decided.ruled))
