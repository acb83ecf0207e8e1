use Rattle.std.proofs.Common.{◌≡◌, true, List, [], slice_get, sym, ap, ◌∙◌, subst}
use Rattle.std.specs.Option.{option_map}
use Rattle.std.proofs.lemmas.Bool.{cond-true}
use Rattle.claim_model.specs.Payments.{payment_of}
use Rattle.claim_model.specs.Rows.{Book, ruled_rows}
use Rattle.claim_model.specs.Book.{carries_more}
use Rattle.payer_book.specs.declared.book.origins.Origin.{Origin}
use Rattle.payer_book.specs.Books.{reading}
use Rattle.payer_book.specs.Origins.{origin_of, origins_in}
use Rattle.payer_book.proofs.Origins.{found_serial, origin_at, no_origin}
use Rattle.payer_book.proofs.book.Book.origin.Goals as goal

pub returns-in-Some : goal.returns-in-Some
returns-in-Some c =
    let rs = ruled_rows reading c.self.inside.rows in
    let l = c.self.inside.payments in
    let carries : carries_more c.self.inside.settings ≡ true = subst (λ (b : Book). carries_more b.settings ≡ true) (sym c.self.view_is) c.requires.carries in
    let origins : c.deref.result.now ≡ origins_in rs = c.deref.ensures.value ∙ (c.self.invariant.2 ∙ cond-true (carries_more c.self.inside.settings) (origins_in rs) [] carries) in
    let numbers = c.len-payments.ensures.ledger.numbered in
    c.origin_at.ensures
    ∙ (ap (λ (xs : List Origin). slice_get xs c.in-Some.place) origins
    ∙ (origin_at rs l c.args.auth c.in-Some.place c.self.invariant.0.kept numbers (found_serial l.payer l.first l.payments c.args.auth c.in-Some.place numbers c.in-Some.ensures.0 c.in-Some.ensures.1)
    ∙ ap (λ (b : Book). option_map origin_of (payment_of c.args.auth (ruled_rows reading b.rows))) c.self.view_is))

pub returns-in-None : goal.returns-in-None
returns-in-None c =
    sym (no_origin (ruled_rows reading c.self.inside.rows) c.self.inside.payments c.args.auth c.self.invariant.0.kept c.in-None.ensures)
    ∙ ap (λ (b : Book). option_map origin_of (payment_of c.args.auth (ruled_rows reading b.rows))) c.self.view_is
