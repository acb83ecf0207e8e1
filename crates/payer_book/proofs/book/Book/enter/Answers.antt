use Rattle.std.proofs.Common.{◌≡◌, ◌<◌, cond, List, [], ◌++◌, length, None, sym, ap, ◌∙◌, subst}
use Rattle.claim_model.specs.Words.{TxnId}
use Rattle.claim_model.specs.Rows.{Book}
use Rattle.claim_model.specs.Book.{row_of, carries_more}
use Rattle.payer_book.specs.declared.book.origins.Origin.{Origin}
use Rattle.payer_book.specs.declared.ruling.changes.Change.{Change}
use Rattle.payer_book.specs.Changes.{changes_by}
use Rattle.payer_book.specs.Books.{reading}
use Rattle.payer_book.specs.Origins.{origins_of, origins_by}
use Rattle.payer_book.specs.Entries.{IsEntry}
use Rattle.payer_book.proofs.Entered.{can_enter, book_after}
use Rattle.payer_book.proofs.Grown.{made_after}
use Rattle.payer_book.proofs.Origins.{origins_more}
use Rattle.payer_book.proofs.book.Book.enter.Goals as goal
use Rattle.payer_book.proofs.book.Book.enter.Goals.{In_ok-reserve}

-- the book that was opened
abbrev opened : (c : In_ok-reserve) → Book
opened c = record { payer = c.self.inside.payer; settings = c.self.inside.settings; plan = c.self.inside.plan; rows = c.self.inside.rows }

entry : (c : In_ok-reserve) → IsEntry (opened c) c.args.row c.args.changes.now
entry c = subst (λ (b : Book). IsEntry b c.args.row c.args.changes.now) (sym c.self.view_is) c.requires.possible

-- the changes that are noted
noted : (c : In_ok-reserve) → c.noted-noted.result.now ≡ cond (carries_more c.self.inside.settings) (changes_by (reading.orders c.args.row.request) c.args.row.rulings) []
noted c =
    subst (λ (b : Book). c.noted-noted.result.now ≡ cond (carries_more b.settings) c.args.changes.now []) (sym c.self.view_is) c.noted-noted.ensures
    ∙ ap (λ (cs : List Change). cond (carries_more c.self.inside.settings) cs []) (entry c).changed

pub enter-requires-clause-possible : goal.enter-requires-clause-possible
enter-requires-clause-possible c =
    let d = (goal.at.enter-requires-clause-possible c).In_ok-reserve in
    can_enter (opened d) c.self.inside.payments c.reserve.new.self c.self.invariant.0 c.in_ok-reserve.ensures.same.0 c.in_ok-reserve.ensures.same.1 c.in_ok-reserve.ensures.same.2
    c.args.row (entry d).ruled c.args.changes.now (entry d).changed c.id-id.result c.id-id.ensures c.number_in_range.ensures

pub invariant_of-self-2 : goal.invariant_of-self-2
invariant_of-self-2 c =
    let d = (goal.at.invariant_of-self-2 c).In_ok-reserve in
    let room = subst (λ (b : Book). length b.rows < b.settings.cap) (sym c.self.view_is) c.requires.room in
    let fresh = subst (λ (b : Book). row_of c.args.row.id b.rows ≡ None) (sym c.self.view_is) c.requires.fresh in (
      book_after (opened d) c.self.inside.payments c.reserve.new.self c.self.invariant.0 c.in_ok-reserve.ensures.same.0 c.in_ok-reserve.ensures.same.1 c.in_ok-reserve.ensures.same.2
          c.args.row (entry d).ruled c.args.changes.now (entry d).changed c.id-id.result c.id-id.ensures
          c.push.new.self c.enter.new.self c.in_ok-push.ensures.ok c.enter.ensures.same.0 c.enter.ensures.same.1 c.enter.ensures.payments,
      made_after (opened d) c.self.inside.payments c.self.invariant.1 c.args.row room fresh (entry d).stands
          (entry d).told c.reserve.new.self c.enter.new.self c.in_ok-reserve.ensures.same.2 c.args.changes.now (entry d).changed c.id-id.result c.push.new.self c.in_ok-push.ensures.ok c.enter.ensures.payments,
      c.enter_origins.ensures
          ∙ (ap (λ (xs : List Origin). xs ++ origins_by c.id-id.result 1 c.noted-noted.result.now) (c.reserve-2.ensures.items ∙ c.self.invariant.2)
          ∙ (ap (λ (id : TxnId). origins_of c.self.inside.settings c.self.inside.rows ++ origins_by id 1 c.noted-noted.result.now) c.id-id.ensures
          ∙ (ap (λ (cs : List Change). origins_of c.self.inside.settings c.self.inside.rows ++ origins_by c.args.row.id 1 cs) (noted d)
          ∙ (sym (origins_more c.self.inside.settings c.self.inside.rows c.args.row)
          ∙ ap (origins_of c.self.inside.settings) (sym c.in_ok-push.ensures.ok))))),
    )
