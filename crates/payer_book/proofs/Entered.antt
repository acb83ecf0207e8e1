-- The row of a new request, and the book with it.
use Rattle.std.proofs.Common.{◌≡◌, ℕ, ◌+◌, Bool, true, false, cond, List, [], ◌∷◌, ◌++◌, length, refl, sym, ap, ◌∙◌, subst, append_assoc, arith}
use Rattle.std.specs.Prelude.{count_by}
use Rattle.std.proofs.lemmas.List.{append-nil}
use Rattle.d0_segments.specs.Framing.{request_kind, transmission_of}
use Rattle.bin_routes.specs.Table.{RouteMaps}
use Rattle.claim_model.specs.Words.{Advice, TxnId, Ruling}
use Rattle.claim_model.specs.Bytes.{bytes_with}
use Rattle.claim_model.specs.Ruled.{Ruled}
use Rattle.claim_model.specs.Rows.{Row, Book, ruled_row, ruled_rows}
use Rattle.claim_model.specs.Book.{or_else, new_row, has_verdicts}
use Rattle.claim_model.proofs.BytesLaws.{NumbersInRange}
use Rattle.payer_book.specs.declared.ruling.changes.Change.{Change}
use Rattle.payer_book.specs.declared.book.payment.Payment.{Payment}
use Rattle.payer_book.specs.Ledger.{Ledger, standing_in}
use Rattle.payer_book.specs.Changes.{changes_by, pays, standing_after, payments_after, ArePossible}
use Rattle.payer_book.specs.Drafts.{ByPlan, asking_of, AsKept, Suits, pricing_of, rulings_on, all_advised_on}
use Rattle.payer_book.specs.Added.{kept_rulings, row_saying}
use Rattle.payer_book.specs.Books.{reading, payments_of, count_paid, Keeps, IsBook}
use Rattle.payer_book.specs.Advices.{given}
use Rattle.payer_book.specs.Origins.{repeated_in, given_or}
use Rattle.payer_book.specs.Entries.{row_by, row_with_said}
use Rattle.payer_book.proofs.RulingLemmas.{verdict_same, consent_same, rulings_same, all_advised_same, all_possible, keeps_more}
use Rattle.payer_book.proofs.Keeping.{rulings_by_on}
use Rattle.payer_book.proofs.Numbers.{orders_numbered}

pub ruled_rows_more : (rows : List Row) (row : Row) → ruled_rows reading (rows ++ row ∷ []) ≡ ruled_rows reading rows ++ ruled_row reading row
ruled_rows_more [] row = append-nil (ruled_row reading row)
ruled_rows_more (r ∷ rows) row =
    ap (λ (xs : List Ruled). ruled_row reading r ++ xs) (ruled_rows_more rows row) ∙ sym (append_assoc (ruled_row reading r) (ruled_rows reading rows) (ruled_row reading row))

module _ (b : Book) (l : Ledger) (h : IsBook b.payer b.settings.serial b.rows l) (row : Row) (ruled : row.rulings ≡ kept_rulings b row.id row.request row.rulings) where
  -- the rulings of the row are those over the payments
  row_rulings : row.rulings ≡ rulings_on l (AsKept (asking_of b.settings) row.rulings) [] (reading.orders row.request)
  row_rulings = ruled ∙ rulings_by_on b l h row.id row.request (AsKept (asking_of b.settings) row.rulings) refl

  -- its changes can be made
  pub entry_possible : NumbersInRange → ArePossible l.payer l.first row.id l.payments (changes_by (reading.orders row.request) row.rulings)
  entry_possible law =
      subst (λ (rs : List Ruling). ArePossible l.payer l.first row.id l.payments (changes_by (reading.orders row.request) rs)) (sym row_rulings)
      (all_possible l (AsKept (asking_of b.settings) row.rulings) row.id l.payments [] (reading.orders row.request) (orders_numbered law (transmission_of request_kind row.request)) refl (omega arith))

  -- and the book goes on
  pub book_more : (m : Ledger) → m.payer ≡ l.payer → m.first ≡ l.first → m.payments ≡ payments_after row.id l.payments (changes_by (reading.orders row.request) row.rulings)
      → IsBook b.payer b.settings.serial (b.rows ++ row ∷ []) m
  book_more m p f after = record {
    of_payer = p ∙ h.of_payer;
    from_serial = f ∙ h.from_serial;
    kept = subst (λ (rs : List Ruled). Keeps rs m) (sym (ruled_rows_more b.rows row))
        (keeps_more l m (AsKept (asking_of b.settings) row.rulings) row.id (ruled_rows reading b.rows) (reading.orders row.request) row.rulings h.kept row_rulings after);
  }

-- the same of a row that is handed in, over payments that have room now
module _ (b : Book) (l m : Ledger) (h : IsBook b.payer b.settings.serial b.rows l) (payer : m.payer ≡ l.payer) (first : m.first ≡ l.first) (same : m.payments ≡ l.payments)
    (row : Row) (ruled : row.rulings ≡ kept_rulings b row.id row.request row.rulings)
    (changes : List Change) (changed : changes ≡ changes_by (reading.orders row.request) row.rulings) (key : TxnId) (is : key ≡ row.id) where
  roomy : IsBook b.payer b.settings.serial b.rows m
  roomy = record {
    of_payer = payer ∙ h.of_payer;
    from_serial = first ∙ h.from_serial;
    kept = record { payments = same ∙ h.kept.payments; counted = h.kept.counted ∙ ap (λ (ps : List Payment). length ps) (sym same) };
  }

  pub can_enter : NumbersInRange → ArePossible m.payer m.first key m.payments changes
  can_enter law =
      subst (λ (i : TxnId). ArePossible m.payer m.first i m.payments changes) (sym is) (subst (ArePossible m.payer m.first row.id m.payments) (sym changed) (entry_possible b m roomy row ruled law))

  pub book_after : (rows : List Row) (n : Ledger) → rows ≡ b.rows ++ row ∷ [] → n.payer ≡ m.payer → n.first ≡ m.first → n.payments ≡ payments_after key m.payments changes → IsBook b.payer b.settings.serial rows n
  book_after rows n rows_are p f after =
      let after_all : n.payments ≡ payments_after row.id m.payments (changes_by (reading.orders row.request) row.rulings) =
      after ∙ (ap (λ (i : TxnId). payments_after i m.payments changes) is ∙ ap (payments_after row.id m.payments) changed) in
      subst (λ (rs : List Row). IsBook b.payer b.settings.serial rs n) (sym rows_are) (book_more b m roomy row ruled n p f after_all)

-- the row of a request at a book's own pricing is the new row of the model, whatever the routes are
module _ (routes : RouteMaps) (b : Book) (l : Ledger) (h : IsBook b.payer b.settings.serial b.rows l) (advice : Advice) (id : TxnId) (request : List ℕ) where
  stands_so : standing_in (payments_of (ruled_rows reading b.rows)) ≡ standing_after (standing_in l.payments) []
  stands_so = ap standing_in (sym h.kept.payments)

  counted_so : b.settings.serial + count_paid (ruled_rows reading b.rows) ≡ l.first + length l.payments + count_by pays []
  counted_so = omega (arith, h.from_serial, h.kept.counted)

  pub new_rulings_on : rulings_on l (pricing_of b advice) [] (reading.orders request) ≡ (new_row (bytes_with routes) b advice id request).rulings
  new_rulings_on = sym (rulings_same routes b l h.of_payer advice (pricing_of b advice) (λ k c. verdict_same routes b advice k c) (λ k v. consent_same b advice k v) id 1 (ruled_rows reading b.rows) [] (reading.orders request) refl stands_so counted_so)

  pub has_verdicts_on : all_advised_on l (pricing_of b advice) [] (reading.orders request) ≡ has_verdicts (bytes_with routes) b advice id request
  has_verdicts_on = sym (all_advised_same routes b l h.of_payer advice (pricing_of b advice) (λ k c. verdict_same routes b advice k c) (λ k v. consent_same b advice k v) id 1 (ruled_rows reading b.rows) [] (reading.orders request) refl stands_so counted_so)

  pub suits_own : Suits (pricing_of b advice) b.settings
  suits_own = by_asks b.settings.asks refl
    where
      by_asks : (t : Bool) → b.settings.asks ≡ t → Suits (cond t (AsKept (asking_of b.settings) advice.rulings) (ByPlan b.plan)) b.settings
      by_asks true is = refl
      by_asks false is = is

  -- what is carried of an advice
  given_text : (text other : List ℕ) → given_or (given text) other ≡ or_else text other
  given_text [] other = refl
  given_text (byte ∷ text) other = refl

  pub row_alike : row_by (pricing_of b advice) b id request (given advice.text) ≡ new_row (bytes_with routes) b advice id request
  row_alike =
      let rulings : List Ruling = (new_row (bytes_with routes) b advice id request).rulings in
      ap (λ (rs : List Ruling). row_with_said b id request rs (given advice.text)) (rulings_by_on b l h id request (pricing_of b advice) suits_own ∙ new_rulings_on)
      ∙ ap (row_saying b id request rulings) (given_text advice.text (reading.repeated request rulings (repeated_in b rulings)))
