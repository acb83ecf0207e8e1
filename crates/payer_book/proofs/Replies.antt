-- What the model answers, by what the code finds.
use Rattle.std.proofs.Common.{◌≡◌, ℕ, true, false, List, length, Option, Some, None, Ok, Err, sym, ap, ◌∙◌}
use Rattle.std.specs.Prelude.{bytes_eq, nat_lt}
use Rattle.std.specs.List.{list_all}
use Rattle.std.proofs.lemmas.Bool.{cond-true, cond-false}
use Rattle.bin_routes.specs.Table.{RouteMaps}
use Rattle.claim_profile.specs.Readable.{readable_header}
use Rattle.claim_model.specs.Words.{Advice, TxnId, RequestHeader, Ruling}
use Rattle.claim_model.specs.Bytes.{bytes_with}
use Rattle.claim_model.specs.Readable.{payer_for, is_payer, answer_text}
use Rattle.claim_model.specs.declared.refusal.Refusal.{Refusal}
use Rattle.claim_model.specs.Rows.{Row, Book}
use Rattle.claim_model.specs.Book.{serial_fits, row_of, new_row, has_verdicts, entered_row, answered_by, answered_readable, answered}
use Rattle.claim_model.proofs.BytesLaws.{readable_alike}
use Rattle.payer_book.specs.Added.{answer_under, kept_answer, with_row}
use Rattle.claim_model.proofs.Tests.{bytes_same}

module _ (routes : RouteMaps) (b : Book) (advice : Advice) (id : TxnId) (request : List ℕ) where
  pub unreadable : readable_header request ≡ None → answered (bytes_with routes) b advice id request ≡ Err Refusal.Unreadable
  unfolding answered
  unreadable e = ap (answered_readable (bytes_with routes) b advice id request) (readable_alike routes request ∙ e)

  module _ (h : RequestHeader) (reads : readable_header request ≡ Some h) where
    read : answered (bytes_with routes) b advice id request ≡ answered_readable (bytes_with routes) b advice id request (Some h)
    unfolding answered
    read = ap (answered_readable (bytes_with routes) b advice id request) (readable_alike routes request ∙ reads)

    pub not_ours : is_payer b.payer (payer_for (bytes_with routes) id h) ≡ false → answered (bytes_with routes) b advice id request ≡ Err Refusal.NotOurs
    not_ours e = read ∙ cond-false (is_payer b.payer (payer_for (bytes_with routes) id h)) (answered_by (bytes_with routes) b advice id request h (row_of id b.rows)) (Err Refusal.NotOurs) e

    module _ (ours : is_payer b.payer (payer_for (bytes_with routes) id h) ≡ true) where
      pub at_rows : (o : Option Row) → row_of id b.rows ≡ o → answered (bytes_with routes) b advice id request ≡ answered_by (bytes_with routes) b advice id request h o
      at_rows o e =
          read ∙ (cond-true (is_payer b.payer (payer_for (bytes_with routes) id h)) (answered_by (bytes_with routes) b advice id request h (row_of id b.rows)) (Err Refusal.NotOurs) ours
          ∙ ap (answered_by (bytes_with routes) b advice id request h) e)

      pub reused : (row : Row) → row_of id b.rows ≡ Some row → bytes_eq row.request request ≡ false → answered (bytes_with routes) b advice id request ≡ Err Refusal.NumberReused
      reused row e other = at_rows (Some row) e ∙ cond-false (bytes_eq row.request request) _ (Err Refusal.NumberReused) other

      pub again : (row : Row) → row_of id b.rows ≡ Some row → bytes_eq row.request request ≡ true
          → answered (bytes_with routes) b advice id request ≡ Ok (record { book = b; bytes = answer_text (bytes_with routes) h row; kept = true })
      again row e same = at_rows (Some row) e ∙ cond-true (bytes_eq row.request request) _ (Err Refusal.NumberReused) same

      pub full : row_of id b.rows ≡ None → nat_lt (length b.rows) b.settings.cap ≡ false → answered (bytes_with routes) b advice id request ≡ Err Refusal.BookFull
      full e no_room = at_rows None e ∙ cond-false (nat_lt (length b.rows) b.settings.cap) (entered_row (bytes_with routes) b h (has_verdicts (bytes_with routes) b advice id request) (new_row (bytes_with routes) b advice id request)) (Err Refusal.BookFull) no_room

      pub new : row_of id b.rows ≡ None → nat_lt (length b.rows) b.settings.cap ≡ true → answered (bytes_with routes) b advice id request ≡ entered_row (bytes_with routes) b h (has_verdicts (bytes_with routes) b advice id request) (new_row (bytes_with routes) b advice id request)
      new e room = at_rows None e ∙ cond-true (nat_lt (length b.rows) b.settings.cap) (entered_row (bytes_with routes) b h (has_verdicts (bytes_with routes) b advice id request) (new_row (bytes_with routes) b advice id request)) (Err Refusal.BookFull) room

-- the answer of a new row, as the row keeps it
pub new_text : (row : Row) (id : TxnId) (request : List ℕ) (rulings : List Ruling) (carried : List ℕ) (h : RequestHeader) → readable_header request ≡ Some h
    → row ≡ record { id = id; request = request; rulings = rulings; carried = carried } → (bytes : List ℕ) → bytes ≡ answer_under (Some h) row → kept_answer row ≡ bytes
new_text row id request rulings carried h reads is bytes text = ap (λ (o : Option RequestHeader). answer_under o row) (ap (λ (r : Row). readable_header r.request) is ∙ reads) ∙ sym text

-- what the code finds

module _ (routes : RouteMaps) (b : Book) (advice : Advice) (id : TxnId) (request : List ℕ) where
  module _ (h : RequestHeader) (reads : readable_header request ≡ Some h) (ours : is_payer b.payer (payer_for (bytes_with routes) id h) ≡ true) where
    -- the row's answer again
    pub answered_again : (row : Row) → row_of id b.rows ≡ Some row → bytes_eq row.request request ≡ true
        → answered (bytes_with routes) b advice id request ≡ Ok (record { book = b; bytes = kept_answer row; kept = true })
    answered_again row at same =
        let one : row.request ≡ request = bytes_same row.request request same in
        let text : answer_text (bytes_with routes) h row ≡ kept_answer row = ap (λ (o : Option RequestHeader). answer_under o row) (sym (ap readable_header one ∙ reads)) in
        again routes b advice id request h reads ours row at same ∙ ap (λ (t : List ℕ). Ok (record { book = b; bytes = t; kept = true })) text

    module _ (fresh : row_of id b.rows ≡ None) (room : nat_lt (length b.rows) b.settings.cap ≡ true) (row : Row) (same : row ≡ new_row (bytes_with routes) b advice id request) where
      entered_same : answered (bytes_with routes) b advice id request ≡ entered_row (bytes_with routes) b h (has_verdicts (bytes_with routes) b advice id request) row
      entered_same = new routes b advice id request h reads ours fresh room ∙ ap (entered_row (bytes_with routes) b h (has_verdicts (bytes_with routes) b advice id request)) (sym same)

      pub used_up : list_all serial_fits row.rulings ≡ false → answered (bytes_with routes) b advice id request ≡ Err Refusal.SerialsUsedUp
      used_up no_serial = entered_same ∙ cond-false (list_all serial_fits row.rulings) _ (Err Refusal.SerialsUsedUp) no_serial

      pub unadvised_new : list_all serial_fits row.rulings ≡ true → has_verdicts (bytes_with routes) b advice id request ≡ false → answered (bytes_with routes) b advice id request ≡ Err Refusal.NotAdvised
      unadvised_new fit lacks =
          entered_same ∙ (cond-true (list_all serial_fits row.rulings) _ (Err Refusal.SerialsUsedUp) fit
          ∙ cond-false (has_verdicts (bytes_with routes) b advice id request) _ (Err Refusal.NotAdvised) lacks)

      pub answered_new : (bytes : List ℕ) → list_all serial_fits row.rulings ≡ true → has_verdicts (bytes_with routes) b advice id request ≡ true → bytes ≡ answer_text (bytes_with routes) h row
          → answered (bytes_with routes) b advice id request ≡ Ok (record { book = with_row b row; bytes = bytes; kept = false })
      answered_new bytes fit advised text =
          entered_same
          ∙ (cond-true (list_all serial_fits row.rulings) _ (Err Refusal.SerialsUsedUp) fit
          ∙ (cond-true (has_verdicts (bytes_with routes) b advice id request) (Ok (record { book = with_row b row; bytes = answer_text (bytes_with routes) h row; kept = false })) (Err Refusal.NotAdvised) advised
          ∙ ap (λ (t : List ℕ). Ok (record { book = with_row b row; bytes = t; kept = false })) (sym text)))
