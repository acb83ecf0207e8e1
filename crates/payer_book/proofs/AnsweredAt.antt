-- The row that has an answer.
use Rattle.std.proofs.Common.{◌≡◌, ℕ, ◌<◌, Bool, false, List, [], ◌∷◌, ◌++◌, length, slice_get, Some, Ok, sym, ap, ◌∙◌, arith}
use Rattle.std.proofs.lemmas.List.{length-append}
use Rattle.std.proofs.lemmas.Option.{same_Some as same_some}
use Rattle.claim_model.specs.Words.{Advice, TxnId}
use Rattle.claim_model.specs.Context.{Context}
use Rattle.claim_model.specs.Rows.{Row, Book}
use Rattle.claim_model.specs.Book.{answered}
use Rattle.claim_model.proofs.Lists.{get_last}
use Rattle.payer_book.specs.Added.{kept_answer, with_row}
use Rattle.payer_book.specs.Placing.{IsAnsweredAt}

module _ (ctx : Context) (b : Book) (advice : Advice) (id : TxnId) (request : List ℕ) where
  -- a row that is there has the answer
  pub at_row : (after : Book) (place : ℕ) (kept : Bool) (row : Row) → place < length after.rows → slice_get after.rows place ≡ Some row
      → answered ctx b advice id request ≡ Ok (record { book = after; bytes = kept_answer row; kept = kept }) → IsAnsweredAt ctx b advice id request after place kept
  at_row after place kept row within there ruled = record {
    within = within;
    ruled = λ other at. ruled ∙ ap (λ (r : Row). Ok (record { book = after; bytes = kept_answer r; kept = kept })) (same_some row other (sym there ∙ at));
  }

  -- a row that was added has it
  pub at_end : (row : Row) (place : ℕ) → place ≡ length b.rows → answered ctx b advice id request ≡ Ok (record { book = with_row b row; bytes = kept_answer row; kept = false })
      → IsAnsweredAt ctx b advice id request (with_row b row) place false
  at_end row place is ruled =
      let within : place < length (b.rows ++ row ∷ []) = omega (arith, is, length-append b.rows (row ∷ [])) in
      at_row (with_row b row) place false row within (ap (slice_get (b.rows ++ row ∷ [])) is ∙ get_last b.rows row) ruled
