-- The reading of requests does not ask for the routes.
use Rattle.std.proofs.Common.{◌≡◌, ℕ, List, Option, Some, sym, ap, ◌∙◌}
use Rattle.std.specs.Prelude.{option_map}
use Rattle.bin_routes.specs.Table.{RouteMaps}
use Rattle.claim_model.specs.Words.{RequestHeader}
use Rattle.claim_model.specs.Bytes.{bytes_with}
use Rattle.claim_model.specs.Readable.{answer_text}
use Rattle.claim_model.specs.Rows.{Row}
use Rattle.claim_model.specs.Book.{row_text}
use Rattle.claim_model.specs.Held.{row_answer}
use Rattle.claim_model.proofs.BytesLaws.{readable_alike}
use Rattle.claim_model.proofs.Tests.{readable_parts}
use Rattle.payer_book.specs.Kept.{IsAnswered}
use Rattle.payer_book.specs.Added.{answer_under, kept_answer}

-- the answer that a row keeps is the answer of its row
pub answered_row : (routes : RouteMaps) (row : Row) (answer : List ℕ) → IsAnswered row.request row.rulings row.carried answer → Some answer ≡ row_answer (bytes_with routes) row
answered_row routes row answer is =
    ap (λ (t : List ℕ). Some t) is.text ∙ sym (ap (option_map (λ (h : RequestHeader). answer_text (bytes_with routes) h row)) (readable_alike routes row.request ∙ is.reads))

-- which is the text of its rulings
pub kept_text : (row : Row) (answer : List ℕ) → IsAnswered row.request row.rulings row.carried answer → answer ≡ kept_answer row
kept_text row answer is = is.text ∙ sym (ap (λ (o : Option RequestHeader). answer_under o row) is.reads)

-- it is the answer of its row, by the header alone
pub answered_under : (routes : RouteMaps) (row : Row) (answer : List ℕ) → IsAnswered row.request row.rulings row.carried answer → Some answer ≡ row_text (bytes_with routes) row
answered_under routes row answer is =
    ap (λ (t : List ℕ). Some t) is.text
    ∙ sym (ap (option_map (λ (h : RequestHeader). answer_text (bytes_with routes) h row)) (readable_parts (bytes_with routes) row.request is.header (readable_alike routes row.request ∙ is.reads)).1)
