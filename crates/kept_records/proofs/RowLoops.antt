-- Writing rows one after the other.
use Rattle.std.proofs.Common.{◌≡◌, ℕ, ◌+◌, ◌<◌, List, [], ◌∷◌, ◌++◌, length, map, take, get_or, sym, ap, subst, ◌∙◌, append_assoc}
use Rattle.std.proofs.lemmas.List.{append-nil, take_more, map_push}
use Rattle.std.proofs.lemmas.Grind.{flat_map-append}
use Rattle.claim_model.specs.Rows.{Row}
use Rattle.payer_book.specs.Added.{KeptRow, kept_row}
use Rattle.kept_records.specs.Rows.{row_codec, rows_text}
use Rattle.kept_records.specs.BookLaws.{IsKeptRow, AreKeptRows}

-- these rows were put after what was there, and each part of them fits
pub record ArePut (out now : List ℕ) (rows : List Row) : Type 0 where
  pub text : now ≡ out ++ rows_text (map kept_row rows)
  pub kept : AreKeptRows (map kept_row rows)

kept_push : (ks : List KeptRow) (k : KeptRow) → AreKeptRows ks → IsKeptRow k → AreKeptRows (ks ++ k ∷ [])
kept_push [] k all is = (is, tt)
kept_push (first ∷ ks) k all is = (all.0, kept_push ks k all.1 is)

-- one row more is put
pub rows_more : (out now new : List ℕ) (rows : List Row) (i : ℕ) (row : Row) → i < length rows → row ≡ get_or rows i row → ArePut out now (take i rows) → new ≡ now ++ row_codec.text (kept_row row) → IsKeptRow (kept_row row)
    → ArePut out new (take (i + 1) rows)
rows_more out now new rows i row lt is before after fits =
    let front : List Row = take i rows in
    let kept : map kept_row (take (i + 1) rows) ≡ map kept_row front ++ kept_row row ∷ [] = ap (map kept_row) (take_more rows i row lt ∙ ap (λ (r : Row). front ++ r ∷ []) (sym is)) ∙ map_push kept_row front row in
    let text : rows_text (map kept_row (take (i + 1) rows)) ≡ rows_text (map kept_row front) ++ row_codec.text (kept_row row) =
    ap rows_text kept ∙ flat_map-append row_codec.text (map kept_row front) (kept_row row ∷ []) ∙ ap (λ (t : List ℕ). rows_text (map kept_row front) ++ t) (append-nil (row_codec.text (kept_row row))) in
    record {
      text = after ∙ ap (λ (t : List ℕ). t ++ row_codec.text (kept_row row)) before.text ∙ append_assoc out (rows_text (map kept_row front)) (row_codec.text (kept_row row)) ∙ ap (λ (t : List ℕ). out ++ t) (sym text);
      kept = subst AreKeptRows (sym kept) (kept_push (map kept_row front) (kept_row row) before.kept fits);
    }
