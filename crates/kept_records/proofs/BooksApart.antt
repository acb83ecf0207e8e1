-- Two books with one text are one, but for their caps.
use Rattle.std.proofs.Common.{◌≡◌, ℕ, List, [], ◌∷◌, ◌++◌, length, map, sym, ap, ◌∙◌}
use Rattle.std.proofs.lemmas.List.{length-map}
use Rattle.plan_rules.specs.Prices.{Prices}
use Rattle.plan_rules.specs.Terms.{Terms}
use Rattle.claim_model.specs.Rows.{Book}
use Rattle.payer_book.specs.Added.{KeptRow, kept_row}
use Rattle.codec.proofs.CodecLaws.{apart, each_apart}
use Rattle.kept_records.specs.declared.book_head.BookHead.{BookHead}
use Rattle.kept_records.specs.Products.{products_text}
use Rattle.kept_records.specs.Rows.{rows_text}
use Rattle.kept_records.specs.Books.{head_of, book_text}
use Rattle.kept_records.specs.BookLaws.{FitsBook}
use Rattle.kept_records.proofs.Formats.{book_head_is, product_is, row_is, products_fit, rows_fit}
use Rattle.kept_records.proofs.BookTexts.{head_fits}

pub books_apart : (version other : ℕ) (b d : Book) → FitsBook b → FitsBook d → book_text version b ≡ book_text other d
    → (version ≡ other) × (b.payer ≡ d.payer) × (b.settings.serial ≡ d.settings.serial) × (b.plan ≡ d.plan) × (map kept_row b.rows ≡ map kept_row d.rows)
unfolding book_text
books_apart version other b d fits fits' text =
    let ks : List KeptRow = map kept_row b.rows in
    let ls : List KeptRow = map kept_row d.rows in
    let heads = apart book_head_is (head_of version b) (head_of other d) (products_text b.plan.prices ++ rows_text ks) (products_text d.plan.prices ++ rows_text ls) (head_fits version b fits) (head_fits other d fits') text in
    let head : head_of version b ≡ head_of other d = heads.0 in
    let products = each_apart product_is b.plan.prices d.plan.prices (rows_text ks) (rows_text ls) (ap (λ (h : BookHead). h.products) head) (products_fit b.plan.prices fits.plan.priced) (products_fit d.plan.prices fits'.plan.priced) heads.1 in
    let prices : b.plan.prices ≡ d.plan.prices = products.0 in
    let plan : b.plan ≡ d.plan = λ i. record { fee = ap (λ (h : BookHead). h.fee) head i; copay = ap (λ (h : BookHead). h.copay) head i; prices = prices i } in
    let count : length ks ≡ length ls = length-map b.rows kept_row ∙ ap (λ (h : BookHead). h.rows) head ∙ sym (length-map d.rows kept_row) in
    let rows = each_apart row_is ks ls [] [] count (rows_fit ks fits.rows) (rows_fit ls fits'.rows) (ap (λ (t : List ℕ). t ++ []) products.1) in
    (ap (λ (h : BookHead). h.version) head, ap (λ (h : BookHead). h.payer) head, ap (λ (h : BookHead). h.serial) head, plan, rows.0)
