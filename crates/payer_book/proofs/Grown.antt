-- A book with one row more is again what adding its rows makes.
use Rattle.std.proofs.Common.{◌≡◌, ℕ, ◌+◌, ◌<◌, Bool, true, false, cond, List, [], ◌∷◌, ◌++◌, map, length, Option, Some, None, Result, refl, sym, ap, ◌∙◌, subst, arith, length-append}
use Rattle.std.specs.Prelude.{option_and_then, is_none}
use Rattle.std.specs.List.{AllByRecursion, list_all}
use Rattle.std.proofs.lemmas.List.{map-append}
use Rattle.bin_routes.specs.Table.{RouteMaps, routes_of}
use Rattle.claim_profile.specs.Readable.{readable_header}
use Rattle.carried_fields.specs.Carrying.{carrying_text}
use Rattle.claim_model.specs.Words.{TxnId, RequestHeader, AcceptedStatus, Order, Code, Ruling, Plan}
use Rattle.claim_model.specs.Laws.{Laws, IsRuling}
use Rattle.claim_model.specs.Readable.{readable}
use Rattle.claim_model.specs.Numbered.{numbered}
use Rattle.claim_model.specs.Bytes.{kept_under, bytes_with}
use Rattle.claim_model.specs.Ruled.{Ruled, ruled}
use Rattle.claim_model.specs.Rows.{Row, Book, ruled_rows}
use Rattle.claim_model.specs.Judgement.{Judged, Unpriced, ToPrice, ToReverse, judged}
use Rattle.claim_model.specs.Book.{row_of, serial_fits, carries_more}
use Rattle.claim_model.proofs.BytesLaws.{readable_alike}
use Rattle.payer_book.specs.declared.book.payment.Payment.{Payment}
use Rattle.payer_book.specs.declared.ruling.changes.Change.{Change}
use Rattle.payer_book.specs.Ledger.{Ledger, standing_in}
use Rattle.payer_book.specs.Changes.{changes_by, payments_after}
use Rattle.payer_book.specs.Books.{reading}
use Rattle.payer_book.specs.Added.{KeptRow, answer_under, kept_answer, kept_row, kept_ruling_of, kept_ruling, kept_rulings_from, kept_rulings, carried_in, row_saying, with_row, with_kept, added, added_all}
use Rattle.payer_book.specs.MadeBooks.{IsTold, MadeByAdding, IsMade}
use Rattle.payer_book.specs.Entries.{with_plan}
use Rattle.claim_model.proofs.Tests.{bytes_self}
use Rattle.payer_book.proofs.KeptRows.{kept_stands, added_kept}
use Rattle.payer_book.proofs.Tellable.{after_told}

-- no plan takes part

ruling_alike : (b : Book) (p : Plan) (before : List Ruled) (said : Option Ruling) (order : Result Order (List Code)) → kept_ruling b before said order ≡ kept_ruling (with_plan b p) before said order
unfolding kept_ruling
ruling_alike b p before said order = by_case (judged before order)
  where
    by_case : (j : Judged) → kept_ruling_of b before said j ≡ kept_ruling_of (with_plan b p) before said j
    by_case (Unpriced ruling) = refl
    by_case (ToPrice c) = refl
    by_case (ToReverse auth v) = refl

rulings_alike : (b : Book) (p : Plan) (before : List Ruled) (id : TxnId) (place : ℕ) (orders : List (Result Order (List Code))) (said : List Ruling) → kept_rulings_from b before id place orders said ≡ kept_rulings_from (with_plan b p) before id place orders said
rulings_alike b p before id place [] said = refl
rulings_alike b p before id place (order ∷ orders) said =
    let r : Ruling = kept_ruling b before (numbered said place) order in
    ap (λ (rs : List Ruling). r ∷ rs) (rulings_alike b p (before ++ ruled id place order r ∷ []) id (place + 1) orders said)
    ∙ ap (λ (x : Ruling). x ∷ kept_rulings_from (with_plan b p) (before ++ ruled id place order x ∷ []) id (place + 1) orders said) (ruling_alike b p before (numbered said place) order)

-- what a row's answer carries is carried again by the answer that is kept
carried_so : ((routes : RouteMaps) → Laws (bytes_with routes)) → (b : Book) (row : Row) (h : RequestHeader) (said : List ℕ) → readable reading row.request ≡ Some h → length row.rulings ≡ h.count → AllByRecursion IsRuling row.rulings
    → row.carried ≡ carried_in b row.request row.rulings said → row.carried ≡ carried_in b row.request row.rulings (carrying_text h AcceptedStatus row.rulings row.carried)
carried_so laws b row h said read count told is = by_settings (carries_more b.settings) is
  where
    by_settings : (t : Bool) → row.carried ≡ cond t (kept_under (readable_header row.request) row.rulings said) []
        → row.carried ≡ cond t (kept_under (readable_header row.request) row.rulings (carrying_text h AcceptedStatus row.rulings row.carried)) []
    by_settings true e =
        e ∙ (sym ((laws (routes_of [])).carried_back row.request h row.rulings said read count told).again
        ∙ ap (λ (t : List ℕ). kept_under (readable_header row.request) row.rulings (carrying_text h AcceptedStatus row.rulings t)) (sym e))
    by_settings false e = e

-- a row that follows the rules can be added from what is kept of it
pub row_stands : ((routes : RouteMaps) → Laws (bytes_with routes)) → (b : Book) (row : Row) (h : RequestHeader) → readable_header row.request ≡ Some h → length row.rulings ≡ h.count → AllByRecursion IsRuling row.rulings
    → row.rulings ≡ kept_rulings b row.id row.request row.rulings → list_all serial_fits row.rulings ≡ true → (said : List ℕ) → row.carried ≡ carried_in b row.request row.rulings said → (plan : Plan) → with_kept (with_plan b plan) row.id row.request (kept_answer row) ≡ Some (with_row (with_plan b plan) row)
row_stands laws b row h reads count told ruled fit said carried plan =
    let read = readable_alike (routes_of []) row.request ∙ reads in
    let back = (laws (routes_of [])).answers row.request h AcceptedStatus row.rulings row.carried read count told tt in
    let bytes : List ℕ = carrying_text h AcceptedStatus row.rulings row.carried in
    let text : kept_answer row ≡ bytes = ap (λ (o : Option RequestHeader). answer_under o row) reads in
    let again : row.rulings ≡ kept_rulings (with_plan b plan) row.id row.request back.answer.rulings =
    ruled ∙ (rulings_alike b plan (ruled_rows reading b.rows) row.id 1 (reading.orders row.request) row.rulings ∙ ap (kept_rulings (with_plan b plan) row.id row.request) (sym back.rulings_are)) in
    let is : row ≡ row_saying (with_plan b plan) row.id row.request (kept_rulings (with_plan b plan) row.id row.request back.answer.rulings) bytes =
    ap (λ (t : List ℕ). record { id = row.id; request = row.request; rulings = row.rulings; carried = t }) (carried_so laws b row h said read count told carried)
    ∙ ap (λ (rs : List Ruling). row_saying (with_plan b plan) row.id row.request rs bytes) again in
    subst (λ (t : List ℕ). with_kept (with_plan b plan) row.id row.request t ≡ Some (with_row (with_plan b plan) row)) (sym text)
    (kept_stands (with_plan b plan) row.id row.request bytes h reads back.answer back.reads row is fit (bytes_self bytes))

-- the rows of a longer book, added

added_more : (o : Option Book) (rows : List KeptRow) (row : KeptRow) → added_all o (rows ++ row ∷ []) ≡ option_and_then (λ b. added b row.id row.request row.answer) (added_all o rows)
added_more None [] row = refl
added_more None (r ∷ rows) row = refl
added_more (Some b) [] row = last (added b row.id row.request row.answer)
  where
    last : (o : Option Book) → added_all o [] ≡ o
    last None = refl
    last (Some x) = refl
added_more (Some b) (r ∷ rows) row = added_more (added b r.id r.request r.answer) rows row

pub no_row : (o : Option Row) → o ≡ None → is_none o ≡ true
no_row None e = refl
no_row (Some r) e = absurd cc

module _ (b : Book) (l : Ledger) (h : IsMade b.payer b.settings b.rows l) (row : Row) (room : length b.rows < b.settings.cap) (fresh : row_of row.id b.rows ≡ None)
    (stands : (plan : Plan) → with_kept (with_plan b plan) row.id row.request (kept_answer row) ≡ Some (with_row (with_plan b plan) row)) where
  made_more : MadeByAdding b.payer b.settings (b.rows ++ row ∷ [])
  made_more plan =
      let empty : Option Book = Some (record { payer = b.payer; settings = b.settings; plan = plan; rows = [] }) in
      ap (added_all empty) (map-append kept_row b.rows (row ∷ []))
      ∙ (added_more empty (map kept_row b.rows) (kept_row row)
      ∙ (ap (option_and_then (λ (x : Book). added x row.id row.request (kept_answer row))) (h.made plan)
      ∙ (added_kept (with_plan b plan) row.id row.request (kept_answer row) room (no_row (row_of row.id b.rows) fresh) ∙ stands plan)))

  pub made_after : (told : AllByRecursion IsRuling row.rulings) (m n : Ledger) (same : m.payments ≡ l.payments) (changes : List Change) (changed : changes ≡ changes_by (reading.orders row.request) row.rulings) (key : TxnId) (rows : List Row)
      → rows ≡ b.rows ++ row ∷ [] → n.payments ≡ payments_after key m.payments changes → IsMade b.payer b.settings rows n
  made_after told m n same changes changed key rows rows_are after =
      let all : n.payments ≡ payments_after key l.payments (changes_by (reading.orders row.request) row.rulings) =
      after ∙ (ap (λ (ps : List Payment). payments_after key ps changes) same ∙ ap (payments_after key l.payments) changed) in
      record {
        some_payer = h.some_payer;
        payer_fits = h.payer_fits;
        some_serial = h.some_serial;
        in_limit = omega (arith, room, ap (λ (rs : List Row). length rs) rows_are, length-append b.rows (row ∷ []));
        made = subst (MadeByAdding b.payer b.settings) (sym rows_are) made_more;
        told = subst (λ (ps : List Payment). AllByRecursion IsTold (standing_in ps)) (sym all) (after_told key l.payments (reading.orders row.request) row.rulings h.told told);
      }
