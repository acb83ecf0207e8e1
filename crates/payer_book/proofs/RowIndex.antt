-- The index of the rows, as the list grows.
use Rattle.std.proofs.Common.{◌≡◌, ℕ, ◌<◌, Bool, true, false, cond, List, [], ◌∷◌, ◌++◌, length, Option, Some, None, slice_get, refl, sym, ap, ◌∙◌, subst, arith, length-append}
use Rattle.std.specs.Prelude.{option_and_then}
use Rattle.std.proofs.lemmas.Bool.{cond-true, cond-false}
use Rattle.std.proofs.lemmas.Option.{same_Some as same_some}
use Rattle.claim_model.specs.Words.{TxnId}
use Rattle.claim_model.specs.Rows.{Row}
use Rattle.claim_model.specs.Readable.{same_id}
use Rattle.claim_model.specs.Book.{row_of}
use Rattle.claim_model.proofs.Lists.{get_exists, get_last, find_append, find_beyond}
use Rattle.payer_book.specs.RowPlaces.{IsPlaced, IsPlaceOf}
use Rattle.payer_book.proofs.Lists.{get_append}
use Rattle.envelope.specs.contracts.txn.TxnIdPartialEq.TheImpl as id_eq
use Rattle.claim_model.proofs.Tests.{id_same}

module _ (rows : List Row) (row : Row) (old new : TxnId → Option ℕ) (h : IsPlaced rows old) (fresh : row_of row.id rows ≡ None)
    (more : (id : TxnId) → new id ≡ cond (same_id row.id id) (Some (length rows)) (old id)) where
  more_found : (id : TxnId) (b : Bool) (o : Option ℕ) → same_id row.id id ≡ b → old id ≡ o → option_and_then (slice_get rows) o ≡ row_of id rows
      → option_and_then (slice_get (rows ++ row ∷ [])) (cond b (Some (length rows)) o) ≡ row_of id (rows ++ row ∷ [])
  more_found id true o is at f =
      let none : row_of id rows ≡ None = subst (λ (i : TxnId). row_of i rows ≡ None) (id_same row.id id is) fresh in
      get_last rows row ∙ sym (find_beyond (λ (r : Row). same_id r.id id) rows (row ∷ []) none ∙ cond-true (same_id row.id id) (Some row) None is)
  more_found id false None is at f = sym (find_beyond (λ (r : Row). same_id r.id id) rows (row ∷ []) (sym f) ∙ cond-false (same_id row.id id) (Some row) None is)
  more_found id false (Some k) is at f = get_append rows (row ∷ []) k (h.within id k at) ∙ by_row (slice_get rows k) refl
    where
      by_row : (r : Option Row) → slice_get rows k ≡ r → slice_get rows k ≡ row_of id (rows ++ row ∷ [])
      by_row (Some r) e = e ∙ sym (find_append (λ (q : Row). same_id q.id id) rows (row ∷ []) r (sym f ∙ e))
      by_row None e = e ∙ sym (find_beyond (λ (q : Row). same_id q.id id) rows (row ∷ []) (sym f ∙ e) ∙ cond-false (same_id row.id id) (Some row) None is)

  more_within : (id : TxnId) (place : ℕ) (b : Bool) → cond b (Some (length rows)) (old id) ≡ Some place → place < length (rows ++ row ∷ [])
  more_within id place true e = let s = same_some (length rows) place e in omega (arith, s, length-append rows (row ∷ []))
  more_within id place false e = let s = h.within id place e in omega (arith, s, length-append rows (row ∷ []))

  pub placed_more : IsPlaced (rows ++ row ∷ []) new
  placed_more = record {
    found = λ id. ap (option_and_then (slice_get (rows ++ row ∷ []))) (more id) ∙ more_found id (same_id row.id id) (old id) refl refl (h.found id);
    within = λ id place e. more_within id place (same_id row.id id) (sym (more id) ∙ e);
  }

-- what the index has for an id is where its row stands
pub place_found : (rows : List Row) (at : TxnId → Option ℕ) → IsPlaced rows at → (id : TxnId) (o : Option ℕ) → o ≡ at id → IsPlaceOf id rows o
place_found rows at h id None e = sym (ap (option_and_then (slice_get rows)) e ∙ h.found id)
place_found rows at h id (Some k) e = record { within = h.within id k (sym e); is = ap (option_and_then (slice_get rows)) e ∙ h.found id }

-- an id without a row has no place
pub unplaced : (rows : List Row) (at : TxnId → Option ℕ) → IsPlaced rows at → (id : TxnId) → row_of id rows ≡ None → at id ≡ None
unplaced rows at h id none = by_place (at id) refl
  where
    by_place : (o : Option ℕ) → at id ≡ o → at id ≡ None
    by_place None e = e
    by_place (Some k) e =
        let x = get_exists rows k (h.within id k e) in
        let gone : Some x.0 ≡ None = sym x.1 ∙ (ap (option_and_then (slice_get rows)) (sym e) ∙ (h.found id ∙ none)) in absurd cc

-- an index that has the same places
pub placed_same : (rows : List Row) (old new : TxnId → Option ℕ) → IsPlaced rows old → ((id : TxnId) → new id ≡ old id) → IsPlaced rows new
placed_same rows old new h same = record {
  found = λ id. ap (option_and_then (slice_get rows)) (same id) ∙ h.found id;
  within = λ id place e. h.within id place (sym (same id) ∙ e);
}

-- what an insertion makes of the index
pub placed_by : (rows : List Row) (row : Row) (key : TxnId) (place : ℕ) (old new : TxnId → Option ℕ) → key ≡ row.id → place ≡ length rows
    → ((id : TxnId) → new id ≡ cond (id_eq.ghosts.eq key id) (Some place) (old id)) → (id : TxnId) → new id ≡ cond (same_id row.id id) (Some (length rows)) (old id)
placed_by rows row key place old new is at updates id =
    updates id ∙ (ap (λ (k : TxnId). cond (same_id k id) (Some place) (old id)) is ∙ ap (λ n. cond (same_id row.id id) (Some n) (old id)) at)
