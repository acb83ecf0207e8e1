-- Which kept rows stand in a book, by what the code finds.
use Rattle.std.proofs.Common.{◌≡◌, ℕ, ◌<◌, Bool, true, false, not, List, length, Option, Some, None, ◌⊎◌, inl, inr, refl, sym, ap, ◌∙◌, subst}
use Rattle.std.specs.Prelude.{bytes_eq, nat_lt, is_none, ◌&&◌}
use Rattle.std.specs.List.{list_all}
use Rattle.std.proofs.lemmas.Bool.{cond-true, cond-false, and_from, and_left, and_right, lt-ltb, false≢true}
use Rattle.claim_profile.specs.Readable.{readable_header}
use Rattle.carried_fields.specs.Carrying.{carrying_text}
use Rattle.claim_model.specs.Words.{TxnId, RequestHeader, AcceptedStatus, Ruling, Answer}
use Rattle.claim_model.specs.Rows.{Row, Book}
use Rattle.claim_model.specs.Book.{row_of, serial_fits}
use Rattle.claim_model.specs.declared.refusal.Fault.{Fault}
use Rattle.claim_model.specs.declared.refusal.Refusal.TheVariants.{SerialsUsedUp}
use Rattle.claim_model.specs.declared.refusal.Fault.TheVariants as fault
use Rattle.payer_book.specs.declared.fault.RowFault.TheVariants as row
use Rattle.payer_book.specs.Faults.{row_fault}
use Rattle.payer_book.specs.Books.{reading}
use Rattle.payer_book.specs.Added.{kept_rulings, row_saying, with_row, with_rulings, with_answer, with_kept, added}

module _ (b : Book) (id : TxnId) (request answer : List ℕ) where
  pub unreadable_kept : readable_header request ≡ None → with_kept b id request answer ≡ None
  unfolding with_kept
  unreadable_kept e = ap (λ (o : Option RequestHeader). with_answer b id request answer o (reading.read_answer answer)) e

  none_said : (o : Option RequestHeader) → with_answer b id request answer o None ≡ None
  none_said None = refl
  none_said (Some h) = refl

  pub unsaid_kept : reading.read_answer answer ≡ None → with_kept b id request answer ≡ None
  unfolding with_kept
  unsaid_kept e = ap (with_answer b id request answer (readable_header request)) e ∙ none_said (readable_header request)

  module _ (h : RequestHeader) (reads : readable_header request ≡ Some h) (said : Answer) (says : reading.read_answer answer ≡ Some said) where
    -- the row that the kept answer comes to, and its answer
    abbrev pub row_of_said : Answer → Row
    row_of_said said = row_saying b id request (kept_rulings b id request said.rulings) answer

    abbrev pub text_of : Answer → List ℕ
    text_of said = carrying_text h AcceptedStatus (row_of_said said).rulings (row_of_said said).carried

    by_rulings : with_kept b id request answer ≡ with_rulings b id request answer h (kept_rulings b id request said.rulings)
    unfolding with_kept
    by_rulings = ap (λ (o : Option RequestHeader). with_answer b id request answer o (reading.read_answer answer)) reads ∙ ap (with_answer b id request answer (Some h)) says

    pub kept_unfit : list_all serial_fits (kept_rulings b id request said.rulings) ≡ false → with_kept b id request answer ≡ None
    kept_unfit e = by_rulings ∙ cond-false _ _ None (and_left _ (bytes_eq (text_of said) answer) e)

    pub kept_other : bytes_eq (text_of said) answer ≡ false → with_kept b id request answer ≡ None
    kept_other e = by_rulings ∙ cond-false _ _ None (and_right (list_all serial_fits (kept_rulings b id request said.rulings)) _ e)

    pub kept_stands : (r : Row) → r ≡ row_of_said said → list_all serial_fits r.rulings ≡ true → bytes_eq (carrying_text h AcceptedStatus r.rulings r.carried) answer ≡ true
        → with_kept b id request answer ≡ Some (with_row b r)
    kept_stands r is fit same =
        let fits : list_all serial_fits (kept_rulings b id request said.rulings) ≡ true = subst (λ (q : Row). list_all serial_fits q.rulings ≡ true) is fit in
        let text : bytes_eq (text_of said) answer ≡ true = subst (λ (q : Row). bytes_eq (carrying_text h AcceptedStatus q.rulings q.carried) answer ≡ true) is same in
        by_rulings ∙ (cond-true _ _ None (and_from _ _ fits text) ∙ ap (λ (q : Row). Some (with_row b q)) (sym is))

  -- where there is room for a new one
  pub added_kept : length b.rows < b.settings.cap → is_none (row_of id b.rows) ≡ true → added b id request answer ≡ with_kept b id request answer
  unfolding added
  added_kept room fresh = cond-true _ _ None (and_from _ _ (lt-ltb (length b.rows) b.settings.cap room) fresh)

  -- by the test that the code makes
  pub not_taken : (nat_lt (length b.rows) b.settings.cap && is_none (row_of id b.rows)) ≡ false → added b id request answer ≡ None
  unfolding added
  not_taken e = cond-false _ _ None e

  pub taken : (nat_lt (length b.rows) b.settings.cap && is_none (row_of id b.rows)) ≡ true → added b id request answer ≡ with_kept b id request answer
  unfolding added
  taken e = cond-true _ _ None e

-- what the test says
pub nothing_there : {A : Type 0} (o : Option A) → is_none o ≡ true → o ≡ None
nothing_there None e = refl
nothing_there (Some x) e = absurd (false≢true e)

pub negated : (b : Bool) → not b ≡ true → b ≡ false
negated true e = sym e
negated false e = refl

pub affirmed : (b : Bool) → not b ≡ false → b ≡ true
affirmed true e = refl
affirmed false e = sym e

-- a row that could not be ruled
pub unruled_none : (b : Book) (id : TxnId) (request answer : List ℕ) (h : RequestHeader) → readable_header request ≡ Some h → (said : Answer) → reading.read_answer answer ≡ Some said → (rulings : List Ruling) → rulings ≡ said.rulings
    → (f : Fault) → (f ≡ fault.OutOfMemory) ⊎ ((f ≡ fault.Refused SerialsUsedUp) × (list_all serial_fits (kept_rulings b id request rulings) ≡ false)) → (row_fault f ≡ row.OutOfMemory → ⊥) → with_kept b id request answer ≡ None
unruled_none b id request answer h reads said says rulings same f (inl memory) other = absurd (other (ap row_fault memory))
unruled_none b id request answer h reads said says rulings same f (inr unfit) other =
    kept_unfit b id request answer h reads said says (subst (λ (rs : List Ruling). list_all serial_fits (kept_rulings b id request rs) ≡ false) same unfit.1)
