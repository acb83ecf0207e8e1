-- What tills have after a submission and after an await.
use Rattle.std.proofs.Common.{◌≡◌, ℕ, zero, suc, List, [], ◌∷◌, ◌++◌, map, slice_get, slice_set, option_map, Option, Some, Result, Ok, Err, IfSome, IfOk, OnErr, MatchResult, refl, sym, ap, subst, ◌∙◌, inl, inr}
use Rattle.std.specs.List.{AllByRecursion}
use Rattle.std.proofs.lemmas.List.{map-set}
use Rattle.std.proofs.lemmas.Option.{slice_get-map}
use Rattle.claim_model.proofs.Options.{same_some}
use Rattle.claim_model.specs.declared.refusal.Fault.{Fault}
use Rattle.world_report.specs.Words.{Line, line_text, lines_text}
use Rattle.node_logged.specs.Tills as tills
use Rattle.node_logged.specs.Tills.{with_receipt}
use Rattle.node_logged.specs.TillSeen.{till_seen}
use Rattle.node_logged.specs.LedgerSeen.{tills_seen}
use Rattle.node_logged.specs.declared.till.Till.{Till}
use Rattle.schedule_run.specs.Told.{IsAwaited, IsEmpty, IsRefusal, IsSubmitted, Tells, TillChanges, number_line}
use Rattle.world_report.proofs.JoinedWords.{lines_text-one}

-- one till more
pub empty_more : (ts : List Till) (t : Till) → AllByRecursion IsEmpty (tills_seen ts) → IsEmpty (till_seen t) → AllByRecursion IsEmpty (tills_seen (ts ++ t ∷ []))
empty_more [] t so_far one = (one, so_far)
empty_more (u ∷ ts) t so_far one = (so_far.0, empty_more ts t so_far.1 one)

-- what is put back as it is seen changes nothing that is seen
same_put : {A B : Type 0} (f : A → B) (xs : List A) (i : ℕ) (x y : A) → slice_get xs i ≡ Some x → f y ≡ f x → map f (slice_set xs i y) ≡ map f xs
same_put f [] i x y at e = refl
same_put f (a ∷ xs) zero x y at e = ap (λ b. b ∷ map f xs) (e ∙ ap f (sym (same_some a x at)))
same_put f (a ∷ xs) (suc i) x y at e = ap (λ rest. f a ∷ rest) (same_put f xs i x y at e)

pub tills_stay : (ts : List Till) (place : ℕ) (old new : Till) → slice_get ts place ≡ Some old → till_seen new ≡ till_seen old → tills_seen (slice_set ts place new) ≡ tills_seen ts
tills_stay ts place old new at same = same_put till_seen ts place old new at same

-- one till changes
pub till_changes : (pharmacy : ℕ) (Change : tills.Till → tills.Till → Type 0) (ts : List Till) (place : ℕ) (old new : Till) → slice_get ts place ≡ Some old
    → IfSome (slice_get ts place) (λ t. t.pharmacy ≡ pharmacy) → Change (till_seen old) (till_seen new) → TillChanges pharmacy Change (tills_seen ts) (tills_seen (slice_set ts place new))
till_changes pharmacy Change ts place old new at of changed = (
  place,
  till_seen old,
  till_seen new,
  slice_get-map till_seen ts place ∙ ap (option_map till_seen) at,
  subst (λ (o : Option Till). IfSome o (λ t. t.pharmacy ≡ pharmacy)) at of,
  map-set till_seen ts place new,
  changed,
)

-- a submission, by its outcome
pub submission_told : (pharmacy : ℕ) (request a b : List ℕ) (ts : List Till) (place : ℕ) (old new : Till) (outcome : Result ℕ Fault) → slice_get ts place ≡ Some old
    → IfSome (slice_get ts place) (λ t. t.pharmacy ≡ pharmacy)
    → IfOk outcome (λ number. till_seen new ≡ with_receipt number request (till_seen old)) → OnErr outcome (till_seen new ≡ till_seen old)
    → (line : Line) × (b ≡ a ++ line_text line) × MatchResult outcome (λ number. line ≡ number_line number) (λ _. IsRefusal line)
    → (lines : List Line) × (b ≡ a ++ lines_text lines) × IsSubmitted pharmacy request (tills_seen ts) lines (tills_seen (slice_set ts place new))
submission_told pharmacy request a b ts place old new (Ok number) at of taken same told = (
  told.0 ∷ [],
  told.1 ∙ ap (λ (t : List ℕ). a ++ t) (sym (lines_text-one told.0)),
  inr (number, ap (λ (l : Line). l ∷ []) told.2, till_changes pharmacy (λ before after. after ≡ with_receipt number request before) ts place old new at of taken),
)
submission_told pharmacy request a b ts place old new (Err fault) at of taken same told = (
  told.0 ∷ [],
  told.1 ∙ ap (λ (t : List ℕ). a ++ t) (sym (lines_text-one told.0)),
  inl ((told.0, refl, told.2), tills_stay ts place old new at same),
)

-- a submission at a pharmacy that is not there
pub submission_refused : (pharmacy : ℕ) (request a b : List ℕ) (ts : List Till) → (line : Line) × (b ≡ a ++ line_text line) × IsRefusal line
    → (lines : List Line) × (b ≡ a ++ lines_text lines) × IsSubmitted pharmacy request (tills_seen ts) lines (tills_seen ts)
submission_refused pharmacy request a b ts told =
    (told.0 ∷ [], told.1 ∙ ap (λ (t : List ℕ). a ++ t) (sym (lines_text-one told.0)), inl ((told.0, refl, told.2), refl))

-- what a till told
pub till_told : (pharmacy number : ℕ) (a b : List ℕ) (ts : List Till) (place : ℕ) (old new : Till) (lines : List Line) → slice_get ts place ≡ Some old
    → IfSome (slice_get ts place) (λ t. t.pharmacy ≡ pharmacy) → b ≡ a ++ lines_text lines → Tells pharmacy number lines (till_seen old) (till_seen new)
    → (lines : List Line) × (b ≡ a ++ lines_text lines) × IsAwaited pharmacy number (tills_seen ts) lines (tills_seen (slice_set ts place new))
till_told pharmacy number a b ts place old new lines at of told tells =
    (lines, told, inr (till_changes pharmacy (Tells pharmacy number lines) ts place old new at of tells))

-- an await at a pharmacy that is not there
pub await_refused : (pharmacy number : ℕ) (a b : List ℕ) (ts : List Till) → (line : Line) × (b ≡ a ++ line_text line) × IsRefusal line
    → (lines : List Line) × (b ≡ a ++ lines_text lines) × IsAwaited pharmacy number (tills_seen ts) lines (tills_seen ts)
await_refused pharmacy number a b ts told =
    (told.0 ∷ [], told.1 ∙ ap (λ (t : List ℕ). a ++ t) (sym (lines_text-one told.0)), inl ((told.0, refl, told.2), refl))
