-- What a till tells of a number.
use Rattle.std.proofs.Common.{◌≡◌, ℕ, Bool, true, false, List, [], ◌∷◌, ◌++◌, Option, Some, None, Result, Ok, Err, IfSome, ◌↔◌, refl, sym, ap, ◌∙◌, inl, inr, codes}
use Rattle.std.proofs.lemmas.Option.{none-some}
use Rattle.claim_profile.specs.Ruling.{answer_of}
use Rattle.claim_model.proofs.Options.{same_some}
use Rattle.world_report.specs.Words.{Line, line_text, lines_text}
use Rattle.node_logged.specs.Tills.{Till}
use Rattle.node_threads.specs.declared.status.Status.{Status}
use Rattle.node_threads.specs.declared.status.StatusFault.{StatusFault}
use Rattle.node_threads.specs.declared.status.StatusFault.TheVariants.{NotThisTill}
use Rattle.schedule_run.specs.Places.{places_asked}
use Rattle.schedule_run.specs.Told.{Tells, TellsAnswer, TellsNone, TellsOpen, answer_lines, open_lines, refusal_line}
use Rattle.world_report.proofs.JoinedWords.{lines_text-one}

-- a receipt is there, where its number is not refused
pub is_there : (r : Result Status StatusFault) (status : Status) (there : Bool) → r ≡ Ok status → ((r ≡ Err NotThisTill) ↔ (there ≡ false)) → there ≡ true
is_there r status true is iff = refl
is_there r status false is iff =
    let refused = iff.1 refl in
    absurd cc

-- nothing was heard, where nothing is told and what was heard would be
pub none_heard : (heard : Option (List ℕ)) → IfSome heard (λ (before : List ℕ). None ≡ Some before) → heard ≡ None
none_heard None again = refl
none_heard (Some before) again = absurd (none-some before again)

-- what is told was heard, where anything was
pub same_heard : (answer : List ℕ) (heard : Option (List ℕ)) → IfSome heard (λ (before : List ℕ). Some answer ≡ Some before) → IfSome heard (λ before. answer ≡ before)
same_heard answer None again = tt
same_heard answer (Some before) again = same_some answer before again

-- an answer
pub answer_told : (pharmacy number : ℕ) (a b : List ℕ) (old new : Till) (answer text : List ℕ) → TellsAnswer number answer old new → text ≡ answer
    → b ≡ a ++ lines_text (answer_lines pharmacy number (answer_of text)) → (lines : List Line) × (b ≡ a ++ lines_text lines) × Tells pharmacy number lines old new
answer_told pharmacy number a b old new answer text tells same told =
    (answer_lines pharmacy number (answer_of text), told, inl (answer, ap (λ (t : List ℕ). answer_lines pharmacy number (answer_of t)) same, tells))

-- no answer
pub open_told : (pharmacy number places : ℕ) (a b : List ℕ) (old new : Till) → TellsOpen number old new → places ≡ places_asked number new
    → b ≡ a ++ lines_text (open_lines pharmacy number places) → (lines : List Line) × (b ≡ a ++ lines_text lines) × Tells pharmacy number lines old new
open_told pharmacy number places a b old new tells count told =
    (open_lines pharmacy number places, told, inr (inl (ap (open_lines pharmacy number) (count ∙ ap (places_asked number) tells.2), tells)))

-- no receipt
pub none_told : (pharmacy number : ℕ) (a b : List ℕ) (old new : Till) → TellsNone number old new → b ≡ a ++ line_text (refusal_line (codes "NotThisTill"))
    → (lines : List Line) × (b ≡ a ++ lines_text lines) × Tells pharmacy number lines old new
none_told pharmacy number a b old new tells told = (
  refusal_line (codes "NotThisTill") ∷ [],
  told ∙ ap (λ (t : List ℕ). a ++ t) (sym (lines_text-one (refusal_line (codes "NotThisTill")))),
  inr (inr (refl, tells)),
)
