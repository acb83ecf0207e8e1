-- How the words of a line follow one another.
use Rattle.std.proofs.Common.{◌≡◌, ℕ, true, List, [], ◌∷◌, ◌++◌, refl, sym, ap, ◌∙◌, append-nil}
use Rattle.std.proofs.lemmas.Bool.{false≢true}
use Rattle.std.specs.Prelude.{codes, IfSome, IsSome, Option, Some, None, Result, Ok, Err, OnOk}
use Rattle.claim_profile.specs.Ruling.{AnswerParts, FailsAs}
use Rattle.claim_profile.specs.declared.answer_reading.AnswerFault.{AnswerFault}
use Rattle.claim_profile.specs.declared.answer_reading.AnswerFault.TheVariants as fault
use Rattle.claim_model.specs.declared.refusal.Refusal.{Refusal}
use Rattle.claim_model.specs.Refusal.{refusal_name}
use Rattle.world_report.specs.Words.{Line, behind_spaces, line_text, lines_text}
use Rattle.input_text.proofs.Joining.{lists_join}
use Rattle.world_report.proofs.JoinedWords.{lines_text-one}
use Rattle.schedule_run.specs.Told.{IsRefusal, answer_lines, is_unreadable, refusal_line}

-- more of the last word of a line
pub word_more : (a b c word more : List ℕ) → b ≡ a ++ behind_spaces (word ∷ []) → c ≡ b ++ more → c ≡ a ++ behind_spaces ((word ++ more) ∷ [])
unfolding behind_spaces
word_more a b c word more one two =
    lists_join a b c (behind_spaces (word ∷ [])) more one two
    ∙ ap (λ (t : List ℕ). a ++ (32 ∷ t)) (ap (λ (t : List ℕ). t ++ more) (append-nil word) ∙ sym (append-nil (word ++ more)))

-- the line of a refusal that is known
pub refusal_told : (known : Option Refusal) (a b : List ℕ) → IfSome known (λ why. b ≡ a ++ line_text (refusal_line (refusal_name why))) × IsSome known → (line : Line) × (b ≡ a ++ line_text line) × IsRefusal line
refusal_told None a b told = absurd (false≢true told.1)
refusal_told (Some why) a b told = (refusal_line (refusal_name why), told.0, (why, refl))

-- two facts of a call that ends well
pub on_ok_both : {T E : Type 0} (P Q : Type 0) (r : Result T E) → OnOk r P → OnOk r Q → OnOk r (P × Q)
on_ok_both P Q (Ok x) p q = (p, q)
on_ok_both P Q (Err e) p q = tt

-- an answer that cannot be read
pub unread_told : (pharmacy number : ℕ) (fault : AnswerFault) (reading : Result AnswerParts AnswerFault) → FailsAs fault reading → is_unreadable fault ≡ true
    → answer_lines pharmacy number reading ≡ refusal_line (codes "Unreadable") ∷ []
unread_told pharmacy number fault.OutOfMemory reading fails is = absurd (false≢true is)
unread_told pharmacy number fault.Framing reading fails is = ap (answer_lines pharmacy number) fails
unread_told pharmacy number fault.NoStatus reading fails is = ap (answer_lines pharmacy number) fails
unread_told pharmacy number fault.BadStatus reading fails is = ap (answer_lines pharmacy number) fails
unread_told pharmacy number fault.BadAmount reading fails is = ap (answer_lines pharmacy number) fails
unread_told pharmacy number fault.BadAuthorization reading fails is = ap (answer_lines pharmacy number) fails
unread_told pharmacy number fault.BadRejects reading fails is = ap (answer_lines pharmacy number) fails
unread_told pharmacy number fault.BadClaim reading fails is = ap (answer_lines pharmacy number) fails

-- its lines
pub unread_lines : (pharmacy number : ℕ) (a b : List ℕ) (fault : AnswerFault) (reading : Result AnswerParts AnswerFault) → FailsAs fault reading
    → (b ≡ a ++ line_text (refusal_line (codes "Unreadable"))) × (is_unreadable fault ≡ true) → b ≡ a ++ lines_text (answer_lines pharmacy number reading)
unread_lines pharmacy number a b fault reading fails told =
    told.0 ∙ (ap (λ (t : List ℕ). a ++ t) (sym (lines_text-one (refusal_line (codes "Unreadable"))))
    ∙ ap (λ (ls : List Line). a ++ lines_text ls) (sym (unread_told pharmacy number fault reading fails told.1)))
