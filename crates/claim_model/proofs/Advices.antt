-- What a book's answer says, an advice of the same bytes says too: no verdict and no consent has an authorization number.
use Rattle.std.proofs.Common.{◌≡◌, ℕ, zero, suc, List, [], ◌∷◌, map, Some, Result, Ok, Err, refl, ap, subst}
use Rattle.claim_profile.specs.declared.answer_reading.AnswerFault.{AnswerFault}
use Rattle.claim_profile.specs.Ruling.{AnswerParts, answer_of, advice_of}
use Rattle.claim_profile.specs.Unnamed.{unnamed, unnamed_parts}
use Rattle.claim_model.specs.Words.{Ruling, Paid, Duplicate, Reversed, Rejected, Answer}
use Rattle.claim_model.specs.Judgement.{verdict_in, consent_in}
use Rattle.claim_model.specs.Laws.{SaysSame}
use Rattle.claim_model.specs.Bytes.{answer_in}
use Rattle.claim_model.proofs.Options.{same_some}

abbrev pub AnswersAdvise : Type 0
AnswersAdvise = (bytes : List ℕ) (a : AnswerParts) → answer_of bytes ≡ Ok a → advice_of bytes ≡ Ok (unnamed_parts a)

verdict_same : (claimed : ℕ) (r : Ruling) → verdict_in claimed (Some (unnamed r)) ≡ verdict_in claimed (Some r)
verdict_same claimed (Paid auth prescription amounts) = refl
verdict_same claimed (Duplicate auth prescription amounts) = refl
verdict_same claimed (Reversed auth prescription) = refl
verdict_same claimed (Rejected codes) = refl

consent_same : (asked : ℕ) (r : Ruling) → consent_in asked (Some (unnamed r)) ≡ consent_in asked (Some r)
consent_same asked (Paid auth prescription amounts) = refl
consent_same asked (Duplicate auth prescription amounts) = refl
consent_same asked (Reversed auth prescription) = refl
consent_same asked (Rejected codes) = refl

says_same : (rs : List Ruling) → SaysSame (map unnamed rs) rs
says_same rs zero n = (refl, refl)
says_same [] (suc place) n = (refl, refl)
says_same (r ∷ rs) (suc zero) n = (verdict_same n r, consent_same n r)
says_same (r ∷ rs) (suc (suc place)) n = says_same rs (suc place) n

pub advised_so : AnswersAdvise → (bytes : List ℕ) (r : Result AnswerParts AnswerFault) (a : Answer) → answer_of bytes ≡ r → answer_in r ≡ Some a
    → (advice : Answer) × (answer_in (advice_of bytes) ≡ Some advice) × SaysSame advice.rulings a.rulings
advised_so law bytes (Err fault) a is e = absurd cc
advised_so law bytes (Ok parts) a is e = (
  record { header = parts.header; rulings = map unnamed parts.rulings },
  ap answer_in (law bytes parts is),
  subst (λ (x : Answer). SaysSame (map unnamed parts.rulings) x.rulings) (same_some _ a e) (says_same parts.rulings),
)
