-- What is said of an answer.
use Rattle.std.specs.Prelude.{ℕ, ◌+◌, List, [], ◌∷◌, codes, Option, None, Some, Result, Ok, Err}
use Rattle.d0_segments.specs.declared.fault.FramingFault.{FramingFault}
use Rattle.d0_segments.specs.Framing.{framing_fault, response_kind}
use Rattle.claim_profile.specs.declared.answer_reading.AnswerFault.{AnswerFault}
use Rattle.claim_profile.specs.declared.answer_reading.AnswerFault.TheVariants as fault
use Rattle.claim_profile.specs.declared.ruling.Ruling.{Ruling}
use Rattle.claim_profile.specs.declared.ruling.Ruling.TheVariants as ruling
use Rattle.claim_profile.specs.Authorization.{Authorization, authorization_text}
use Rattle.claim_profile.specs.Money.{Money}
use Rattle.claim_profile.specs.Ruling.{AnswerParts, answer_of}
use Rattle.message_words.specs.declared.sentences.TheConstants.{DUPLICATE, NO_ANSWER, PAID, REJECTION, REVERSED}
use Rattle.message_words.specs.Facts.{Number, Dollars, Words, Printed, Codes, of_row, says_of, Sentence}
use Rattle.message_words.specs.FaultWords.{FaultTold, framing_said, told_of}
use Rattle.message_words.specs.Sayings.{Said}

-- ---- rulings

-- a payment, or one that was made before
abbrev pub payment : Sentence → ℕ → Authorization → (prescription : ℕ) → Money → Said
payment s transaction auth prescription m =
    says_of s (Number transaction ∷ Printed (authorization_text auth) ∷ Number prescription
    ∷ Dollars m.cost ∷ Dollars m.fee ∷ Dollars m.copay ∷ Dollars m.total ∷ [])

abbrev pub reversed : ℕ → Authorization → (prescription : ℕ) → Said
reversed transaction auth prescription = says_of (of_row REVERSED) (Number transaction ∷ Printed (authorization_text auth) ∷ Number prescription ∷ [])

abbrev pub ruling_said : ℕ → Ruling → Said
ruling_said transaction (ruling.Paid auth prescription amounts) = payment (of_row PAID) transaction auth prescription amounts
ruling_said transaction (ruling.Duplicate auth prescription amounts) = payment (of_row DUPLICATE) transaction auth prescription amounts
ruling_said transaction (ruling.Reversed auth prescription) = reversed transaction auth prescription
ruling_said transaction (ruling.Rejected rejects) = says_of (of_row REJECTION) (Number transaction ∷ Codes rejects ∷ [])

-- rulings about transactions that are numbered from here on
abbrev pub rulings_said : ℕ → List Ruling → List Said
rulings_said transaction [] = []
rulings_said transaction (r ∷ rs) = ruling_said transaction r ∷ rulings_said (transaction + 1) rs

-- ---- why a framed response reads as no answer

abbrev pub answer_told : AnswerFault → FaultTold
answer_told fault.OutOfMemory = told_of (codes "OutOfMemory") (codes "out of memory")
answer_told fault.Framing = told_of (codes "Framing") (codes "it is not framed as a response")
answer_told fault.NoStatus = told_of (codes "NoStatus") (codes "a transaction has not exactly one response status (112-AN)")
answer_told fault.BadStatus =
    told_of (codes "BadStatus") (codes "a response status (112-AN) is not P, D, A or R, or contradicts the header")
answer_told fault.BadAmount =
    told_of (codes "BadAmount") (codes "the amounts of a transaction are missing, no amounts or negative")
answer_told fault.BadAuthorization =
    told_of (codes "BadAuthorization") (codes "an authorization number (503-F3) is missing or none")
answer_told fault.BadRejects =
    told_of (codes "BadRejects") (codes "the reject codes are missing, no codes or not as many as their count (510-FA)")
answer_told fault.BadClaim =
    told_of (codes "BadClaim") (codes "a prescription number (402-D2) or its qualifier (455-EM) is missing or none")

abbrev pub answer_fault_said : FaultTold → Said
answer_fault_said f = says_of (of_row NO_ANSWER) (Words f.name ∷ Words f.words ∷ [])

-- ---- an answer

abbrev pub read_said : Result AnswerParts AnswerFault → List Said
read_said (Ok answer) = rulings_said 1 answer.rulings
read_said (Err fault) = answer_fault_said (answer_told fault) ∷ []

-- what is said of bytes at a place by their fault of framing, or by the answer that they are
abbrev pub response_said : ℕ → List ℕ → Option FramingFault → List Said
response_said place bytes (Some fault) = framing_said place bytes fault ∷ []
response_said place bytes None = read_said (answer_of bytes)

-- what is said of an answer that stands at a place of the message
unfoldable pub answer_said : ℕ → List ℕ → List Said
answer_said place bytes = response_said place bytes (framing_fault response_kind bytes)
