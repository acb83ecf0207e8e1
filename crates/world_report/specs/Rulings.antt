-- The words of rulings and of counted payments.
use Rattle.std.specs.Prelude.{ℕ, List, [], ◌∷◌, map, codes, decimal}
use Rattle.std.specs.List.{join_with_byte}
use Rattle.claim_profile.specs.Authorization.{authorization_text}
use Rattle.claim_profile.specs.Reject.{code_text}
use Rattle.claim_model.specs.Words.{Auth, Amounts, Code, Ruling, Paid, Duplicate, Reversed, Rejected}
use Rattle.claim_model.specs.Counted.{Counted}
use Rattle.world_report.specs.Words.{Line}

-- amounts in cents: ingredient cost (506-F6), dispensing fee (507-F7), the patient's part (505-F5) and the total (509-F9)
abbrev pub amount_words : Amounts → Line
amount_words m = decimal m.cost ∷ decimal m.fee ∷ decimal m.copay ∷ decimal m.total ∷ []

-- a payment: the sixteen digits of its authorization, and its amounts
abbrev pub payment_words : Auth → Amounts → Line
payment_words auth amounts = authorization_text auth ∷ amount_words amounts

-- reject codes with a comma between them
unfoldable pub codes_word : List Code → List ℕ
codes_word rejects = join_with_byte 44 (map code_text rejects)

-- a ruling: `P` or `D` and the payment, `A` and the authorization of the payment that was reversed, or `R` and the codes
abbrev pub ruling_words : Ruling → Line
ruling_words (Paid auth prescription amounts) = codes "P" ∷ payment_words auth amounts
ruling_words (Duplicate auth prescription amounts) = codes "D" ∷ payment_words auth amounts
ruling_words (Reversed auth prescription) = codes "A" ∷ authorization_text auth ∷ []
ruling_words (Rejected rejects) = codes "R" ∷ codes_word rejects ∷ []

-- the line of a payment that a pharmacy counts
abbrev pub paid_line : Counted → Line
paid_line c = codes "paid" ∷ payment_words c.auth c.amounts
