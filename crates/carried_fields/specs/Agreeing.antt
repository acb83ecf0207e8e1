-- Whether what an advice rules is what a book rules.
use Rattle.std.specs.Prelude.{ℕ, Bool, true, false, ◌&&◌, ◌==◌, List, [], ◌∷◌, map, bytes_eq}
use Rattle.claim_profile.specs.declared.reject.Code.{Code}
use Rattle.claim_profile.specs.declared.ruling.Ruling.{Ruling}
use Rattle.claim_profile.specs.declared.ruling.Ruling.TheVariants.{Paid, Duplicate, Reversed, Rejected}
use Rattle.claim_profile.specs.Money.{Money}
use Rattle.claim_profile.specs.Reject.{code_text}

-- the same four amounts
abbrev pub same_money : Money → Money → Bool
same_money own said = own.cost == said.cost && own.fee == said.fee && own.copay == said.copay && own.total == said.total

-- the same texts in the same order
abbrev pub same_texts : List (List ℕ) → List (List ℕ) → Bool
same_texts [] [] = true
same_texts [] (text ∷ texts) = false
same_texts (own ∷ owns) [] = false
same_texts (own ∷ owns) (text ∷ texts) = bytes_eq own text && same_texts owns texts

-- whether a ruling says that this prescription is paid with these amounts, now or before
abbrev pub says_paid : ℕ → Money → Ruling → Bool
says_paid prescription amounts (Paid auth number money) = prescription == number && same_money amounts money
says_paid prescription amounts (Duplicate auth number money) = prescription == number && same_money amounts money
says_paid prescription amounts (Reversed auth number) = false
says_paid prescription amounts (Rejected rejects) = false

-- whether a ruling says that the payment of this prescription is reversed
abbrev pub says_reversed : ℕ → Ruling → Bool
says_reversed prescription (Paid auth number money) = false
says_reversed prescription (Duplicate auth number money) = false
says_reversed prescription (Reversed auth number) = prescription == number
says_reversed prescription (Rejected rejects) = false

-- whether a ruling rejects with these codes, in this order
abbrev pub says_rejected : List Code → Ruling → Bool
says_rejected rejects (Paid auth number money) = false
says_rejected rejects (Duplicate auth number money) = false
says_rejected rejects (Reversed auth number) = false
says_rejected rejects (Rejected codes) = same_texts (map code_text rejects) (map code_text codes)

-- whether an advice rules what a book rules; authorization numbers are not looked at
abbrev pub agrees : (own said : Ruling) → Bool
agrees (Paid auth prescription amounts) said = says_paid prescription amounts said
agrees (Duplicate auth prescription amounts) said = says_paid prescription amounts said
agrees (Reversed auth prescription) said = says_reversed prescription said
agrees (Rejected rejects) said = says_rejected rejects said

-- the same of each place
abbrev pub agreed : (own said : List Ruling) → List Bool
agreed [] said = []
agreed (r ∷ own) [] = []
agreed (r ∷ own) (x ∷ said) = agrees r x ∷ agreed own said
