-- The groups of an answer are read as the rulings that they were written from.
use Rattle.std.proofs.Common.{◌≡◌, ℕ, ℤ, pos, ◌^◌, ◌<◌, ◌≤◌, true, List, [], ◌∷◌, ◌++◌, length, map, filter, nat_le, Option, Some, Result, Ok, codes, refl, ap, ◌∙◌, arith, eq-eqb}
use Rattle.std.specs.Prelude.{option_and_then}
use Rattle.std.specs.Result.{result_ok}
use Rattle.std.specs.Str.{bytes_eq}
use Rattle.std.specs.List.{AllByRecursion}
use Rattle.std.proofs.lemmas.Bool.Decides.{nat_tests}
use Rattle.overpunch.specs.Number.{number_of, number_text}
use Rattle.overpunch.specs.Amount.{IsAmount, amount_of, amount_text}
use Rattle.d0_header.specs.Request.{Request}
use Rattle.d0_header.specs.Response.{answer_to}
use Rattle.d0_segments.specs.Parts.{FieldParts, SegmentParts}
use Rattle.claim_profile.specs.declared.reject.Code.{Code}
use Rattle.claim_profile.specs.declared.ruling.Ruling.{Ruling}
use Rattle.claim_profile.specs.declared.ruling.Ruling.TheVariants.{Paid, Duplicate, Reversed, Rejected}
use Rattle.claim_profile.specs.declared.ruling.HeaderStatus.{HeaderStatus}
use Rattle.claim_profile.specs.declared.ruling.HeaderStatus.TheVariants as header
use Rattle.claim_profile.specs.declared.answer_status.Status.TheVariants as status
use Rattle.claim_profile.specs.declared.answer_reading.Speaker.TheVariants as speaker
use Rattle.claim_profile.specs.declared.answer_reading.AnswerFault.TheVariants.{BadAmount, BadAuthorization, BadRejects, BadClaim}
use Rattle.claim_profile.specs.Authorization.{Authorization, IsAuthorization, authorization_text, authorization_of}
use Rattle.claim_profile.specs.Money.{Money, IsMoney, largest}
use Rattle.claim_profile.specs.Reject.{code_text}
use Rattle.claim_profile.specs.Fields.{is_filled, values, fields_of, required, untrimmed}
use Rattle.claim_profile.specs.Order.{number_up_to, not_negative, amount_in_cents}
use Rattle.claim_profile.specs.Answer.{status_byte_of, status_segment, claim_segment, pricing_segment, code_field, reject_segment, ruling_segments, IsPrescription, StandsBeside}
use Rattle.claim_profile.specs.Ruling.{or_fault, status_in, authorization_in, claim_in, money_of, amount_at, money_in, IsCode, codes_of, counted_codes, rejects_in, payment_in, reversal_in, ruling_in}
use Rattle.claim_profile.specs.Answering.{AreRejects, IsConstructible}
use Rattle.claim_profile.proofs.PaddedNumbers.{length-authorization_text, authorization_reads}
use Rattle.claim_profile.proofs.PlainTexts.{number_fits, amount_fits}
use Rattle.claim_profile.proofs.CodeLemmas.{code_parts}

abbrev pub NumbersReadBack : Type 0
NumbersReadBack = (digits number : ℕ) → 1 ≤ digits → number < 10 ^ digits → number_of digits (number_text number) ≡ Ok number

abbrev pub AmountsReadBack : Type 0
AmountsReadBack = (cents : ℤ) → IsAmount cents → amount_of (amount_text cents) ≡ Ok cents

-- ---- one value

-- a field that stands once, with a value that passes its test
one_value : {A : Type 0} (test : List ℕ → Option A) (v : List ℕ) (a : A) → 0 < length v → test v ≡ Some a → required test (filter is_filled (v ∷ [])) ≡ Some a
one_value test [] a some e = absurd (omega arith)
one_value test (b ∷ bs) a some e = e

number_value_read : NumbersReadBack → (digits n : ℕ) → 1 ≤ digits → n < 10 ^ digits → required (number_up_to digits) (filter is_filled (number_text n ∷ [])) ≡ Some n
number_value_read numbers digits n some below =
    let e = numbers digits n some below in
    one_value (number_up_to digits) (number_text n) n (number_fits digits (number_text n) n e).some (ap result_ok e)

amount_value_read : AmountsReadBack → (n : ℕ) → n ≤ largest → required amount_in_cents (filter is_filled (amount_text (pos n) ∷ [])) ≡ Some n
amount_value_read amounts n few =
    let e = amounts (pos n) (omega arith) in
    one_value amount_in_cents (amount_text (pos n)) n (amount_fits (amount_text (pos n)) (pos n) e).some (ap (λ (r : Result ℤ Rattle.overpunch.specs.declared.amount.AmountFault.AmountFault). option_and_then not_negative (result_ok r)) e)

authorization_value_read : (a : Authorization) → IsAuthorization a.payer a.serial → required authorization_of (filter is_filled (authorization_text a ∷ [])) ≡ Some a
authorization_value_read a is = one_value authorization_of (authorization_text a) a (omega (arith, length-authorization_text a)) (authorization_reads a is)

-- ---- payments and reversals

abbrev payment_group : (status : List ℕ) → Authorization → ℕ → Money → List SegmentParts
payment_group status auth prescription amounts = status_segment status auth ∷ claim_segment prescription ∷ pricing_segment amounts ∷ []

abbrev reversal_group : Authorization → ℕ → List SegmentParts
reversal_group auth prescription = status_segment (codes "A") auth ∷ claim_segment prescription ∷ []

payment_authorization : (status : List ℕ) (auth : Authorization) (prescription : ℕ) (amounts : Money) → IsAuthorization auth.payer auth.serial
    → authorization_in speaker.Book (payment_group status auth prescription amounts) ≡ Ok auth
unfolding fields_of values status_segment claim_segment pricing_segment
payment_authorization status auth prescription amounts is = ap (or_fault BadAuthorization) (authorization_value_read auth is)

payment_claim : NumbersReadBack → (status : List ℕ) (auth : Authorization) (prescription : ℕ) (amounts : Money) → IsPrescription prescription
    → claim_in (payment_group status auth prescription amounts) ≡ Ok prescription
unfolding fields_of values status_segment claim_segment pricing_segment
payment_claim numbers status auth prescription amounts is = ap (or_fault BadClaim) (number_value_read numbers 12 prescription (omega arith) is)

reversal_authorization : (auth : Authorization) (prescription : ℕ) → IsAuthorization auth.payer auth.serial → authorization_in speaker.Book (reversal_group auth prescription) ≡ Ok auth
unfolding fields_of values status_segment claim_segment
reversal_authorization auth prescription is = ap (or_fault BadAuthorization) (authorization_value_read auth is)

reversal_claim : NumbersReadBack → (auth : Authorization) (prescription : ℕ) → IsPrescription prescription → claim_in (reversal_group auth prescription) ≡ Ok prescription
unfolding fields_of values status_segment claim_segment
reversal_claim numbers auth prescription is = ap (or_fault BadClaim) (number_value_read numbers 12 prescription (omega arith) is)

-- four amounts that are there
money_there : (cost fee copay total : Option ℕ) (m : Money) → cost ≡ Some m.cost → fee ≡ Some m.fee → copay ≡ Some m.copay → total ≡ Some m.total
    → or_fault BadAmount (money_of cost fee copay total) ≡ Ok m
money_there cost fee copay total m c f p t = rw (c, f, p, t) refl

payment_money : AmountsReadBack → (status : List ℕ) (auth : Authorization) (prescription : ℕ) (m : Money) → IsMoney m → money_in speaker.Book (payment_group status auth prescription m) ≡ Ok m
unfolding fields_of values status_segment claim_segment pricing_segment
payment_money amounts status auth prescription m is =
    let group = payment_group status auth prescription m in
    money_there (amount_at (codes "F6") group) (amount_at (codes "F7") group) (amount_at (codes "F5") group) (amount_at (codes "F9") group) m
    (amount_value_read amounts m.cost is.cost) (amount_value_read amounts m.fee is.fee) (amount_value_read amounts m.copay is.copay) (amount_value_read amounts m.total is.total)

-- parts that are there, one after another
payment_of_parts : (paid : Authorization → ℕ → Money → Ruling) (group : List SegmentParts) (auth : Authorization) (prescription : ℕ) (m : Money)
    → authorization_in speaker.Book group ≡ Ok auth → claim_in group ≡ Ok prescription → money_in speaker.Book group ≡ Ok m → payment_in speaker.Book paid group ≡ Ok (paid auth prescription m)
payment_of_parts paid group auth prescription m a c p = rw (a, c, p) refl

reversal_of_parts : (group : List SegmentParts) (auth : Authorization) (prescription : ℕ) → authorization_in speaker.Book group ≡ Ok auth → claim_in group ≡ Ok prescription → reversal_in speaker.Book group ≡ Ok (Reversed auth prescription)
reversal_of_parts group auth prescription a c = rw (a, c) refl

-- ---- rejections

filled : (text : List ℕ) → 1 ≤ length text → is_filled text ≡ true
filled [] some = absurd (omega arith)
filled (b ∷ text) some = refl

filled_codes : (rejects : List Code) → AllByRecursion IsCode rejects → filter is_filled (map code_text rejects) ≡ map code_text rejects
filled_codes [] are = refl
filled_codes (code ∷ rejects) are = rw (filled (code_text code) (code_parts code are.0).some, filled_codes rejects are.1) refl

codes_read : (rejects : List Code) → AllByRecursion IsCode rejects → codes_of (map code_text rejects) ≡ Some rejects
codes_read [] are = refl
codes_read (code ∷ rejects) are = rw (are.0, codes_read rejects are.1) refl

-- the fields of the codes, and what stands after the segment
code_values : (rejects : List Code) → map (λ (f : FieldParts). untrimmed f.value) (filter (λ (f : FieldParts). bytes_eq f.id (codes "FB")) (map code_field rejects ++ [])) ≡ map code_text rejects
code_values [] = refl
code_values (code ∷ rejects) = ap (λ (vs : List (List ℕ)). code_text code ∷ vs) (code_values rejects)

no_counts : (rejects : List Code) → filter (λ (f : FieldParts). bytes_eq f.id (codes "FA")) (map code_field rejects ++ []) ≡ []
no_counts [] = refl
no_counts (code ∷ rejects) = no_counts rejects

no_statuses : (rejects : List Code) → filter (λ (f : FieldParts). bytes_eq f.id (codes "AN")) (map code_field rejects ++ []) ≡ []
no_statuses [] = refl
no_statuses (code ∷ rejects) = no_statuses rejects

tallied : (rejects : List Code) → 1 ≤ length rejects → length rejects ≤ 5 → counted_codes (Some (length rejects)) (Some rejects) ≡ Some rejects
tallied rejects some few = rw (le_yes 1 (length rejects) some, le_yes (length rejects) 5 few, eq-eqb (length rejects) (length rejects) refl) refl
  where
    le_yes : (m n : ℕ) → m ≤ n → nat_le m n ≡ true
    le_yes m n h = grind (arith, nat_tests)

rejects_there : (count : Option ℕ) (found : Option (List Code)) (rejects : List Code) → 1 ≤ length rejects → length rejects ≤ 5 → count ≡ Some (length rejects) → found ≡ Some rejects
    → or_fault BadRejects (counted_codes count found) ≡ Ok rejects
rejects_there count found rejects some few c f = rw (c, f, tallied rejects some few) refl

rejects_read : NumbersReadBack → (rejects : List Code) → AreRejects rejects → rejects_in (reject_segment rejects ∷ []) ≡ Ok rejects
unfolding fields_of values reject_segment
rejects_read numbers rejects are =
    let few : length rejects ≤ 5 = are.1 in
    rejects_there _ _ rejects are.0 are.1
    (ap (λ (fs : List FieldParts). required (number_up_to 2) (filter is_filled (number_text (length rejects) ∷ map (λ (f : FieldParts). untrimmed f.value) fs))) (no_counts rejects)
    ∙ number_value_read numbers 2 (length rejects) (omega arith) (omega arith))
    (ap codes_of (ap (filter is_filled) (code_values rejects) ∙ filled_codes rejects are.2) ∙ codes_read rejects are.2)

-- ---- rulings

status_of_rejection : (h : Request) (s : HeaderStatus) (rejects : List Code) → status_in speaker.Book (answer_to h (status_byte_of s)) (reject_segment rejects ∷ []) ≡ Ok status.Rejected
unfolding fields_of values reject_segment
status_of_rejection h header.Accepted rejects = rw (no_statuses rejects) refl
status_of_rejection h header.Rejected rejects = rw (no_statuses rejects) refl

status_of_payment : (h : Request) (auth : Authorization) (prescription : ℕ) (m : Money) → status_in speaker.Book (answer_to h 65) (payment_group (codes "P") auth prescription m) ≡ Ok status.Paid
unfolding fields_of values status_segment claim_segment pricing_segment
status_of_payment h auth prescription m = refl

status_of_duplicate : (h : Request) (auth : Authorization) (prescription : ℕ) (m : Money) → status_in speaker.Book (answer_to h 65) (payment_group (codes "D") auth prescription m) ≡ Ok status.Duplicate
unfolding fields_of values status_segment claim_segment pricing_segment
status_of_duplicate h auth prescription m = refl

status_of_reversal : (h : Request) (auth : Authorization) (prescription : ℕ) → status_in speaker.Book (answer_to h 65) (reversal_group auth prescription) ≡ Ok status.Reversed
unfolding fields_of values status_segment claim_segment
status_of_reversal h auth prescription = refl

-- each ruling is read from its own segments
pub ruling_read : NumbersReadBack → AmountsReadBack → (h : Request) (s : HeaderStatus) (r : Ruling) → IsConstructible r → StandsBeside s r → ruling_in speaker.Book (answer_to h (status_byte_of s)) (ruling_segments r) ≡ Ok r
unfolding ruling_in
ruling_read numbers amounts h header.Accepted (Paid auth prescription m) made beside =
    rw (status_of_payment h auth prescription m)
    (payment_of_parts Paid _ auth prescription m (payment_authorization (codes "P") auth prescription m made.0) (payment_claim numbers (codes "P") auth prescription m made.1) (payment_money amounts (codes "P") auth prescription m made.2))
ruling_read numbers amounts h header.Accepted (Duplicate auth prescription m) made beside =
    rw (status_of_duplicate h auth prescription m)
    (payment_of_parts Duplicate _ auth prescription m (payment_authorization (codes "D") auth prescription m made.0) (payment_claim numbers (codes "D") auth prescription m made.1) (payment_money amounts (codes "D") auth prescription m made.2))
ruling_read numbers amounts h header.Accepted (Reversed auth prescription) made beside =
    rw (status_of_reversal h auth prescription)
    (reversal_of_parts _ auth prescription (reversal_authorization auth prescription made.0) (reversal_claim numbers auth prescription made.1))
ruling_read numbers amounts h header.Accepted (Rejected rejects) made beside = rw (status_of_rejection h header.Accepted rejects, rejects_read numbers rejects made) refl
ruling_read numbers amounts h header.Rejected (Paid auth prescription m) made beside = absurd beside
ruling_read numbers amounts h header.Rejected (Duplicate auth prescription m) made beside = absurd beside
ruling_read numbers amounts h header.Rejected (Reversed auth prescription) made beside = absurd beside
ruling_read numbers amounts h header.Rejected (Rejected rejects) made beside = rw (status_of_rejection h header.Rejected rejects, rejects_read numbers rejects made) refl
