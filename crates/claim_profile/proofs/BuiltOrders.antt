-- The orders of billings and reversals are their parts.
use Rattle.std.proofs.Common.{◌≡◌, ◌≢◌, ℕ, ℤ, pos, negsuc, ◌+◌, ◌/◌, ◌%◌, ◌^◌, ◌<◌, ◌≤◌, ◌≤ℤ◌, true, false, cond, List, [], ◌∷◌, ◌++◌, length, nat_le, nat_lt, slice_index, Option, Some, None, Ok, option_map, option_and_then, refl, ap, sym, ◌∙◌, arith}
use Rattle.std.specs.Result.{result_ok}
use Rattle.std.specs.Int.RustNames.{unsigned_abs}
use Rattle.std.proofs.lemmas.Bool.Decides.{nat_tests}
use Rattle.overpunch.specs.Number.{leading_digits, number_text, number_of}
use Rattle.overpunch.specs.Amount.{IsAmount, signed_digits, sign_of, amount_text, amount_of}
use Rattle.d0_header.specs.Request.{Request}
use Rattle.d0_header.specs.Date.{is_calendar_date}
use Rattle.claim_profile.specs.declared.order.Order.TheVariants as order
use Rattle.claim_profile.specs.Fields.{is_filled, trimmed, required, optional, values, fields_of}
use Rattle.claim_profile.specs.Order.{text_up_to, number_up_to, amount_in_cents, not_negative, day_of_service, claim_fields, reversal_fields, claim_of, reversal_of, order_as, order_of}
use Rattle.claim_profile.specs.Building.{Billing, IsBilling, billing_group, billing_parts, insurance_segment, billed_segment, submitted_segment, claim_billed, Reversing, IsReversing, reversal_group, reversal_parts, reversed_segment, reversal_asked, ends_in_space, IsText, IsSubmitted, has_more_digits, is_fill_too_long}
use Rattle.claim_profile.specs.declared.transaction.TransactionCode.TheVariants.{Billing as Billed, Reversal as Reversed}
use Rattle.claim_profile.proofs.TransactionLemmas.{coded}
use Rattle.claim_profile.proofs.OrderLemmas.{claim_order_ok, reversal_order_ok}
use Rattle.claim_profile.proofs.BuiltFrames.{billing_fits, reversal_fits}

-- what overpunch says of numbers and amounts that are read again
abbrev pub NumbersReadBack : Type 0
NumbersReadBack = (digits number : ℕ) → 1 ≤ digits → number < 10 ^ digits → number_of digits (number_text number) ≡ Ok number

abbrev pub AmountsReadBack : Type 0
AmountsReadBack = (cents : ℤ) → IsAmount cents → amount_of (amount_text cents) ≡ Ok cents

-- a text that ends in no space keeps its end
pub untouched : (text : List ℕ) → ends_in_space text ≡ false → trimmed text ≡ text
untouched [] e = refl
untouched (b ∷ []) e = ap (λ t. cond t [] (b ∷ [])) e
untouched (b ∷ c ∷ cs) e = rw (untouched (c ∷ cs) e) refl

pub filled_text : (text : List ℕ) → text ≢ [] → is_filled text ≡ true
filled_text [] e = absurd (e refl)
filled_text (b ∷ bs) e = refl

filled_end : (front : List ℕ) (last : ℕ) → is_filled (front ++ last ∷ []) ≡ true
filled_end [] last = refl
filled_end (b ∷ bs) last = refl

pub filled_number : (n : ℕ) → is_filled (number_text n) ≡ true
unfolding number_text
filled_number n = filled_end (leading_digits (n / 10)) (48 + n % 10)

pub filled_amount : (cents : ℤ) → is_filled (amount_text cents) ≡ true
unfolding amount_text
filled_amount cents = filled_end (leading_digits (unsigned_abs cents / 10)) (slice_index (signed_digits (sign_of cents)) (unsigned_abs cents % 10))

-- one value that is not empty and passes its test
one_value : {A : Type 0} (test : List ℕ → Option A) (value : List ℕ) (x : A) → is_filled value ≡ true → test value ≡ Some x → required test (cond (is_filled value) (value ∷ []) []) ≡ Some x
one_value test value x filled e = ap (λ t. required test (cond t (value ∷ []) [])) filled ∙ e

one_given : {A : Type 0} (absent : A) (test : List ℕ → Option A) (value : List ℕ) (x : A) → is_filled value ≡ true → test value ≡ Some x → optional absent test (cond (is_filled value) (value ∷ []) []) ≡ Some x
one_given absent test value x filled e = ap (λ t. optional absent test (cond t (value ∷ []) [])) filled ∙ e

-- the tests of the fields
pub number_read : NumbersReadBack → (digits n : ℕ) → 1 ≤ digits → has_more_digits digits n ≡ false → number_of digits (number_text n) ≡ Ok n
number_read reads digits n some few = reads digits n some (below (10 ^ digits) n few)
  where
    below : (end k : ℕ) → nat_le end k ≡ false → k < end
    below end k e = grind (arith, nat_tests)

number_passes : NumbersReadBack → (digits n : ℕ) → 1 ≤ digits → has_more_digits digits n ≡ false → number_up_to digits (number_text n) ≡ Some n
number_passes reads digits n some few = ap result_ok (number_read reads digits n some few)

text_passes : (limit : ℕ) (text : List ℕ) → nat_lt limit (length text) ≡ false → text_up_to limit text ≡ Some text
text_passes limit text e = ap (λ t. cond t (Some text) None) (fits (length text) e)
  where
    fits : (n : ℕ) → nat_lt limit n ≡ false → nat_le n limit ≡ true
    fits n h = grind (arith, nat_tests)

cents_of : (cents : ℤ) → pos 0 ≤ℤ cents → not_negative cents ≡ Some (unsigned_abs cents)
cents_of (pos n) h = refl
cents_of (negsuc n) h = absurd (omega (arith, h))

amount_passes : AmountsReadBack → (cents : ℤ) → IsSubmitted cents → amount_in_cents (amount_text cents) ≡ Some (unsigned_abs cents)
amount_passes reads cents is = ap (λ r. option_and_then not_negative (result_ok r)) (reads cents is.amount) ∙ cents_of cents is.not_negative

day_passes : (h : Request) → is_calendar_date h.date ≡ true → day_of_service h ≡ Some h.date
day_passes h e = ap (λ t. cond t (Some h.date) None) e

-- a text's one value
one_text : (limit : ℕ) (text : List ℕ) → IsText text → nat_lt limit (length text) ≡ false → required (text_up_to limit) (cond (is_filled (trimmed text)) (trimmed text ∷ []) []) ≡ Some text
one_text limit text is few = rw (untouched text is.end) (one_value (text_up_to limit) text text (filled_text text is.filled) (text_passes limit text few))

claim_fields_are : NumbersReadBack → AmountsReadBack → (b : Billing) → IsBilling b
    → record { cardholder = Some b.cardholder; date = Some b.header.date; prescription = Some b.prescription; fill = Some b.fill; product = Some b.product; quantity = Some b.quantity; cost = Some (unsigned_abs b.cost); fee = Some (unsigned_abs b.fee) }
    ≡ claim_fields b.header (billing_parts b).shared (billing_group b)
unfolding claim_fields values fields_of insurance_segment billed_segment submitted_segment
claim_fields_are numbers amounts b is =
    let fits = billing_fits b is.sound in
    λ i. record {
      cardholder = sym (one_text 20 b.cardholder is.cardholder fits.cardholder) i;
      date = sym (day_passes b.header is.header.date) i;
      prescription = sym (one_value (number_up_to 12) (number_text b.prescription) b.prescription (filled_number b.prescription) (number_passes numbers 12 b.prescription (omega arith) fits.prescription)) i;
      fill = sym (one_value (number_up_to 2) (number_text b.fill) b.fill (filled_number b.fill) (number_passes numbers 2 b.fill (omega arith) fits.fill)) i;
      product = sym (one_text 19 b.product is.product fits.product) i;
      quantity = sym (one_value (number_up_to 10) (number_text b.quantity) b.quantity (filled_number b.quantity) (number_passes numbers 10 b.quantity (omega arith) fits.quantity)) i;
      cost = sym (one_value amount_in_cents (amount_text b.cost) (unsigned_abs b.cost) (filled_amount b.cost) (amount_passes amounts b.cost is.cost)) i;
      fee = sym (one_given 0 amount_in_cents (amount_text b.fee) (unsigned_abs b.fee) (filled_amount b.fee) (amount_passes amounts b.fee is.fee)) i;
    }

pub billing_order : NumbersReadBack → AmountsReadBack → (b : Billing) → IsBilling b → order_of b.header (billing_parts b).shared (billing_group b) ≡ Ok (order.Claim (claim_billed b))
unfolding order_of claim_of
billing_order numbers amounts b is =
    ap (λ code. order_as code b.header (billing_parts b).shared (billing_group b)) (coded b.header.code Billed is.header.code)
    ∙ sym (claim_order_ok b.header (billing_parts b).shared (billing_group b) _ (order.Claim (claim_billed b)) (claim_fields_are numbers amounts b is) refl)

fill_passes : NumbersReadBack → (fill : ℕ) → has_more_digits 2 fill ≡ false → option_map (λ (n : ℕ). Some n) (number_up_to 2 (number_text fill)) ≡ Some (Some fill)
fill_passes numbers fill few = ap (option_map (λ (n : ℕ). Some n)) (number_passes numbers 2 fill (omega arith) few)

reversal_fields_are : NumbersReadBack → (h : Request) (prescription : ℕ) (fill : Option ℕ) (product : List ℕ) → is_calendar_date h.date ≡ true → has_more_digits 12 prescription ≡ false → is_fill_too_long fill ≡ false
    → record { date = Some h.date; prescription = Some prescription; fill = Some fill } ≡ reversal_fields h (reversed_segment prescription fill product ∷ [])
unfolding reversal_fields values fields_of reversed_segment
reversal_fields_are numbers h prescription None product day few fits = λ i. record {
  date = sym (day_passes h day) i;
  prescription = sym (one_value (number_up_to 12) (number_text prescription) prescription (filled_number prescription) (number_passes numbers 12 prescription (omega arith) few)) i;
  fill = Some None;
}
reversal_fields_are numbers h prescription (Some fill) product day few fits = λ i. record {
  date = sym (day_passes h day) i;
  prescription = sym (one_value (number_up_to 12) (number_text prescription) prescription (filled_number prescription) (number_passes numbers 12 prescription (omega arith) few)) i;
  fill = sym (one_given None (λ value. option_map (λ (n : ℕ). Some n) (number_up_to 2 value)) (number_text fill) (Some fill) (filled_number fill) (fill_passes numbers fill fits)) i;
}

pub reversal_order_is : NumbersReadBack → (r : Reversing) → IsReversing r → order_of r.header (reversal_parts r).shared (reversal_group r) ≡ Ok (order.Reversal (reversal_asked r))
unfolding order_of reversal_of
reversal_order_is numbers r is =
    let fits = reversal_fits r is.sound in
    ap (λ code. order_as code r.header (reversal_parts r).shared (reversal_group r)) (coded r.header.code Reversed is.header.code)
    ∙ sym (reversal_order_ok r.header (reversal_group r) _ (reversal_asked r) (reversal_fields_are numbers r.header r.prescription r.fill r.product is.header.date fits.prescription fits.fill) refl)
