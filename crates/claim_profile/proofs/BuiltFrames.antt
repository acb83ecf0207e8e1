-- Billings and reversals are framed: no separator stands in their fields.
use Rattle.std.proofs.Common.{◌≡◌, ℕ, ℤ, pos, negsuc, Bool, true, false, not, ◌&&◌, ◌||◌, List, [], ◌∷◌, length, nat_lt, Option, Some, None, refl, ap, ◌∙◌, arith}
use Rattle.overpunch.specs.Amount.{amount_text}
use Rattle.d0_segments.specs.Separators.{is_separator, is_plain}
use Rattle.d0_segments.specs.Parts.{are_segments, are_groups}
use Rattle.d0_segments.specs.Framing.{IsRequestFramed}
use Rattle.claim_profile.specs.Building.{Billing, IsBilling, billing_group, billing_parts, insurance_segment, billed_segment, submitted_segment, Reversing, IsReversing, reversal_parts, reversed_segment, IsSubmitted, has_more_digits, has_separator, is_fill_too_long, is_billing_too_long, is_reversal_too_long, part_fault, billing_fault, reversal_fault}
use Rattle.claim_profile.proofs.PlainTexts.{number_plain, amount_plain}
use Rattle.d0_segments.proofs.Walking.{neither}

pub not_either : (a b : Bool) → (not a && not b) ≡ not (a || b)
not_either true b = refl
not_either false b = refl

-- a text is plain where no byte of it is a separator
plain_is : (text : List ℕ) → is_plain text ≡ not (has_separator text)
plain_is [] = refl
plain_is (b ∷ bs) = ap (λ p. not (is_separator b) && p) (plain_is bs) ∙ not_either (is_separator b) (has_separator bs)

plain_without : (text : List ℕ) → has_separator text ≡ false → is_plain text ≡ true
plain_without text e = plain_is text ∙ ap not e

plain_submitted : (cents : ℤ) → IsSubmitted cents → is_plain (amount_text cents) ≡ true
plain_submitted (pos n) is = amount_plain n
plain_submitted (negsuc n) is = absurd (omega (arith, is.not_negative))

-- neither test of parts without a fault holds
no_fault : (too_long with_separator : Bool) → part_fault too_long with_separator ≡ None → (too_long ≡ false) × (with_separator ≡ false)
no_fault true with_separator e = absurd cc
no_fault false true e = absurd cc
no_fault false false e = (refl, refl)

-- the parts of a billing, one by one
pub record BillingFits (b : Billing) : Type 0 where
  pub cardholder : nat_lt 20 (length b.cardholder) ≡ false
  pub prescription : has_more_digits 12 b.prescription ≡ false
  pub fill : has_more_digits 2 b.fill ≡ false
  pub product : nat_lt 19 (length b.product) ≡ false
  pub quantity : has_more_digits 10 b.quantity ≡ false
  pub plain_cardholder : is_plain b.cardholder ≡ true
  pub plain_product : is_plain b.product ≡ true

pub billing_fits : (b : Billing) → billing_fault b ≡ None → BillingFits b
unfolding billing_fault
billing_fits b e =
    let sound = no_fault (is_billing_too_long b) (has_separator b.cardholder || has_separator b.product) e in
    let four = neither (nat_lt 20 (length b.cardholder) || has_more_digits 12 b.prescription || has_more_digits 2 b.fill || nat_lt 19 (length b.product)) (has_more_digits 10 b.quantity) sound.0 in
    let three = neither (nat_lt 20 (length b.cardholder) || has_more_digits 12 b.prescription || has_more_digits 2 b.fill) (nat_lt 19 (length b.product)) four.0 in
    let two = neither (nat_lt 20 (length b.cardholder) || has_more_digits 12 b.prescription) (has_more_digits 2 b.fill) three.0 in
    let one = neither (nat_lt 20 (length b.cardholder)) (has_more_digits 12 b.prescription) two.0 in
    let texts = neither (has_separator b.cardholder) (has_separator b.product) sound.1 in
    record {
      cardholder = one.0;
      prescription = one.1;
      fill = two.1;
      product = three.1;
      quantity = four.1;
      plain_cardholder = plain_without b.cardholder texts.0;
      plain_product = plain_without b.product texts.1;
    }

-- the parts of a reversal, one by one
pub record ReversalFits (r : Reversing) : Type 0 where
  pub prescription : has_more_digits 12 r.prescription ≡ false
  pub fill : is_fill_too_long r.fill ≡ false
  pub product : nat_lt 19 (length r.product) ≡ false
  pub plain_product : is_plain r.product ≡ true

pub reversal_fits : (r : Reversing) → reversal_fault r ≡ None → ReversalFits r
unfolding reversal_fault
reversal_fits r e =
    let sound = no_fault (is_reversal_too_long r) (has_separator r.product) e in
    let two = neither (has_more_digits 12 r.prescription || is_fill_too_long r.fill) (nat_lt 19 (length r.product)) sound.0 in
    let one = neither (has_more_digits 12 r.prescription) (is_fill_too_long r.fill) two.0 in
    record { prescription = one.0; fill = one.1; product = two.1; plain_product = plain_without r.product sound.1 }

insurance_framed : (cardholder : List ℕ) → is_plain cardholder ≡ true → are_segments (insurance_segment cardholder ∷ []) ≡ true
unfolding insurance_segment
insurance_framed cardholder plain = rw plain refl

billed_framed : (b : Billing) → is_plain b.product ≡ true → IsSubmitted b.cost → IsSubmitted b.fee → are_groups (billing_group b ∷ []) ≡ true
unfolding billed_segment submitted_segment
billed_framed b plain cost fee = rw (number_plain b.prescription, number_plain b.fill, plain, number_plain b.quantity, plain_submitted b.cost cost, plain_submitted b.fee fee) refl

reversed_framed : (prescription : ℕ) (fill : Option ℕ) (product : List ℕ) → is_plain product ≡ true → are_groups ((reversed_segment prescription fill product ∷ []) ∷ []) ≡ true
unfolding reversed_segment
reversed_framed prescription (Some fill) product plain = rw (number_plain prescription, number_plain fill, plain) refl
reversed_framed prescription None product plain = rw (number_plain prescription, plain) refl

pub billing_framed : (b : Billing) → IsBilling b → IsRequestFramed (billing_parts b)
billing_framed b is =
    let fits = billing_fits b is.sound in
    record { header = is.header.sound; shared = insurance_framed b.cardholder fits.plain_cardholder; groups = billed_framed b fits.plain_product is.cost is.fee; count = is.header.count }

pub reversal_framed : (r : Reversing) → IsReversing r → IsRequestFramed (reversal_parts r)
reversal_framed r is =
    let fits = reversal_fits r is.sound in
    record { header = is.header.sound; shared = refl; groups = reversed_framed r.prescription r.fill r.product fits.plain_product; count = is.header.count }
