-- Fields of which none is wrong are those of a header, a billing or a reversal that the profile reads back.
use Rattle.std.proofs.Common.{◌≡◌, ℕ, pos, ◌^◌, ◌<◌, ◌≤◌, Bool, true, false, List, length, nat_le, nat_eq, None, T, refl, sym, subst, arith, codes}
use Rattle.std.proofs.lemmas.Bool.{le-leb}
use Rattle.std.proofs.lemmas.Bool.Decides.{nat_tests}
use Rattle.d0_header.specs.Field.{IsDigits, IsPlain}
use Rattle.d0_header.specs.Date.{is_calendar_date}
use Rattle.d0_header.specs.Request.{IsRequest}
use Rattle.claim_profile.specs.Building.{IsBilling, IsHeader, IsReversing, IsSubmitted, billing_fault, has_more_digits, has_separator, is_fill_too_long, part_fault, reversal_fault}
use Rattle.claim_profile.specs.declared.transaction.TransactionCode.TheVariants as kind
use Rattle.claim_profile.specs.Transaction.{code_bytes}
use Rattle.message_making.specs.declared.fields.PlainHeader.{PlainHeader}
use Rattle.message_making.specs.declared.fields.PlainBilling.{PlainBilling}
use Rattle.message_making.specs.declared.fields.PlainReversal.{PlainReversal}
use Rattle.message_making.specs.Texts.{text_in}
use Rattle.message_making.specs.Judged.{fill_fault, no_fill, wrong_in_billing, wrong_in_header, wrong_in_reversal}
use Rattle.message_making.specs.PlainFields.{billing_said, fill_said, header_said, reversal_said}
use Rattle.message_making.proofs.Sound.{Right, date_right, digits_right, first_none, first_right, number_right, padded_plain, plain_right, text_right}

-- none of the fields of a header is wrong
pub record RightHeader (h : PlainHeader) : Type 0 where
  pub bin : IsDigits 6 (text_in h.bin)
  pub pcn : (length (text_in h.pcn) ≤ 10) × (has_separator (text_in h.pcn) ≡ false)
  pub qualifier : (length (text_in h.qualifier) ≤ 2) × (has_separator (text_in h.qualifier) ≡ false)
  pub provider : (length (text_in h.provider) ≤ 15) × (has_separator (text_in h.provider) ≡ false)
  pub date : IsDigits 8 (text_in h.date)
  pub day : is_calendar_date (text_in h.date) ≡ true
  pub vendor : (length (text_in h.vendor) ≤ 10) × (has_separator (text_in h.vendor) ≡ false)

pub header_right : (h : PlainHeader) → wrong_in_header h ≡ None → RightHeader h
unfolding wrong_in_header
header_right h none =
    let bin = first_right _ _ _ none in
    let pcn = first_right _ _ _ bin.1 in
    let qualifier = first_right _ _ _ pcn.1 in
    let provider = first_right _ _ _ qualifier.1 in
    let date = first_right _ _ _ provider.1 in
    let vendor = first_right _ _ _ date.1 in
    let day = date_right (text_in h.date) date.0 in
    record {
      bin = digits_right 6 (text_in h.bin) bin.0;
      pcn = plain_right 10 (text_in h.pcn) pcn.0;
      qualifier = plain_right 2 (text_in h.qualifier) qualifier.0;
      provider = plain_right 15 (text_in h.provider) provider.0;
      date = day.0;
      day = day.1;
      vendor = plain_right 10 (text_in h.vendor) vendor.0;
    }

pub header_sound : (code : List ℕ) (h : PlainHeader) → IsPlain 2 code → RightHeader h → IsRequest (header_said code h)
unfolding header_said
header_sound code h plain right = record {
  bin = right.bin;
  version = record { width = refl; plain = refl };
  code = plain;
  pcn = padded_plain 10 (text_in h.pcn) right.pcn;
  least = omega arith;
  most = omega arith;
  qualifier = padded_plain 2 (text_in h.qualifier) right.qualifier;
  provider = padded_plain 15 (text_in h.provider) right.provider;
  date = right.date;
  vendor = padded_plain 10 (text_in h.vendor) right.vendor;
}

pub version_said : (code : List ℕ) (h : PlainHeader) → (header_said code h).version ≡ codes "D0"
unfolding header_said
version_said code h = refl

code_said : (code : List ℕ) (h : PlainHeader) → (header_said code h).code ≡ code
unfolding header_said
code_said code h = refl

count_said : (code : List ℕ) (h : PlainHeader) → (header_said code h).count ≡ 1
unfolding header_said
count_said code h = refl

day_said : (code : List ℕ) (h : PlainHeader) → is_calendar_date (text_in h.date) ≡ true → is_calendar_date (header_said code h).date ≡ true
unfolding header_said
day_said code h day = day

pub is_header : (code : List ℕ) (h : PlainHeader) → IsPlain 2 code → RightHeader h → IsHeader code (header_said code h)
is_header code h plain right = record { sound = header_sound code h plain right; code = code_said code h; count = count_said code h; date = day_said code h right.day }

submitted : (cents : ℕ) → has_more_digits 8 cents ≡ false → IsSubmitted (pos cents)
submitted cents few = record { amount = below cents few; not_negative = record { le = subst T (sym (le-leb 0 cents (omega arith))) tt } }
  where
    below : (n : ℕ) → nat_le (10 ^ 8) n ≡ false → n < 10 ^ 8
    below n few = grind (arith, nat_tests)

-- none of the fields of a billing is wrong
pub record RightBilling (b : PlainBilling) : Type 0 where
  pub header : RightHeader b.header
  pub wrong : wrong_in_header b.header ≡ None
  pub cardholder : Right 20 (text_in b.cardholder)
  pub prescription : has_more_digits 12 b.prescription ≡ false
  pub fill : has_more_digits 2 b.fill_number ≡ false
  pub product : Right 19 (text_in b.product)
  pub quantity : has_more_digits 10 b.quantity ≡ false
  pub cost : has_more_digits 8 b.cost ≡ false
  pub fee : has_more_digits 8 b.fee ≡ false

pub billing_right : (b : PlainBilling) → wrong_in_billing b ≡ None → RightBilling b
unfolding wrong_in_billing
billing_right b none =
    let header = first_none _ _ none in
    let cardholder = first_right _ _ _ header.1 in
    let prescription = first_right _ _ _ cardholder.1 in
    let fill = first_right _ _ _ prescription.1 in
    let product = first_right _ _ _ fill.1 in
    let quantity = first_right _ _ _ product.1 in
    let cost = first_right _ _ _ quantity.1 in
    let fee = first_right _ _ _ cost.1 in
    record {
      header = header_right b.header header.0;
      wrong = header.0;
      cardholder = text_right 20 (text_in b.cardholder) cardholder.0;
      prescription = number_right 12 b.prescription prescription.0;
      fill = number_right 2 b.fill_number fill.0;
      product = text_right 19 (text_in b.product) product.0;
      quantity = number_right 10 b.quantity quantity.0;
      cost = number_right 8 b.cost cost.0;
      fee = number_right 8 b.fee fee.0;
    }

billing_code : IsPlain 2 (code_bytes kind.Billing)
billing_code = record { width = refl; plain = refl }

reversal_code : IsPlain 2 (code_bytes kind.Reversal)
reversal_code = record { width = refl; plain = refl }

no_part : (a b : Bool) → a ≡ false → b ≡ false → part_fault a b ≡ None
no_part a b too_long separated = rw (too_long, separated) refl

billing_whole : (b : PlainBilling) → RightBilling b → billing_fault (billing_said b) ≡ None
unfolding billing_fault
billing_whole b right =
    no_part _ _ (rw (right.cardholder.short, right.prescription, right.fill, right.product.short, right.quantity) refl)
    (rw (right.cardholder.plain, right.product.plain) refl)

pub is_billing : (b : PlainBilling) → RightBilling b → IsBilling (billing_said b)
is_billing b right = record {
  header = is_header (code_bytes kind.Billing) b.header billing_code right.header;
  cardholder = right.cardholder.there;
  product = right.product.there;
  cost = submitted b.cost right.cost;
  fee = submitted b.fee right.fee;
  sound = billing_whole b right;
}

-- none of the fields of a reversal is wrong
pub record RightReversal (r : PlainReversal) : Type 0 where
  pub header : RightHeader r.header
  pub wrong : wrong_in_header r.header ≡ None
  pub prescription : has_more_digits 12 r.prescription ≡ false
  pub fill : fill_fault r.fill_number ≡ None
  pub product : Right 19 (text_in r.product)

pub reversal_right : (r : PlainReversal) → wrong_in_reversal r ≡ None → RightReversal r
unfolding wrong_in_reversal
reversal_right r none =
    let header = first_none _ _ none in
    let prescription = first_right _ _ _ header.1 in
    let fill = first_right _ _ _ prescription.1 in
    let product = first_right _ _ _ fill.1 in
    record {
      header = header_right r.header header.0;
      wrong = header.0;
      prescription = number_right 12 r.prescription prescription.0;
      fill = fill.0;
      product = text_right 19 (text_in r.product) product.0;
    }

fill_short : (fill : ℕ) → fill_fault fill ≡ None → is_fill_too_long (fill_said fill) ≡ false
fill_short fill none = by_test (nat_eq fill no_fill) refl none
  where
    by_test : (test : Bool) → nat_eq fill no_fill ≡ test → fill_fault fill ≡ None → is_fill_too_long (fill_said fill) ≡ false
    by_test true e none = rw e refl
    by_test false e none = rw e (number_right 2 fill (rw e at none))

reversal_whole : (r : PlainReversal) → RightReversal r → reversal_fault (reversal_said r) ≡ None
unfolding reversal_fault
reversal_whole r right = no_part _ _ (rw (right.prescription, fill_short r.fill_number right.fill, right.product.short) refl) right.product.plain

pub is_reversing : (r : PlainReversal) → RightReversal r → IsReversing (reversal_said r)
is_reversing r right = record {
  header = is_header (code_bytes kind.Reversal) r.header reversal_code right.header;
  product = right.product.there;
  sound = reversal_whole r right;
}
