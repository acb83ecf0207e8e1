-- What it says of fields that none of them is wrong.
use Rattle.std.proofs.Common.{◌≡◌, ◌≢◌, ℕ, zero, suc, ◌+◌, ◌-◌, ◌^◌, ◌≤◌, Bool, true, false, ◌||◌, List, [], ◌∷◌, length, nat_le, nat_lt, nat_eq, Option, Some, None, refl, ap, ◌∙◌, arith}
use Rattle.std.specs.Prelude.{replicate, if◌then◌else◌}
use Rattle.std.specs.List.{list_all}
use Rattle.std.proofs.lemmas.Bool.Decides.{nat_tests}
use Rattle.std.proofs.lemmas.Bool.{and_parts}
use Rattle.std.proofs.lemmas.List.{length-append, length-replicate}
use Rattle.std.proofs.lemmas.List.Folds.{list_all-append}
use Rattle.d0_header.specs.Field.{is_digit, is_plain, IsDigits, IsPlain}
use Rattle.d0_header.specs.Date.{is_calendar_date}
use Rattle.d0_segments.specs.Separators as separators
use Rattle.claim_profile.specs.Building.{IsText, ends_in_space, has_more_digits, has_separator}
use Rattle.message_making.specs.declared.judging.FieldFault.{FieldFault}
use Rattle.message_making.specs.declared.judging.WrongField.{WrongField}
use Rattle.message_making.specs.Texts.{padded}
use Rattle.message_making.specs.Judged.{are_digits, digits_fault, date_fault, plain_fault, text_fault, number_fault, in_field, first_of}

pub first_none : (one : Option WrongField) (rest : List (Option WrongField)) → first_of (one ∷ rest) ≡ None → (one ≡ None) × (first_of rest ≡ None)
first_none None rest none = (refl, none)
first_none (Some wrong) rest none = absurd cc

pub field_none : (number : ℕ) (fault : Option FieldFault) → in_field number fault ≡ None → fault ≡ None
field_none number None none = refl
field_none number (Some why) none = absurd cc

-- the first field is not wrong, and none of the others is
pub first_right : (number : ℕ) (fault : Option FieldFault) (rest : List (Option WrongField)) → first_of (in_field number fault ∷ rest) ≡ None → (fault ≡ None) × (first_of rest ≡ None)
first_right number fault rest none =
    let both = first_none (in_field number fault) rest none in
    (field_none number fault both.0, both.1)

-- a test that finds a fault has not found it
not_found : (test : Bool) (why : FieldFault) (later : Option FieldFault) → (if test then Some why else later) ≡ None → (test ≡ false) × (later ≡ None)
not_found false why later none = (refl, none)
not_found true why later none = absurd cc

passed : (test : Bool) (why : FieldFault) (later : Option FieldFault) → (if test then later else Some why) ≡ None → (test ≡ true) × (later ≡ None)
passed true why later none = (refl, none)
passed false why later none = absurd cc

pub digits_right : (width : ℕ) (text : List ℕ) → digits_fault width text ≡ None → IsDigits width text
digits_right width text none =
    let parts = and_parts (nat_eq (length text) width) (list_all is_digit text) ((passed (are_digits width text) _ _ none).0) in
    record { width = grind (arith, nat_tests, parts.0); digits = parts.1 }

pub date_right : (text : List ℕ) → date_fault text ≡ None → IsDigits 8 text × (is_calendar_date text ≡ true)
date_right text none =
    let digits = passed (are_digits 8 text) _ _ none in
    let parts = and_parts (nat_eq (length text) 8) (list_all is_digit text) digits.0 in
    (record { width = grind (arith, nat_tests, parts.0); digits = parts.1 }, (passed (is_calendar_date text) _ _ digits.1).0)

within : (width size : ℕ) → nat_lt width size ≡ false → size ≤ width
within width size few = grind (arith, nat_tests)

pub plain_right : (width : ℕ) (text : List ℕ) → plain_fault width text ≡ None → (length text ≤ width) × (has_separator text ≡ false)
plain_right width text none =
    let short = not_found (nat_lt width (length text)) _ _ none in
    (within width (length text) short.0, (not_found (has_separator text) _ _ short.1).0)

-- a byte that separates nothing may stand in a header
plain_byte : (b : ℕ) → separators.is_separator b ≡ false → is_plain b ≡ true
plain_byte b other = grind (arith, nat_tests)

none_of : (x y : Bool) → (x || y) ≡ false → (x ≡ false) × (y ≡ false)
none_of false y e = (refl, e)
none_of true y e = absurd cc

plain_all : (text : List ℕ) → has_separator text ≡ false → list_all is_plain text ≡ true
plain_all [] none = refl
plain_all (b ∷ bs) none =
    let parts = none_of (separators.is_separator b) (has_separator bs) none in
    rw (plain_byte b parts.0) (plain_all bs parts.1)

spaces_plain : (n : ℕ) → list_all is_plain (replicate n 32) ≡ true
spaces_plain zero = refl
spaces_plain (suc n) = spaces_plain n

-- a text with spaces after it is a field of a header
pub padded_plain : (width : ℕ) (text : List ℕ) → (length text ≤ width) × (has_separator text ≡ false) → IsPlain width (padded width text)
padded_plain width text right =
    let spaces : List ℕ = replicate (width - length text) 32 in
    let short : length text ≤ width = right.0 in
    record {
      width = length-append text spaces ∙ (ap (λ (n : ℕ). length text + n) (length-replicate {A = ℕ} (width - length text) 32) ∙ omega arith);
      plain = list_all-append is_plain text spaces ∙ rw (plain_all text right.1, spaces_plain (width - length text)) refl;
    }

-- a text that has to be there
pub record Right (width : ℕ) (text : List ℕ) : Type 0 where
  pub there : IsText text
  pub short : nat_lt width (length text) ≡ false
  pub plain : has_separator text ≡ false

filled : (text : List ℕ) → nat_eq (length text) 0 ≡ false → text ≢ []
filled [] some e = absurd cc
filled (b ∷ bs) some e = absurd cc

pub text_right : (width : ℕ) (text : List ℕ) → text_fault width text ≡ None → Right width text
text_right width text none =
    let there = not_found (nat_eq (length text) 0) _ _ none in
    let short = not_found (nat_lt width (length text)) _ _ there.1 in
    let plain = not_found (has_separator text) _ _ short.1 in
    let end = not_found (ends_in_space text) _ _ plain.1 in
    record { there = record { filled = filled text there.0; end = end.0 }; short = short.0; plain = plain.0 }

pub number_right : (digits number : ℕ) → number_fault digits number ≡ None → has_more_digits digits number ≡ false
number_right digits number none = (not_found (nat_le (10 ^ digits) number) _ _ none).0
