-- What is wrong with the fields of a message: the first that is, by its number, and why.
use Rattle.std.specs.Prelude.{ℕ, ◌^◌, ◌==◌, ◌&&◌, nat_le, nat_lt, Bool, List, [], ◌∷◌, length, Option, Some, None, if◌then◌else◌}
use Rattle.std.specs.Option.{option_map}
use Rattle.std.specs.List.{list_all}
use Rattle.d0_header.specs.Field.{is_digit}
use Rattle.d0_header.specs.Date.{is_calendar_date}
use Rattle.claim_profile.specs.Building.{has_separator, ends_in_space}
use Rattle.message_making.specs.declared.fields.PlainHeader.{PlainHeader}
use Rattle.message_making.specs.declared.fields.PlainBilling.{PlainBilling}
use Rattle.message_making.specs.declared.fields.PlainReversal.{PlainReversal}
use Rattle.message_making.specs.declared.judging.FieldFault.{FieldFault}
use Rattle.message_making.specs.declared.judging.FieldFault.TheVariants.{Empty, TooLong, Separator, TrailingSpace, NotDigits, NoDay}
use Rattle.message_making.specs.declared.judging.WrongField.{WrongField}
use Rattle.message_making.specs.Texts.{text_in}

-- ---- one field

-- this many digits, and nothing else
abbrev pub are_digits : ℕ → List ℕ → Bool
are_digits width text = length text == width && list_all is_digit text

abbrev pub digits_fault : ℕ → List ℕ → Option FieldFault
digits_fault width text = if are_digits width text then None else Some NotDigits

-- eight digits that name a day
abbrev pub date_fault : List ℕ → Option FieldFault
date_fault text = if are_digits 8 text then (if is_calendar_date text then None else Some NoDay) else Some NotDigits

-- a text of at most this many bytes, none of them a separator
abbrev pub plain_fault : ℕ → List ℕ → Option FieldFault
plain_fault width text = if nat_lt width (length text) then Some TooLong else (if has_separator text then Some Separator else None)

-- the same of a text that is not empty, and ends in no space
abbrev pub end_fault : List ℕ → Option FieldFault
end_fault text = if ends_in_space text then Some TrailingSpace else None

abbrev pub text_fault : ℕ → List ℕ → Option FieldFault
text_fault width text =
    if length text == 0 then Some Empty else
    (if nat_lt width (length text) then Some TooLong else (if has_separator text then Some Separator else end_fault text))

-- a number below this one
abbrev pub below_fault : ℕ → ℕ → Option FieldFault
below_fault end number = if nat_le end number then Some TooLong else None

-- a number of at most this many digits
abbrev pub number_fault : ℕ → ℕ → Option FieldFault
number_fault digits number = below_fault (10 ^ digits) number

-- the number that says that a fill number is left out
abbrev pub no_fill : ℕ
no_fill = 255

abbrev pub fill_fault : ℕ → Option FieldFault
fill_fault fill = if fill == no_fill then None else number_fault 2 fill

-- ---- fields in the order of the message

-- a fault of the field of this number
abbrev pub in_field : ℕ → Option FieldFault → Option WrongField
in_field number fault = option_map (λ why. record { number = number; why = why }) fault

-- the first that is there
abbrev pub first_of : List (Option WrongField) → Option WrongField
first_of [] = None
first_of (Some wrong ∷ rest) = Some wrong
first_of (None ∷ rest) = first_of rest

unfoldable pub wrong_in_header : PlainHeader → Option WrongField
wrong_in_header h =
    first_of (in_field 101 (digits_fault 6 (text_in h.bin))
    ∷ in_field 104 (plain_fault 10 (text_in h.pcn))
    ∷ in_field 202 (plain_fault 2 (text_in h.qualifier))
    ∷ in_field 201 (plain_fault 15 (text_in h.provider))
    ∷ in_field 401 (date_fault (text_in h.date))
    ∷ in_field 110 (plain_fault 10 (text_in h.vendor))
    ∷ [])

-- the first wrong field of a billing
unfoldable pub wrong_in_billing : PlainBilling → Option WrongField
wrong_in_billing b =
    first_of (wrong_in_header b.header
    ∷ in_field 302 (text_fault 20 (text_in b.cardholder))
    ∷ in_field 402 (number_fault 12 b.prescription)
    ∷ in_field 403 (number_fault 2 b.fill_number)
    ∷ in_field 407 (text_fault 19 (text_in b.product))
    ∷ in_field 442 (number_fault 10 b.quantity)
    ∷ in_field 409 (number_fault 8 b.cost)
    ∷ in_field 412 (number_fault 8 b.fee)
    ∷ [])

-- the first wrong field of a reversal
unfoldable pub wrong_in_reversal : PlainReversal → Option WrongField
wrong_in_reversal r =
    first_of (wrong_in_header r.header
    ∷ in_field 402 (number_fault 12 r.prescription)
    ∷ in_field 403 (fill_fault r.fill_number)
    ∷ in_field 407 (text_fault 19 (text_in r.product))
    ∷ [])
