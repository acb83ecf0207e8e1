-- What a field has to hold, in words.
use Rattle.std.specs.Prelude.{ℕ, List, codes, Option, None, Some}
use Rattle.claim_profile.specs.declared.transaction.TransactionCode.{TransactionCode}
use Rattle.claim_profile.specs.declared.transaction.TransactionCode.TheVariants.{Billing, Reversal}
use Rattle.message_parts.specs.declared.names.FieldName.{FieldName}
use Rattle.message_parts.specs.declared.names.FieldName.TheVariants as field

-- a fill number, which a reversal may leave out
abbrev pub wanted_fill : Option TransactionCode → List ℕ
wanted_fill (Some Billing) = codes "one number of 1 or 2 digits"
wanted_fill (Some Reversal) = codes "at most one number of 1 or 2 digits"
wanted_fill None = codes "nothing, under a code that is not carried"

-- a field of an order under a transaction code; no transaction is rejected for the other fields
abbrev pub wanted_in : FieldName → Option TransactionCode → List ℕ
wanted_in field.Cardholder code = codes "one text of 1 to 20 bytes"
wanted_in field.DateOfService code = codes "a day of the calendar, CCYYMMDD"
wanted_in field.PrescriptionQualifier code = codes "exactly 1"
wanted_in field.Prescription code = codes "one number of 1 to 12 digits"
wanted_in field.FillNumber code = wanted_fill code
wanted_in field.ProductQualifier code = codes "exactly 03"
wanted_in field.Product code = codes "one text of 1 to 19 bytes"
wanted_in field.Quantity code = codes "one number of 1 to 10 digits"
wanted_in field.IngredientCost code = codes "one amount that is not negative"
wanted_in field.DispensingFee code = codes "at most one amount that is not negative"
wanted_in field.TransactionCode code = codes "the code of a billing or a reversal"
wanted_in _ code = codes "another value"
