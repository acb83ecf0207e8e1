-- Every cause for which a transaction is rejected, and not the first five alone.
use Rattle.std.specs.Prelude.{ℕ, Bool, true, List, [], ◌∷◌, map, filter, codes, slice_index_or, if◌then◌else◌}
use Rattle.std.specs.Prelude.{Option, Some, None, is_none, is_some, option_map}
use Rattle.d0_header.specs.Request.{Request}
use Rattle.d0_segments.specs.Parts.{SegmentParts, TransmissionParts}
use Rattle.claim_profile.specs.declared.reject.Code.{Code}
use Rattle.claim_profile.specs.declared.reject.Code.TheVariants as code
use Rattle.claim_profile.specs.declared.transaction.TransactionCode.{TransactionCode}
use Rattle.claim_profile.specs.declared.transaction.TransactionCode.TheVariants as transaction
use Rattle.claim_profile.specs.Transaction.{transaction_code}
use Rattle.claim_profile.specs.Fields.{values_in, texts_in, required, optional}
use Rattle.claim_profile.specs.Order.{text_up_to, number_up_to, amount_in_cents, the_text, day_of_service}
use Rattle.claim_profile.specs.Tally.{Tally, Absent, tallied}
use Rattle.message_parts.specs.declared.causes.Cause.{Cause}
use Rattle.message_parts.specs.declared.names.FieldName.{FieldName}
use Rattle.message_parts.specs.declared.names.FieldName.TheVariants as field
use Rattle.message_parts.specs.Found.{found_seen}

-- a cause: the code that tells it, the field, and what stands there
pub record CauseSeen : Type 0 where
  pub code : Code
  pub field : FieldName
  pub found : Tally

-- the code that tells of a field that is not good
abbrev pub code_for : FieldName → Code
code_for field.Cardholder = code.Cardholder
code_for field.DateOfService = code.DateOfService
code_for field.PrescriptionQualifier = code.Prescription
code_for field.Prescription = code.Prescription
code_for field.FillNumber = code.FillNumber
code_for field.ProductQualifier = code.Product
code_for field.Product = code.Product
code_for field.Quantity = code.Quantity
code_for field.IngredientCost = code.IngredientCost
code_for field.DispensingFee = code.DispensingFee
code_for _ = code.NotCovered

-- a cause of the code, without the place of its value in memory
abbrev pub cause_seen : Cause → CauseSeen
cause_seen c = record { code = code_for c.field; field = c.field; found = found_seen c.found }

abbrev pub causes_seen : List Cause → List CauseSeen
causes_seen causes = map cause_seen causes

-- whether something is wrong, and the cause that it then is
abbrev pub Condition : Type 0
Condition = Bool × CauseSeen

abbrev pub condition_seen : Bool × Cause → Condition
condition_seen c = (c.0, cause_seen c.1)

-- the condition of what was counted of a field
abbrev pub counted : Bool → FieldName → Tally → Condition
counted holds field found = (holds, record { code = code_for field; field = field; found = found })

-- the condition of a field with these values
abbrev pub condition : Bool → Code → FieldName → List (List ℕ) → Condition
condition holds code field values = (holds, record { code = code; field = field; found = tallied Absent values })

-- a required field that is not good
abbrev pub unless_required : {A : Type 0} → Code → FieldName → (List ℕ → Option A) → List (List ℕ) → Condition
unless_required code field test values = condition (is_none (required test values)) code field values

-- an optional field that is not good
abbrev pub unless_optional : {A : Type 0} → Code → FieldName → A → (List ℕ → Option A) → List (List ℕ) → Condition
unless_optional code field absent test values = condition (is_none (optional absent test values)) code field values

-- a condition beside a qualifier: where that is another one, it is the cause
abbrev pub qualified : Code → List ℕ → FieldName → List (List ℕ) → Condition → Condition
qualified code expected qualifier qualifiers other =
    if is_some (required (the_text expected) qualifiers) then other else condition true code qualifier qualifiers

-- a required field beside its qualifier
abbrev pub unless_qualified : {A : Type 0} → Code → List ℕ → FieldName → List (List ℕ)
    → FieldName → (List ℕ → Option A) → List (List ℕ) → Condition
unless_qualified code expected qualifier qualifiers field test values =
    qualified code expected qualifier qualifiers (unless_required code field test values)

-- ---- the conditions, in the order in which their codes are told

unfoldable pub cardholder_condition : List SegmentParts → Condition
cardholder_condition shared =
    unless_required code.Cardholder field.Cardholder (text_up_to 20) (texts_in (codes "04") (codes "C2") shared)

-- the date stands in the header, so nothing is found of it in segments
unfoldable pub date_condition : Request → Condition
date_condition h =
    (is_none (day_of_service h), record { code = code.DateOfService; field = field.DateOfService; found = Absent })

unfoldable pub prescription_condition : List SegmentParts → Condition
prescription_condition group =
    unless_qualified code.Prescription (codes "1") field.PrescriptionQualifier (texts_in (codes "07") (codes "EM") group)
    field.Prescription (number_up_to 12) (values_in (codes "07") (codes "D2") group)

unfoldable pub fill_condition : List SegmentParts → Condition
fill_condition group =
    unless_required code.FillNumber field.FillNumber (number_up_to 2) (values_in (codes "07") (codes "D3") group)

unfoldable pub product_condition : List SegmentParts → Condition
product_condition group =
    unless_qualified code.Product (codes "03") field.ProductQualifier (texts_in (codes "07") (codes "E1") group)
    field.Product (text_up_to 19) (texts_in (codes "07") (codes "D7") group)

unfoldable pub quantity_condition : List SegmentParts → Condition
quantity_condition group =
    unless_required code.Quantity field.Quantity (number_up_to 10) (values_in (codes "07") (codes "E7") group)

unfoldable pub cost_condition : List SegmentParts → Condition
cost_condition group =
    unless_required code.IngredientCost field.IngredientCost amount_in_cents (values_in (codes "11") (codes "D9") group)

unfoldable pub fee_condition : List SegmentParts → Condition
fee_condition group =
    unless_optional code.DispensingFee field.DispensingFee 0 amount_in_cents (values_in (codes "11") (codes "DC") group)

-- a number of at most two digits, that is given
abbrev pub given_number : List ℕ → Option (Option ℕ)
given_number value = option_map (λ (n : ℕ). Some n) (number_up_to 2 value)

-- the fill number of a reversal, which may be left out
unfoldable pub given_fill_condition : List SegmentParts → Condition
given_fill_condition group =
    unless_optional code.FillNumber field.FillNumber None given_number (values_in (codes "07") (codes "D3") group)

unfoldable pub claim_conditions : Request → (shared group : List SegmentParts) → List Condition
claim_conditions h shared group =
    cardholder_condition shared ∷ date_condition h ∷ prescription_condition group ∷ fill_condition group
    ∷ product_condition group ∷ quantity_condition group ∷ cost_condition group ∷ fee_condition group ∷ []

unfoldable pub reversal_conditions : Request → List SegmentParts → List Condition
reversal_conditions h group = date_condition h ∷ prescription_condition group ∷ given_fill_condition group ∷ []

-- the causes whose condition holds
abbrev pub holding : List Condition → List CauseSeen
holding conditions = map (λ c. c.1) (filter (λ c. c.0) conditions)

-- the cause of a transaction of no kind that is carried
abbrev pub uncarried_cause : CauseSeen
uncarried_cause = record { code = code.NotCovered; field = field.TransactionCode; found = Absent }

-- all causes for which a transaction under this code is rejected
abbrev pub causes_under : Option TransactionCode → Request → (shared group : List SegmentParts) → List CauseSeen
causes_under (Some transaction.Billing) h shared group = holding (claim_conditions h shared group)
causes_under (Some transaction.Reversal) h shared group = holding (reversal_conditions h group)
causes_under None h shared group = uncarried_cause ∷ []

-- the same under its header's code
unfoldable pub causes_of : Request → (shared group : List SegmentParts) → List CauseSeen
causes_of h shared group = causes_under (transaction_code h.code) h shared group

-- their codes
abbrev pub codes_told : List CauseSeen → List Code
codes_told causes = map (λ c. c.code) causes

-- those of the transaction at a place of a request
abbrev pub causes_in : TransmissionParts Request → ℕ → List CauseSeen
causes_in t place = causes_of t.header t.shared (slice_index_or t.groups place [])
