-- The fields that the product knows: by the segment in which they stand, and the two bytes that name them.
use Rattle.std.specs.Prelude.{ℕ, Bool, true, false, List, Option, None, Some, codes, if◌then◌else◌}
use Rattle.std.specs.Str.{bytes_eq}
use Rattle.message_parts.specs.declared.layout.Form.{Form}
use Rattle.message_parts.specs.declared.layout.Form.TheVariants.{Request, Answer}
use Rattle.message_parts.specs.declared.layout.Within.{Within}
use Rattle.message_parts.specs.declared.names.FieldName.{FieldName}
use Rattle.message_parts.specs.declared.names.FieldName.TheVariants as field

-- in the segments before all transactions of a request
abbrev pub shared_field : (segment id : List ℕ) → Option FieldName
shared_field segment id =
    if bytes_eq segment (codes "04") then (if bytes_eq id (codes "C2") then Some field.Cardholder else None) else None

-- in the claim segment of a request
abbrev pub claim_field : List ℕ → Option FieldName
claim_field id =
    if bytes_eq id (codes "EM") then Some field.PrescriptionQualifier
    else (if bytes_eq id (codes "D2") then Some field.Prescription
    else (if bytes_eq id (codes "D3") then Some field.FillNumber
    else (if bytes_eq id (codes "E1") then Some field.ProductQualifier
    else (if bytes_eq id (codes "D7") then Some field.Product
    else (if bytes_eq id (codes "E7") then Some field.Quantity
    else None)))))

-- in its pricing segment
abbrev pub pricing_field : List ℕ → Option FieldName
pricing_field id =
    if bytes_eq id (codes "D9") then Some field.IngredientCost
    else (if bytes_eq id (codes "DC") then Some field.DispensingFee
    else None)

-- in a transaction of a request
abbrev pub order_field : (segment id : List ℕ) → Option FieldName
order_field segment id =
    if bytes_eq segment (codes "07") then claim_field id
    else (if bytes_eq segment (codes "11") then pricing_field id
    else None)

-- in the response status segment, the response claim segment and the response pricing segment of an answer
abbrev pub status_field : List ℕ → Option FieldName
status_field id =
    if bytes_eq id (codes "AN") then Some field.ResponseStatus
    else (if bytes_eq id (codes "F3") then Some field.Authorization
    else (if bytes_eq id (codes "FA") then Some field.RejectCount
    else (if bytes_eq id (codes "FB") then Some field.RejectCode
    else None)))

abbrev pub response_claim_field : List ℕ → Option FieldName
response_claim_field id =
    if bytes_eq id (codes "EM") then Some field.PrescriptionQualifier
    else (if bytes_eq id (codes "D2") then Some field.Prescription
    else None)

abbrev pub payment_field : List ℕ → Option FieldName
payment_field id =
    if bytes_eq id (codes "F5") then Some field.PatientPay
    else (if bytes_eq id (codes "F6") then Some field.CostPaid
    else (if bytes_eq id (codes "F7") then Some field.FeePaid
    else (if bytes_eq id (codes "F9") then Some field.TotalPaid
    else None)))

-- in a transaction of an answer
abbrev pub ruling_field : (segment id : List ℕ) → Option FieldName
ruling_field segment id =
    if bytes_eq segment (codes "21") then status_field id
    else (if bytes_eq segment (codes "22") then response_claim_field id
    else (if bytes_eq segment (codes "23") then payment_field id
    else None))

-- the field of these two bytes, where the product knows it in its segment
abbrev pub field_in : Form → (shared : Bool) → (segment id : List ℕ) → Option FieldName
field_in Request true segment id = shared_field segment id
field_in Request false segment id = order_field segment id
field_in Answer true segment id = None
field_in Answer false segment id = ruling_field segment id

unfoldable pub known_field : Form → Within → List ℕ → Option FieldName
known_field form within id = field_in form within.shared within.segment id
