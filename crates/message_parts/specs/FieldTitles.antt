-- How the standard calls the fields that the product knows.
use Rattle.std.specs.Prelude.{ℕ, List, [], ◌∷◌, Bool, true, false, drop, codes, Option, None, Some, if◌then◌else◌}
use Rattle.std.specs.Str.{bytes_eq}
use Rattle.message_parts.specs.declared.names.FieldName.{FieldName}
use Rattle.message_parts.specs.declared.names.FieldName.TheVariants as field
use Rattle.message_parts.specs.declared.names.Named.{Named}

-- the standard's number of a field, its name for people, and its name in JSON
pub record Titles : Type 0 where
  pub number : List ℕ
  pub name : List ℕ
  pub key : List ℕ

abbrev pub titles : (number name key : List ℕ) → Titles
titles number name key = record { number = number; name = name; key = key }

-- a line of the code's tables
abbrev pub of_row : record { now : List ℕ } × record { now : List ℕ } × record { now : List ℕ } → Titles
of_row row = titles row.0.now row.1.now row.2.now

-- names of the code, without their places in memory
abbrev pub titles_seen : Named → Titles
titles_seen n = titles n.number.now n.name.now n.key.now

-- the first of these fields whose number ends with two letters, after three digits and a dash
abbrev pub named_in : List Titles → List ℕ → Option Titles
named_in [] letters = None
named_in (t ∷ ts) letters = if bytes_eq (drop 4 t.number) letters then Some t else named_in ts letters

-- the first that is there
abbrev pub or_next : Option Titles → Option Titles → Option Titles
or_next (Some t) next = Some t
or_next None next = next

-- the line of each field in the table of fields
abbrev pub titles_of : FieldName → Titles
titles_of field.Bin = titles (codes "101-A1") (codes "BIN number") (codes "bin_number")
titles_of field.Version = titles (codes "102-A2") (codes "version") (codes "version")
titles_of field.TransactionCode = titles (codes "103-A3") (codes "transaction code") (codes "transaction_code")
titles_of field.Pcn = titles (codes "104-A4") (codes "processor control number") (codes "processor_control_number")
titles_of field.TransactionCount = titles (codes "109-A9") (codes "transaction count") (codes "transaction_count")
titles_of field.ProviderQualifier =
    titles (codes "202-B2") (codes "service provider ID qualifier") (codes "service_provider_id_qualifier")
titles_of field.Provider = titles (codes "201-B1") (codes "service provider ID") (codes "service_provider_id")
titles_of field.DateOfService = titles (codes "401-D1") (codes "date of service") (codes "date_of_service")
titles_of field.Vendor = titles (codes "110-AK") (codes "software vendor ID") (codes "software_vendor_id")
titles_of field.HeaderStatus = titles (codes "501-F1") (codes "header response status") (codes "header_response_status")
titles_of field.Cardholder = titles (codes "302-C2") (codes "cardholder ID") (codes "cardholder_id")
titles_of field.PrescriptionQualifier =
    titles (codes "455-EM") (codes "prescription number qualifier") (codes "prescription_number_qualifier")
titles_of field.Prescription = titles (codes "402-D2") (codes "prescription number") (codes "prescription_number")
titles_of field.FillNumber = titles (codes "403-D3") (codes "fill number") (codes "fill_number")
titles_of field.ProductQualifier = titles (codes "436-E1") (codes "product ID qualifier") (codes "product_id_qualifier")
titles_of field.Product = titles (codes "407-D7") (codes "product ID") (codes "product_id")
titles_of field.Quantity = titles (codes "442-E7") (codes "quantity dispensed") (codes "quantity_dispensed")
titles_of field.IngredientCost =
    titles (codes "409-D9") (codes "ingredient cost submitted") (codes "ingredient_cost_submitted")
titles_of field.DispensingFee =
    titles (codes "412-DC") (codes "dispensing fee submitted") (codes "dispensing_fee_submitted")
titles_of field.ResponseStatus = titles (codes "112-AN") (codes "response status") (codes "response_status")
titles_of field.Authorization = titles (codes "503-F3") (codes "authorization number") (codes "authorization_number")
titles_of field.RejectCount = titles (codes "510-FA") (codes "reject count") (codes "reject_count")
titles_of field.RejectCode = titles (codes "511-FB") (codes "reject code") (codes "reject_code")
titles_of field.PatientPay = titles (codes "505-F5") (codes "patient pay amount") (codes "patient_pay_amount")
titles_of field.CostPaid = titles (codes "506-F6") (codes "ingredient cost paid") (codes "ingredient_cost_paid")
titles_of field.FeePaid = titles (codes "507-F7") (codes "dispensing fee paid") (codes "dispensing_fee_paid")
titles_of field.TotalPaid = titles (codes "509-F9") (codes "total amount paid") (codes "total_amount_paid")

-- the fields whose values are amounts
abbrev pub holds_amount : FieldName → Bool
holds_amount field.IngredientCost = true
holds_amount field.DispensingFee = true
holds_amount field.PatientPay = true
holds_amount field.CostPaid = true
holds_amount field.FeePaid = true
holds_amount field.TotalPaid = true
holds_amount _ = false
