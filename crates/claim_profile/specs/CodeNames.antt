-- The names of reject codes.
use Rattle.std.specs.Prelude.{ℕ, List, Option, Some, None, codes, if◌then◌else◌}
use Rattle.std.specs.Str.{bytes_eq}
use Rattle.claim_profile.specs.declared.reject.Code.{Code}
use Rattle.claim_profile.specs.declared.reject.Code.TheVariants as code

-- the name of a code that no rule gives, and payers often give
abbrev pub common_name : List ℕ → Option (List ℕ)
common_name text =
    if bytes_eq text (codes "06") then Some (codes "M/I Group ID")
    else if bytes_eq text (codes "09") then Some (codes "M/I Date of Birth")
    else if bytes_eq text (codes "19") then Some (codes "M/I Days Supply")
    else if bytes_eq text (codes "25") then Some (codes "M/I Prescriber ID")
    else if bytes_eq text (codes "40") then Some (codes "Pharmacy Not Contracted With Plan On Date Of Service")
    else if bytes_eq text (codes "41") then Some (codes "Submit Bill To Other Processor Or Primary Payer")
    else if bytes_eq text (codes "52") then Some (codes "Non-Matched Cardholder ID")
    else if bytes_eq text (codes "54") then Some (codes "Non-Matched Product/Service ID Number")
    else if bytes_eq text (codes "65") then Some (codes "Patient Is Not Covered")
    else if bytes_eq text (codes "69") then Some (codes "Filled After Coverage Terminated")
    else if bytes_eq text (codes "75") then Some (codes "Prior Authorization Required")
    else if bytes_eq text (codes "76") then Some (codes "Plan Limitations Exceeded")
    else if bytes_eq text (codes "78") then Some (codes "Cost Exceeds Maximum")
    else if bytes_eq text (codes "79") then Some (codes "Refill Too Soon")
    else if bytes_eq text (codes "81") then Some (codes "Claim Too Old")
    else if bytes_eq text (codes "85") then Some (codes "Claim Not Processed")
    else if bytes_eq text (codes "88") then Some (codes "DUR Reject Error")
    else if bytes_eq text (codes "92") then Some (codes "System Unavailable/Host Unavailable")
    else if bytes_eq text (codes "99") then Some (codes "Host Processing Error")
    else None

-- that name, else what all have
abbrev pub name_or : Option (List ℕ) → List ℕ
name_or (Some name) = name
name_or None = codes "a code of the payer's own system"

-- the short name that the standard's list of reject codes gives one; `M/I` is missing or invalid
abbrev pub code_name : Code → List ℕ
code_name code.Bin = codes "M/I BIN Number"
code_name code.Cardholder = codes "M/I Cardholder ID"
code_name code.DateOfService = codes "M/I Date of Service"
code_name code.Prescription = codes "M/I Prescription/Service Reference Number"
code_name code.FillNumber = codes "M/I Fill Number"
code_name code.Product = codes "M/I Product/Service ID"
code_name code.IngredientCost = codes "M/I Ingredient Cost Submitted"
code_name code.Quantity = codes "M/I Quantity Dispensed"
code_name code.DispensingFee = codes "M/I Dispensing Fee Submitted"
code_name code.NotCovered = codes "Product/Service Not Covered"
code_name code.DuplicateClaim = codes "Duplicate Paid/Captured Claim"
code_name code.ReversalNotProcessed = codes "Reversal Not Processed"
code_name (code.Other text) = name_or (common_name text)
