-- Reject codes.
use Rattle.std.specs.Prelude.{ℕ, ◌-◌, Bool, List, length, take, map, filter, replicate, codes}
use Rattle.claim_profile.specs.declared.reject.Code.{Code}
use Rattle.claim_profile.specs.declared.reject.Code.TheVariants.{Bin, Cardholder, DateOfService, Prescription, FillNumber, Product, IngredientCost, Quantity, DispensingFee, NotCovered, DuplicateClaim, ReversalNotProcessed, Other}

-- what stands after the codes in a room for five
abbrev pub padding : List Code → List Code
padding codes = replicate (5 - length codes) Bin

-- the codes whose condition holds
abbrev pub held : List (Bool × Code) → List Code
held conditions = map (λ c. c.1) (filter (λ c. c.0) conditions)

-- the first five of them
abbrev pub first_five_held : List (Bool × Code) → List Code
first_five_held conditions = take 5 (held conditions)

-- the two or three bytes of a code
abbrev pub code_text : Code → List ℕ
code_text Bin = codes "01"
code_text Cardholder = codes "07"
code_text DateOfService = codes "15"
code_text Prescription = codes "16"
code_text FillNumber = codes "17"
code_text Product = codes "21"
code_text IngredientCost = codes "23"
code_text Quantity = codes "E7"
code_text DispensingFee = codes "DC"
code_text NotCovered = codes "70"
code_text DuplicateClaim = codes "83"
code_text ReversalNotProcessed = codes "87"
code_text (Other text) = text
