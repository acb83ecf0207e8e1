-- The book that `read` answers from: payer 1, one product, one BIN.
use Rattle.std.specs.Prelude.{false, List, [], ◌∷◌, None, codes}
use Rattle.bin_routes.specs.Row.{Row}
use Rattle.bin_routes.specs.Table.{RouteMaps, routes_of}
use Rattle.plan_rules.specs.Terms.{Terms}
use Rattle.claim_model.specs.Rows.{Book}

-- one BIN leads to payer 1, whatever the processor control number
abbrev pub route_rows : List Row
route_rows = record { bin = codes "610455"; pcn = None; providers = None; payer = 1; rejected = None } ∷ []

abbrev pub sample_routes : RouteMaps
sample_routes = routes_of route_rows

-- a dispensing fee of 1.50 at most, 10.00 for the patient, and one product at 1.8567 a unit
abbrev pub sample_plan : Terms
sample_plan = record { fee = 150; copay = 1000; prices = (codes "00093721410", 18567) ∷ [] }

-- an empty book of payer 1 with serials from 1 and at most 1,000 rows
abbrev pub opening_book : Book
opening_book = record { payer = 1; settings = record { serial = 1; cap = 1000; asks = false; reversals = false; carries = false }; plan = sample_plan; rows = [] }
