-- How many transactions the request of a number has.
use Rattle.std.specs.Prelude.{ℕ, ◌==◌, List, Option, Some, None, option_and_then, option_map}
use Rattle.std.specs.List.{find}
use Rattle.d0_header.specs.Request.{Request}
use Rattle.claim_profile.specs.Readable.{readable_header}
use Rattle.node_logged.specs.Tills.{Receipt, Till}

-- the request of the first receipt with this number
abbrev pub request_of : ℕ → List Receipt → Option (List ℕ)
request_of number receipts = option_map (λ r. r.request) (find (λ r. r.number == number) receipts)

-- as many as the request's header counts; no receipt has a request without one
abbrev pub places_of_header : Option Request → ℕ
places_of_header (Some header) = header.count
places_of_header None = 1

-- the places of the request of a number
abbrev pub places_asked : ℕ → Till → ℕ
places_asked number till = places_of_header (option_and_then readable_header (request_of number till.receipts))
