-- What settings say, as a text that hangs on nothing else: each of their fields in a fixed order, so that each ends where it says.
use Rattle.std.specs.Prelude.{ℕ, zero, suc, Bool, true, false, List, ◌++◌, length, Option, Some, None}
use Rattle.std.specs.List.{flat_map}
use Rattle.std.specs.Int.{w64, to_be_bytes}
use Rattle.bin_routes.specs.Providers.{Providers}
use Rattle.bin_routes.specs.Row.{Row}
use Rattle.claim_model.specs.Journal.{PharmacySettings}
use Rattle.claim_model.specs.Rows.{BookSettings}
use Rattle.claim_model.specs.Settings.{PayerSettings}
use Rattle.claim_model.specs.Words.{Plan}
use Rattle.world_settings.specs.Document.{Document}
use Rattle.kept_logs.specs.Fields.{text_of}

-- a number, in eight bytes
unfoldable pub number_text : ℕ → List ℕ
number_text number = to_be_bytes w64 number

-- a list: how many there are, and each of them
unfoldable pub list_text : {A : Type 0} → (A → List ℕ) → List A → List ℕ
list_text text items = number_text (length items) ++ flat_map text items

-- a pharmacy: its identity, the switches that it tries in turn, its rule of retries, and its cap
abbrev pub identity_text : PharmacySettings → List ℕ
identity_text p = text_of p.qualifier ++ text_of p.provider

abbrev pub retries_text : PharmacySettings → List ℕ
retries_text p = number_text p.again ++ (number_text p.tries ++ number_text p.cap)

unfoldable pub pharmacy_text : PharmacySettings → List ℕ
pharmacy_text p = identity_text p ++ (list_text number_text p.nodes ++ retries_text p)

-- a product and its price
abbrev pub price_text : List ℕ × ℕ → List ℕ
price_text price = text_of price.0 ++ number_text price.1

-- this many zeros, and then the first serial number of a payer
abbrev pub zeros_text : ℕ → ℕ → List ℕ
zeros_text zero serial = number_text serial
zeros_text (suc k) serial = number_text 0 ++ zeros_text k serial

-- how many zeros: none where a payer does not ask; one where it asks about claims, two more where it asks about reversals, and four more where
-- answers carry what advices say beside their rulings
abbrev pub zeros : (asks reversals carries : Bool) → ℕ
zeros false false false = 0
zeros true false false = 1
zeros false true false = 2
zeros true true false = 3
zeros false false true = 4
zeros true false true = 5
zeros false true true = 6
zeros true true true = 7

-- the first serial number of a payer, after what says whether it asks
abbrev pub serial_text : (asks reversals carries : Bool) → ℕ → List ℕ
serial_text asks reversals carries serial = zeros_text (zeros asks reversals carries) serial

-- a payer: its first serial number and its cap; its dispensing fee, its copay, and its prices in the order of their products
abbrev pub book_text : BookSettings → List ℕ
book_text b = serial_text b.asks b.reversals b.carries b.serial ++ number_text b.cap

abbrev pub plan_text : Plan → List ℕ
plan_text p = number_text p.fee ++ (number_text p.copay ++ list_text price_text p.prices)

unfoldable pub payer_text : PayerSettings → List ℕ
payer_text p = book_text p.book ++ plan_text p.plan

-- a processor control number: 1 and the text, or 0 where there is none
abbrev pub pcn_text : Option (List ℕ) → List ℕ
pcn_text None = number_text 0
pcn_text (Some pcn) = number_text 1 ++ text_of pcn

-- the same before providers: 3 and the text, or 2
abbrev pub ranged_text : Option (List ℕ) → List ℕ
ranged_text None = number_text 2
ranged_text (Some pcn) = number_text 3 ++ text_of pcn

-- providers, by their qualifier, the first and the last
abbrev pub providers_text : Providers → List ℕ
providers_text p = text_of p.qualifier ++ (text_of p.first ++ text_of p.last)

-- a processor control number, and the providers that a route is for, where it is not for all
abbrev pub key_text : Option (List ℕ) → Option Providers → List ℕ
key_text pcn None = pcn_text pcn
key_text pcn (Some p) = ranged_text pcn ++ providers_text p

-- the same of a route that leads to no payer, after 4 and the last number that stays rejected
abbrev pub ended_text : Option ℕ → Option (List ℕ) → Option Providers → List ℕ
ended_text None pcn providers = key_text pcn providers
ended_text (Some last) pcn providers = number_text 4 ++ (number_text last ++ key_text pcn providers)

-- a route, by its BIN number, the last number that stays rejected, where it leads to no payer, its processor control number, its providers and its payer
unfoldable pub route_text : Row → List ℕ
route_text r = text_of r.bin ++ (ended_text r.rejected r.pcn r.providers ++ number_text r.payer)

-- what settings say: pharmacies, switches by their caps, payers and routes
unfoldable pub said : Document → List ℕ
said d = list_text pharmacy_text d.world.pharmacies ++ (list_text number_text d.world.switches ++ (list_text payer_text d.world.payers ++ list_text route_text d.routes))
