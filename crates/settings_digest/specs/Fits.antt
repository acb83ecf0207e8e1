-- Settings whose numbers are numbers of a machine.
use Rattle.std.specs.Prelude.{⊤, ℕ, ◌<◌, ◌≤◌, ◌^◌, List, length, Option, Some, None}
use Rattle.std.specs.List.{AllByRecursion}
use Rattle.bin_routes.specs.Providers.{Providers}
use Rattle.bin_routes.specs.Row.{Row}
use Rattle.claim_model.specs.Journal.{PharmacySettings}
use Rattle.claim_model.specs.Rows.{BookSettings}
use Rattle.claim_model.specs.Settings.{PayerSettings}
use Rattle.claim_model.specs.Words.{Plan}
use Rattle.world_settings.specs.Document.{Document}

-- a number has eight bytes
abbrev pub FitsNumber : ℕ → Type 0
FitsNumber number = number < 2 ^ 64

-- so has the length of a text
abbrev pub FitsText : List ℕ → Type 0
FitsText text = length text < 2 ^ 64

-- and that of a list, each of whose items fits
abbrev pub FitsList : {A : Type 0} → (A → Type 0) → List A → Type 0
FitsList Fits items = (length items < 2 ^ 64) × AllByRecursion Fits items

-- the numbers of a pharmacy
abbrev pub FitsIdentity : PharmacySettings → Type 0
FitsIdentity p = FitsText p.qualifier × FitsText p.provider

abbrev pub FitsRetries : PharmacySettings → Type 0
FitsRetries p = FitsNumber p.again × (FitsNumber p.tries × FitsNumber p.cap)

abbrev pub FitsPharmacy : PharmacySettings → Type 0
FitsPharmacy p = FitsIdentity p × (FitsList FitsNumber p.nodes × FitsRetries p)

-- of a product and its price
abbrev pub FitsPrice : List ℕ × ℕ → Type 0
FitsPrice price = FitsText price.0 × FitsNumber price.1

-- of a payer; no serial number is 0
abbrev pub FitsSerial : ℕ → Type 0
FitsSerial serial = (1 ≤ serial) × FitsNumber serial

abbrev pub FitsBook : BookSettings → Type 0
FitsBook b = FitsSerial b.serial × FitsNumber b.cap

abbrev pub FitsPlan : Plan → Type 0
FitsPlan p = FitsNumber p.fee × (FitsNumber p.copay × FitsList FitsPrice p.prices)

abbrev pub FitsPayer : PayerSettings → Type 0
FitsPayer p = FitsBook p.book × FitsPlan p.plan

-- of a processor control number
abbrev pub FitsPcn : Option (List ℕ) → Type 0
FitsPcn None = ⊤
FitsPcn (Some pcn) = FitsText pcn

-- of the providers that a route is for
abbrev pub FitsProviders : Providers → Type 0
FitsProviders p = FitsText p.qualifier × (FitsText p.first × FitsText p.last)

abbrev pub FitsRange : Option Providers → Type 0
FitsRange None = ⊤
FitsRange (Some p) = FitsProviders p

-- of the last number that stays rejected, where a route leads to no payer
abbrev pub FitsLast : Option ℕ → Type 0
FitsLast None = ⊤
FitsLast (Some last) = FitsNumber last

-- of a route
abbrev pub FitsRoute : Row → Type 0
FitsRoute r = FitsText r.bin × ((FitsLast r.rejected × (FitsPcn r.pcn × FitsRange r.providers)) × FitsNumber r.payer)

-- of all settings
abbrev pub FitsDocument : Document → Type 0
FitsDocument d =
    FitsList FitsPharmacy d.world.pharmacies × (FitsList FitsNumber d.world.switches × (FitsList FitsPayer d.world.payers × FitsList FitsRoute d.routes))
