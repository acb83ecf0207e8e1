-- Settings beside those that they are to have grown to: the first thing that is neither as it was nor grown.
use Rattle.std.specs.Prelude.{◌≡◌, ℕ, ◌+◌, Bool, true, false, cond, ◌&&◌, ◌==◌, not, nat_le, List, [], ◌∷◌, Option, Some, None, is_none, bytes_eq}
use mathlib.Core.Bool.{beq}
use Rattle.std.specs.List.{list_any, position_from}
use Rattle.std.specs.Option.{option_or, option_map}
use Rattle.bin_routes.specs.Providers.{Providers, have}
use Rattle.bin_routes.specs.Row.{Row, leads, same_pcn}
use Rattle.bin_routes.specs.Table.{is_ranged}
use Rattle.claim_model.specs.Context.{Context}
use Rattle.claim_model.specs.Bytes.{bytes_with}
use Rattle.claim_model.specs.Journal.{PharmacySettings}
use Rattle.claim_model.specs.Settings.{PayerSettings, WorldSettings}
use Rattle.world_setup.specs.Seen.{settings_seen}
use Rattle.world_setup.specs.declared.settings.WorldSettings.{WorldSettings as Opened}
use Rattle.settings_growth.specs.Growth.{PharmacyGrows, PayerGrows, Extends, Grows, GrowsFor}
use Rattle.log_growth.specs.declared.ungrown.Ungrown.{Ungrown}
use Rattle.log_growth.specs.declared.ungrown.Ungrown.TheVariants as ungrown
use Rattle.world_setup.specs.Taken.{routes_in}

-- the same pharmacy, whose journal may have as many entries or more
abbrev pub pharmacy_grows : PharmacySettings → PharmacySettings → Bool
pharmacy_grows old new =
    bytes_eq old.qualifier new.qualifier && (bytes_eq old.provider new.provider && (bytes_eq old.nodes new.nodes
    && ((old.again == new.again) && ((old.tries == new.tries) && nat_le old.cap new.cap))))

abbrev pub same_prices : List (List ℕ × ℕ) → List (List ℕ × ℕ) → Bool
same_prices [] [] = true
same_prices [] (q ∷ new) = false
same_prices (p ∷ old) [] = false
same_prices (p ∷ old) (q ∷ new) = (bytes_eq p.0 q.0 && (p.1 == q.1)) && same_prices old new

-- the same payer, whose book may have as many rows or more
abbrev pub payer_grows : PayerSettings → PayerSettings → Bool
payer_grows old new =
    (old.book.serial == new.book.serial) && (beq old.book.asks new.book.asks && (beq old.book.reversals new.book.reversals
    && (beq old.book.carries new.book.carries && (nat_le old.book.cap new.book.cap && ((old.plan.fee == new.plan.fee) && ((old.plan.copay == new.plan.copay)
    && same_prices old.plan.prices new.plan.prices))))))

-- the number of the first node, from this one on, that is not there any more or has not grown
abbrev pub first_other : {A : Type 0} → (A → A → Bool) → ℕ → List A → List A → Option ℕ
first_other grows number [] new = None
first_other grows number (a ∷ old) [] = Some number
first_other grows number (a ∷ old) (b ∷ new) = cond (grows a b) (first_other grows (number + 1) old new) (Some number)

-- the first node that is not there any more or has not grown: pharmacies, switches, payers
abbrev pub node_ungrown : WorldSettings → WorldSettings → Option Ungrown
node_ungrown old new =
    option_or (option_map ungrown.Pharmacy (first_other pharmacy_grows 1 old.pharmacies new.pharmacies))
    (option_or (option_map ungrown.Switch (first_other (λ (a b : ℕ). a == b) 1 old.switches new.switches))
    (option_map ungrown.Payer (first_other payer_grows 1 old.payers new.payers)))

-- all nodes are there, as they were or grown
pub record NodesGrow (old new : WorldSettings) : Type 0 where
  pub pharmacies : Extends PharmacyGrows old.pharmacies new.pharmacies
  pub switches : Extends (λ (a b : ℕ). b ≡ a) old.switches new.switches
  pub payers : Extends PayerGrows old.payers new.payers

-- ---- routes

-- the same providers
abbrev pub same_range : Providers → Providers → Bool
same_range a b = bytes_eq a.qualifier b.qualifier && (bytes_eq a.first b.first && bytes_eq a.last b.last)

-- or all of them
abbrev pub same_ranges : Option Providers → Option Providers → Bool
same_ranges None None = true
same_ranges None (Some b) = false
same_ranges (Some a) None = false
same_ranges (Some a) (Some b) = same_range a b

-- the same number, or none
abbrev pub same_number : Option ℕ → Option ℕ → Bool
same_number None None = true
same_number None (Some b) = false
same_number (Some a) None = false
same_number (Some a) (Some b) = a == b

-- the same row
abbrev pub same_row : Row → Row → Bool
same_row a b = (bytes_eq a.bin b.bin && same_pcn a.pcn b.pcn) && (same_ranges a.providers b.providers && ((a.payer == b.payer) && same_number a.rejected b.rejected))

-- a row for all providers that names a processor control number takes claims from one of its BIN alone, which leads to another payer
abbrev pub takes_by : Option (List ℕ) → Option (List ℕ) → Row → Row → Bool
takes_by (Some pcn) None a b = bytes_eq a.bin b.bin && not (a.payer == b.payer)
takes_by (Some pcn) (Some other) a b = false
takes_by None other a b = false

abbrev pub takes_from : Row → Row → Bool
takes_from a b = is_none a.providers && takes_by a.pcn b.pcn a b

-- a row that is none of the old ones takes claims from one of them
abbrev pub takes_claims : List Row → Row → Bool
takes_claims old row = not (list_any (same_row row) old) && list_any (takes_from row) old

-- a row that leads to a payer, for some providers, that is none of these
abbrev pub is_new_range : List Row → Row → Bool
is_new_range old row = leads row && (is_ranged row && not (list_any (same_row row) old))

-- two rows have the same BIN
abbrev pub has_bin : Row → Row → Bool
has_bin row other = bytes_eq row.bin other.bin

-- a pharmacy is one of these providers
abbrev pub is_in_range : Providers → PharmacySettings → Bool
is_in_range providers p = have providers p.qualifier p.provider

abbrev pub is_in_ranges : Option Providers → PharmacySettings → Bool
is_in_ranges None p = false
is_in_ranges (Some providers) p = is_in_range providers p

abbrev pub is_in_row : Row → PharmacySettings → Bool
is_in_row row p = is_in_ranges row.providers p

-- such a row takes claims where an old row has its BIN, and an old pharmacy is one of its providers
abbrev pub takes_range : List PharmacySettings → List Row → Row → Bool
takes_range pharmacies old row = is_new_range old row && (list_any (has_bin row) old && list_any (is_in_row row) pharmacies)

-- a row is for this processor control number, or for all
abbrev pub is_for : Option (List ℕ) → Option (List ℕ) → Bool
is_for pcn None = true
is_for None (Some other) = false
is_for (Some pcn) (Some other) = bytes_eq pcn other

-- it leads to a payer, has the BIN number of a row, and is for its processor control number
abbrev pub covers : Row → Row → Bool
covers row other = leads other && (has_bin row other && is_for row.pcn other.pcn)

-- a row that lets requests stay rejected and is none of the old ones: an old one led to a payer for some of its BIN and processor control number
abbrev pub rejects_routed : List Row → Row → Bool
rejects_routed old row = not (leads row) && (not (list_any (same_row row) old) && list_any (covers row) old)

-- the first row that is not there any more, and else the first new row that takes claims from an old one, and else the first for some providers that
-- does, and else the first that lets requests stay rejected which may have had a route
abbrev pub route_ungrown : List PharmacySettings → List Row → List Row → Option Ungrown
route_ungrown pharmacies old new =
    option_or (option_map ungrown.RouteGone (position_from (λ (row : Row). not (list_any (same_row row) new)) 0 old))
    (option_or (option_map ungrown.RouteTaken (position_from (λ (row : Row). takes_claims old row) 0 new))
    (option_or (option_map ungrown.RangeTaken (position_from (λ (row : Row). takes_range pharmacies old row) 0 new))
    (option_map ungrown.RouteRejected (position_from (λ (row : Row). rejects_routed old row) 0 new))))

-- the first thing that has not grown
abbrev pub first_ungrown : Opened → Opened → Option Ungrown
first_ungrown old new =
    option_or (node_ungrown (settings_seen old) (settings_seen new)) (route_ungrown old.pharmacies.items old.routes.items new.routes.items)

-- whether some new row is for some providers of a BIN that an old row has
abbrev pub has_new_range : List Row → List Row → Bool
has_new_range old new = list_any (λ row. is_new_range old row && list_any (has_bin row) old) new

-- how nodes of these settings read bytes
abbrev pub reading_of : Opened → Context
reading_of s = bytes_with (routes_in s)

-- settings grow to others
abbrev pub GrowsTo : Opened → Opened → Type 0
GrowsTo old new = Grows (reading_of old) (reading_of new) (settings_seen old) (settings_seen new)

-- and for the pharmacies that there were: new providers may have other payers
abbrev pub GrowsToFor : Opened → Opened → Type 0
GrowsToFor old new = GrowsFor (reading_of old) (reading_of new) (settings_seen old) (settings_seen new)

-- settings have grown: for the pharmacies that there were, and for all where no row is new for some providers of an old BIN
pub record HasGrownTo (old new : Opened) : Type 0 where
  pub own : GrowsToFor old new
  pub all : has_new_range old.routes.items new.routes.items ≡ false → GrowsTo old new
