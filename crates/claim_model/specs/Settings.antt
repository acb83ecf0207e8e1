-- The settings of a world, which of them a world takes, and the world that it opens with.
use Rattle.std.specs.Prelude.{ℕ, ◌+◌, ◌<◌, ◌≤◌, ◌≡◌, Bool, true, false, cond, not, ◌&&◌, ◌||◌, nat_lt, List, [], ◌∷◌, length, Option, Some, None, bytes_eq}
use Rattle.std.specs.List.{list_any, list_all, AllByRecursion}
use Rattle.claim_model.specs.Words.{Plan, RouteKey}
use Rattle.claim_model.specs.Context.{Context}
use Rattle.claim_model.specs.Rows.{BookSettings}
pub use Rattle.claim_model.specs.Journal.{is_empty, is_switch}
use Rattle.claim_model.specs.Journal.{PharmacySettings, Journal, JournalAtRest, opening_rule, have_switches}
use Rattle.claim_model.specs.Rows.{Book}
use Rattle.claim_model.specs.Table.{Table}
use Rattle.claim_model.specs.Node.{Power, Up}
use Rattle.claim_model.specs.World.{World}
use Rattle.claim_model.specs.Limits.{most_pharmacies, most_switches, most_payers, most_entries}

pub record PayerSettings : Type 0 where
  pub book : BookSettings
  pub plan : Plan

-- the pharmacies, the caps of the switches, and the payers; the routes are the context's
pub record WorldSettings : Type 0 where
  pub pharmacies : List PharmacySettings
  pub switches : List ℕ
  pub payers : List PayerSettings

-- why a world is not made
pub data SettingsFault : Type 0 where
  TooMany NoNode SameProvider : SettingsFault

abbrev pub has_nodes : ℕ → PharmacySettings → Bool
has_nodes switches s = have_switches switches s.nodes

abbrev pub same_provider : PharmacySettings → PharmacySettings → Bool
same_provider a b = bytes_eq a.qualifier b.qualifier && bytes_eq a.provider b.provider

abbrev pub some_provider_twice : List PharmacySettings → Bool
some_provider_twice [] = false
some_provider_twice (s ∷ more) = list_any (same_provider s) more || some_provider_twice more

-- more nodes of a kind than any settings may have
abbrev pub too_many : WorldSettings → Bool
too_many s = nat_lt most_pharmacies (length s.pharmacies) || (nat_lt most_switches (length s.switches) || nat_lt most_payers (length s.payers))

-- TooMany: over 65,535 pharmacies, 4,096 switches or 4,096 payers. NoNode: no node of some kind, or a pharmacy whose list is empty or names a
-- switch that is not there. SameProvider: two pharmacies of one identity
abbrev pub settings_fault : WorldSettings → Option SettingsFault
settings_fault s =
    cond (too_many s) (Some TooMany)
    (cond (is_empty s.pharmacies || (is_empty s.switches || (is_empty s.payers || not (list_all (has_nodes (length s.switches)) s.pharmacies)))) (Some NoNode)
    (cond (some_provider_twice s.pharmacies) (Some SameProvider) None))

-- what the settings of a pharmacy keep
pub record IsPharmacySettings (s : PharmacySettings) : Type 0 where
  pub cap : s.cap ≤ most_entries

-- what the settings of a book keep
pub record IsBookSettings (s : BookSettings) : Type 0 where
  pub serial : 0 < s.serial

-- what a world takes
pub record Accepts (ctx : Context) (s : WorldSettings) : Type 0 where
  pub no_fault : settings_fault s ≡ None
  pub pharmacies : AllByRecursion IsPharmacySettings s.pharmacies
  pub books : AllByRecursion (λ p. IsBookSettings p.book) s.payers
  -- a pharmacy is told of the switches that are there
  pub switches : ctx.switches ≡ length s.switches
  -- a route leads to a payer that is there
  pub routes : (number : ℕ) (key : RouteKey) (payer : ℕ) → ctx.route number key ≡ Some payer → (0 < payer) × (payer ≤ length s.payers)

abbrev pub pharmacies_from : ℕ → List PharmacySettings → List (Power Journal JournalAtRest)
pharmacies_from n [] = []
pharmacies_from n (s ∷ more) = Up (record { number = n; settings = s; rule = opening_rule s; entries = [] }) ∷ pharmacies_from (n + 1) more

abbrev pub switches_of : List ℕ → List (Power Table ℕ)
switches_of [] = []
switches_of (cap ∷ more) = Up (record { cap = cap; entries = [] }) ∷ switches_of more

abbrev pub payers_from : ℕ → List PayerSettings → List (Power Book Book)
payers_from n [] = []
payers_from n (p ∷ more) = Up (record { payer = n; settings = p.book; plan = p.plan; rows = [] }) ∷ payers_from (n + 1) more

-- the opening world: every node up and empty, no packet sent
abbrev pub opening : WorldSettings → World
opening s = record { pharmacies = pharmacies_from 1 s.pharmacies; switches = switches_of s.switches; payers = payers_from 1 s.payers; packets = [] }
