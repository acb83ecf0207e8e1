-- Settings with no fault, and with what its types keep, are such as a world takes.
use Rattle.std.proofs.Common.{◌≡◌, ℕ, ◌<◌, ◌≤◌, List, [], ◌∷◌, map, length, None, Some, refl, sym, ◌∙◌, subst}
use Rattle.std.specs.List.{AllByRecursion}
use Rattle.std.proofs.lemmas.List.{length-map}
use Rattle.bin_routes.specs.Key.{RouteKey}
use Rattle.bin_routes.specs.Row.{Row}
use Rattle.bin_routes.specs.Fault.{first_fault}
use Rattle.bin_routes.specs.Table.{RouteMaps, routes_of, among, payer_under}
use Rattle.claim_model.specs.Bytes.{bytes_with}
use Rattle.claim_model.specs.Settings.{settings_fault, IsPharmacySettings, IsBookSettings, Accepts}
use Rattle.world_setup.specs.Taken.{routes_with}
use Rattle.world_setup.specs.Seen.{payer_seen, settings_seen}
use Rattle.world_setup.specs.declared.settings.PayerSettings.{PayerSettings}
use Rattle.world_setup.specs.declared.settings.WorldSettings.{WorldSettings}
use Rattle.days_audit.specs.Promised.{reading_of, HasSerial}

books_seen : (ps : List PayerSettings) → AllByRecursion HasSerial ps → AllByRecursion (λ p. IsBookSettings p.book) (map payer_seen ps)
books_seen [] a = tt
books_seen (p ∷ ps) a = (record { serial = a.0 }, books_seen ps a.1)

-- what the law of claim_model says of rows without a fault
abbrev pub LeadToPayers : Type 0
LeadToPayers = (payers : ℕ) (rows : List Row) (number : ℕ) (key : RouteKey) (payer : ℕ) → first_fault payers rows ≡ None → (bytes_with (routes_of rows)).route number key ≡ Some payer → (0 < payer) × (payer ≤ payers)

-- and that of bin_routes: how many switches there are says nothing of where a request is routed
abbrev pub SameAmong : Type 0
SameAmong = (maps : RouteMaps) (switches number : ℕ) (key : RouteKey) → payer_under (among switches maps) number key ≡ payer_under maps number key

pub accepted : (s : WorldSettings) → settings_fault (settings_seen s) ≡ None → first_fault (length s.payers.items) s.routes.items ≡ None → AllByRecursion IsPharmacySettings s.pharmacies.items → AllByRecursion HasSerial s.payers.items → LeadToPayers → SameAmong
    → Accepts (reading_of s) (settings_seen s)
unfolding routes_with
accepted s none rows sized serials lead same =
    record {
      no_fault = none;
      pharmacies = sized;
      books = books_seen s.payers.items serials;
      switches = refl;
      routes = λ number key payer h.
          let r = lead (length s.payers.items) s.routes.items number key payer rows (sym (same (routes_of s.routes.items) (length s.switches.items) number key) ∙ h) in
          (r.0, subst (λ (n : ℕ). payer ≤ n) (sym (length-map s.payers.items payer_seen)) r.1);
    }
