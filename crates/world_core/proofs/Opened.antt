-- What settings without a fault are, and that a world is reached by no event from them.
use Rattle.std.proofs.Common.{◌≡◌, ℕ, ◌<◌, ◌≤◌, Bool, true, false, not, List, [], ◌∷◌, map, length, Some, None, refl, sym, ◌∙◌, subst, arith}
use Rattle.std.specs.List.{AllByRecursion, list_all}
use Rattle.std.proofs.lemmas.Bool.{and_parts}
use Rattle.std.proofs.lemmas.List.{length-map}
use Rattle.bin_routes.specs.Key.{RouteKey}
use Rattle.bin_routes.specs.Row.{Row}
use Rattle.bin_routes.specs.Fault.{first_fault}
use Rattle.bin_routes.specs.Table.{RouteMaps, routes_of, among, payer_under}
use Rattle.claim_model.specs.Bytes.{bytes_with}
use Rattle.claim_model.specs.Laws.{Laws}
use Rattle.claim_model.specs.Journal.{PharmacySettings}
use Rattle.claim_model.specs.Settings.{settings_fault, is_empty, is_switch, has_nodes, IsPharmacySettings, IsBookSettings, opening}
use Rattle.world_setup.specs.declared.settings.PayerSettings.{PayerSettings}
use Rattle.world_setup.specs.declared.settings.WorldSettings.{WorldSettings}
use Rattle.world_setup.specs.Seen.{payer_seen, settings_seen}
use Rattle.world_core.specs.Opening.{HasSwitches, OpensTimely, HasSerial}
use Rattle.world_core.specs.Parts.{IsReached}
use Rattle.world_core.proofs.Running.{reached_first}
use Rattle.world_setup.specs.Taken.{routes_in, routes_with}

some_there : {A : Type 0} (xs : List A) → is_empty xs ≡ false → 0 < length xs
some_there [] e = absurd cc
some_there (x ∷ xs) e = omega arith

pub all_have_switches : (n : ℕ) (ss : List PharmacySettings) → list_all (has_nodes n) ss ≡ true → AllByRecursion HasSwitches ss
all_have_switches n [] e = tt
all_have_switches n (s ∷ ss) e =
    let p = and_parts (has_nodes n s) (list_all (has_nodes n) ss) e in
    let q = and_parts (not (is_empty s.nodes)) (list_all (is_switch n) s.nodes) p.0 in
    (some_there s.nodes (not-true-false (is_empty s.nodes) q.0), all_have_switches n ss p.1)
  where
    not-true-false : (b : Bool) → not b ≡ true → b ≡ false
    not-true-false true e = absurd cc
    not-true-false false e = refl

all_serials : (ps : List PayerSettings) → AllByRecursion HasSerial ps → AllByRecursion (λ p. IsBookSettings p.book) (map payer_seen ps)
all_serials [] a = tt
all_serials (p ∷ ps) a = (record { serial = a.0 }, all_serials ps a.1)

abbrev pub LeadToPayers : Type 0
LeadToPayers = (payers : ℕ) (rows : List Row) (number : ℕ) (key : RouteKey) (payer : ℕ) → first_fault payers rows ≡ None → (bytes_with (routes_of rows)).route number key ≡ Some payer → (0 < payer) × (payer ≤ payers)

-- how many switches there are says nothing of where a request is routed
abbrev pub SameAmong : Type 0
SameAmong = (maps : RouteMaps) (switches number : ℕ) (key : RouteKey) → payer_under (among switches maps) number key ≡ payer_under maps number key

pub opened : (s : WorldSettings) (routes : RouteMaps) → routes ≡ routes_in s → settings_fault (settings_seen s) ≡ None → first_fault (length s.payers.items) s.routes.items ≡ None → AllByRecursion IsPharmacySettings s.pharmacies.items → AllByRecursion HasSerial s.payers.items → AllByRecursion OpensTimely s.pharmacies.items
    → ((routes : RouteMaps) → Laws (bytes_with routes)) → LeadToPayers → SameAmong → IsReached routes (opening (settings_seen s))
unfolding routes_with
opened s routes is e f big serials timely laws lead same =
    subst (λ (r : RouteMaps). IsReached r (opening (settings_seen s))) (sym is)
    (reached_first (routes_in s) (settings_seen s) (laws (routes_in s)) (record {
      no_fault = e;
      pharmacies = big;
      books = all_serials s.payers.items serials;
      switches = refl;
      routes = λ number key payer h.
          let r = lead (length s.payers.items) s.routes.items number key payer f (sym (same (routes_of s.routes.items) (length s.switches.items) number key) ∙ h) in
          (r.0, subst (λ (n : ℕ). payer ≤ n) (sym (length-map s.payers.items payer_seen)) r.1);
    }) timely)
