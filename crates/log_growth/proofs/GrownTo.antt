-- Settings of which nothing has not grown have grown.
use Rattle.std.proofs.Common.{◌≡◌, ℕ, length, Some, None, refl, sym, ◌∙◌}
use Rattle.bin_routes.specs.Fault.{first_fault}
use Rattle.bin_routes.specs.Key.{RouteKey}
use Rattle.bin_routes.specs.Table.{routes_of, payer_of, payer_under}
use Rattle.world_setup.specs.Seen.{settings_seen}
use Rattle.world_setup.specs.Taken.{routes_in}
use Rattle.world_setup.specs.declared.settings.WorldSettings.{WorldSettings}
use Rattle.log_growth.specs.Compared.{first_ungrown, node_ungrown, route_ungrown, HasGrownTo}
use Rattle.log_growth.proofs.NodesGrown.{neither, nodes_grow}
use Rattle.log_growth.proofs.RoutesGrown.{routes_widen, routes_widen_for, all_stay, rejects_left, under, routed}
use Rattle.log_growth.proofs.RejectedRows.{still_open}
use Rattle.log_growth.proofs.Among.{under_rows, more_switches}

pub grown_to : (old new : WorldSettings) → first_fault (length old.payers.items) old.routes.items ≡ None → first_fault (length new.payers.items) new.routes.items ≡ None → first_ungrown old new ≡ None → HasGrownTo old new
grown_to old new before rows none =
    let p = neither (node_ungrown (settings_seen old) (settings_seen new)) (route_ungrown old.pharmacies.items old.routes.items new.routes.items) none in
    let n = nodes_grow (settings_seen old) (settings_seen new) p.0 in
    let switches = more_switches old new n.switches in
    record {
      own = record {
        widens = record {
          reading = refl;
          switches = switches;
          routes = λ number key payer who e.
              widen number key payer p.1 (routes_widen_for (length new.payers.items) old.pharmacies.items old.routes.items new.routes.items rows p.1 key payer who.pharmacy who.number who.at who.qualifier_is who.provider_is) e;
        };
        nodes = record { pharmacies = n.pharmacies; switches = n.switches; payers = n.payers };
      };
      all = λ plainly. record {
        widens = record {
          reading = refl;
          switches = switches;
          routes = λ number key payer e. widen number key payer p.1 (routes_widen (length new.payers.items) old.pharmacies.items old.routes.items new.routes.items rows p.1 plainly key payer) e;
        };
        pharmacies = n.pharmacies;
        switches = n.switches;
        payers = n.payers;
      };
    }
  where
    -- a request whose key has its payer still has it still
    widen : (number : ℕ) (key : RouteKey) (payer : ℕ) → route_ungrown old.pharmacies.items old.routes.items new.routes.items ≡ None
        → (payer_of (routes_of old.routes.items) key ≡ Some payer → payer_of (routes_of new.routes.items) key ≡ Some payer)
        → payer_under (routes_in old) number key ≡ Some payer → payer_under (routes_in new) number key ≡ Some payer
    widen number key payer grown last e =
        let u = under old.routes.items number key payer (sym (under_rows old number key) ∙ e) in
        under_rows new number key
        ∙ routed new.routes.items number key payer
        (still_open (length old.payers.items) (length new.payers.items) old.routes.items new.routes.items before rows (all_stay old.pharmacies.items old.routes.items new.routes.items grown)
        (rejects_left old.pharmacies.items old.routes.items new.routes.items grown) number key u.of_key u.unrejected)
        (last u.payer_is)
