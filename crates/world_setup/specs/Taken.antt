-- Which settings a world takes, and why it does not take others.
use Rattle.std.specs.Prelude.{◌≡◌, List, Bool, ◌||◌, not, nat_lt, Option, None, length}
use Rattle.std.specs.List.{list_all}
use Rattle.std.specs.Option.{option_or, option_map}
use Rattle.bin_routes.specs.Fault.{first_fault}
use Rattle.bin_routes.specs.Row.{Row}
use Rattle.bin_routes.specs.Table.{RouteMaps, routes_of, among}
use Rattle.claim_model.specs.Limits.{most_pharmacies, most_switches, most_payers}
use Rattle.claim_model.specs.Settings.{SettingsFault, settings_fault, is_empty, has_nodes}
use Rattle.claim_model.specs.Settings as model
use Rattle.world_setup.specs.declared.settings.WorldSettings.{WorldSettings}
use Rattle.world_setup.specs.Seen.{settings_seen}
use Rattle.world_setup.specs.declared.world_fault.WorldFault.{WorldFault}
use Rattle.world_setup.specs.declared.world_fault.WorldFault.TheVariants as fault

-- the fault of a world's nodes by its name
abbrev pub named : SettingsFault → WorldFault
named model.TooMany = fault.TooMany
named model.NoNode = fault.NoNode
named model.SameProvider = fault.SameProvider

-- more nodes of a kind than any settings may have
abbrev pub too_many : WorldSettings → Bool
too_many s =
    nat_lt most_pharmacies (length s.pharmacies.items) || (nat_lt most_switches (length s.switches.items) || nat_lt most_payers (length s.payers.items))

-- each pharmacy has switches to send to, all of which are there
abbrev pub all_have_nodes : WorldSettings → Bool
all_have_nodes s = list_all (has_nodes (length s.switches.items)) s.pharmacies.items

-- no node of a kind, or a pharmacy that has no switch to send to, or one that is not there
abbrev pub lacks_node : WorldSettings → Bool
lacks_node s = is_empty s.pharmacies.items || (is_empty s.switches.items || (is_empty s.payers.items || not (all_have_nodes s)))

-- what is wrong with the nodes of settings
abbrev pub nodes_fault : WorldSettings → Option WorldFault
nodes_fault s = option_map named (settings_fault (settings_seen s))

-- what is wrong with the rows of routes
abbrev pub rows_fault : WorldSettings → Option WorldFault
rows_fault s = option_map fault.BadRoute (first_fault (length s.payers.items) s.routes.items)

-- the table of these rows, among the switches of a world
unfoldable pub routes_with : model.WorldSettings → List Row → RouteMaps
routes_with world rows = among (length world.switches) (routes_of rows)

-- the table of settings
abbrev pub routes_in : WorldSettings → RouteMaps
routes_in s = routes_with (settings_seen s) s.routes.items

-- nothing is wrong with the nodes and the rows of settings, and this is the table of their routes
pub record IsTaken (s : WorldSettings) (routes : RouteMaps) : Type 0 where
  pub nodes : settings_fault (settings_seen s) ≡ None
  pub rows : first_fault (length s.payers.items) s.routes.items ≡ None
  pub table : routes ≡ routes_in s

-- the first cause for which settings make no world: their nodes, and then the rows of routes
abbrev pub world_fault : WorldSettings → Option WorldFault
world_fault s = option_or (nodes_fault s) (rows_fault s)
