-- What a node's calls lead to.
use Rattle.std.specs.Prelude.{List, Option}
use Rattle.std.specs.Option.{option_map}
use Rattle.claim_model.specs.Bytes.{bytes_with}
use Rattle.claim_model.specs.Settings.{opening}
use Rattle.claim_model.specs.Node.{Node}
use Rattle.claim_model.specs.Nodes.{AnyNode, node_at}
use Rattle.claim_model.specs.Logs.{Logged, replay}
use Rattle.world_setup.specs.Seen.{settings_seen}
use Rattle.world_setup.specs.declared.settings.WorldSettings.{WorldSettings}
use Rattle.world_setup.specs.Taken.{routes_in}

-- the node of that name after these calls, from its opening state, where it is there
abbrev pub replayed : WorldSettings → Node → List Logged → Option AnyNode
replayed s node calls = option_map (λ n. replay (bytes_with (routes_in s)) n calls) (node_at (opening (settings_seen s)) node)
