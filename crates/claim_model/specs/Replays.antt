-- What the logs of a run tell of the run.
use Rattle.std.specs.Prelude.{◌≡◌, List, ◌++◌, filter, Some}
use Rattle.claim_model.specs.Context.{Context}
use Rattle.claim_model.specs.Node.{Node}
use Rattle.claim_model.specs.World.{World, Event, run}
use Rattle.claim_model.specs.Nodes.{AnyNode, node_at}
use Rattle.claim_model.specs.Logs.{log_in, replay, Makes, posted_by, is_from}

-- a node that is this one at the run's beginning makes the log by itself, and the replay of the log is the node at the run's end
pub record Replays (ctx : Context) (w : World) (events : List Event) (node : Node) (before : AnyNode) : Type 0 where
  pub makes : Makes ctx before (log_in ctx w events node)
  pub leads : node_at (run ctx w events) node ≡ Some (replay ctx before (log_in ctx w events node))

-- a node's packets at the run's end are those that stood there, and after them what its log sent, in order
abbrev pub ArePosted : Context → World → List Event → Node → Type 0
ArePosted ctx w events node = filter (is_from node) (run ctx w events).packets ≡ filter (is_from node) w.packets ++ posted_by node (log_in ctx w events node)
