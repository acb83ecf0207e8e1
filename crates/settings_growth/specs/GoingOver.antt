-- What holds of logs under settings that grow.
use Rattle.std.specs.Prelude.{◌≡◌, ℕ, List, [], ◌++◌, Some}
use Rattle.std.specs.List.{AllByRecursion}
use Rattle.claim_model.specs.Context.{Context}
use Rattle.claim_model.specs.Node.{Node}
use Rattle.claim_model.specs.Settings.{WorldSettings, opening}
use Rattle.claim_model.specs.Nodes.{AnyNode, node_at}
use Rattle.claim_model.specs.Logs.{Logged, NodeLog, replay, Makes}
use Rattle.claim_model.specs.Interleavings.{OnePerNode}
use Rattle.settings_growth.specs.Growth.{with_cap}

-- a log goes over: its node is there under the new settings, alike in all but the cap, makes the log, and comes to the same node, alike in all but the cap
pub record GoesOver (ctx wider : Context) (t : WorldSettings) (node : Node) (before : AnyNode) (log : List Logged) : Type 0 where
  pub cap : ℕ
  pub opens : node_at (opening t) node ≡ Some (with_cap cap before)
  pub makes : Makes wider (with_cap cap before) log
  pub leads : replay wider (with_cap cap before) log ≡ with_cap cap (replay ctx before log)

-- to logs there are added such of new nodes, which are empty
pub record Added (t : WorldSettings) (logs more : List NodeLog) : Type 0 where
  pub one : OnePerNode t (logs ++ more)
  pub empty : AllByRecursion (λ (log : NodeLog). log.calls ≡ []) more
