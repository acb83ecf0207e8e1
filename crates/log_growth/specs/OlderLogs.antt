-- A log that its node made under settings that have grown since.
use Rattle.std.specs.Prelude.{◌≡◌, ℕ, List, Some}
use Rattle.claim_model.specs.Settings.{opening}
use Rattle.claim_model.specs.Nodes.{AnyNode, node_at}
use Rattle.claim_model.specs.Logs.{Makes}
use Rattle.world_setup.specs.Seen.{settings_seen}
use Rattle.world_setup.specs.declared.settings.WorldSettings.{WorldSettings}
use Rattle.kept_logs.specs.Stamps.{KeptLog, bare_calls}
use Rattle.kept_logs.specs.Logs.{kept_text, KeptAs}
use Rattle.node_service.specs.Opened.{Spells}
use Rattle.settings_digest.specs.Digests.{digest_in}
use Rattle.settings_growth.specs.Growth.{NodesGrow, RoutesLast, RejectionsStay}
use Rattle.log_growth.specs.Compared.{reading_of, GrowsTo}

-- a log was made by its node under the old settings, and what a switch rejected for want of a route has none under the new ones, which the text
-- spells and under which the text of the log reads back
pub record WasMade (text : List ℕ) (log : KeptLog) : Type 0 where
  pub before : WorldSettings
  pub after : WorldSettings
  pub spells : Spells text after
  pub grows : GrowsTo before after
  pub node : AnyNode
  pub opens : node_at (opening (settings_seen before)) log.node ≡ Some node
  pub makes : Makes (reading_of before) node (bare_calls log.calls)
  pub stays : RejectionsStay (reading_of before) (reading_of after) log.node (bare_calls log.calls)
  pub back : KeptAs (digest_in text) (kept_text (digest_in text) log) log

-- a log was made by its node under the old settings, whose nodes have grown; each request in it has the payer that it had, and what a switch rejected for
-- want of a route has none under the new ones
pub record WasMadeWithRoutes (text : List ℕ) (log : KeptLog) : Type 0 where
  pub before : WorldSettings
  pub after : WorldSettings
  pub spells : Spells text after
  pub grows : NodesGrow (settings_seen before) (settings_seen after)
  pub node : AnyNode
  pub opens : node_at (opening (settings_seen before)) log.node ≡ Some node
  pub makes : Makes (reading_of before) node (bare_calls log.calls)
  pub last : RoutesLast (reading_of before) (reading_of after) (bare_calls log.calls)
  pub stays : RejectionsStay (reading_of before) (reading_of after) log.node (bare_calls log.calls)
  pub back : KeptAs (digest_in text) (kept_text (digest_in text) log) log
