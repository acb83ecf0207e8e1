use Rattle.std.proofs.Common.{ap, ◌∙◌}
use Rattle.world_setup.specs.Seen.{node_seen, settings_seen}
use Rattle.world_setup.specs.declared.settings.WorldSettings.{WorldSettings}
use Rattle.node_log.specs.ExistingNodes.{is_there}
use Rattle.claimnode.proofs.checking.has_node.Goals as goal

pub returns-clause-told : goal.returns-clause-told
returns-clause-told c = record {
  settings = c.in_ok-settings.settings;
  spells = c.in_ok-settings.ensures.spelled;
  there = c.is_there.ensures.value ∙ ap (λ (s : WorldSettings). is_there (settings_seen s) (node_seen c.args.node)) c.settings-2.ensures.kept;
}
