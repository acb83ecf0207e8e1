-- Runs that merge logs, with the packets that are sent in them.
use Rattle.std.specs.Prelude.{◌≡◌, List, map, Option, MatchOption}
use Rattle.claim_model.specs.Logs.{NodeLog}
use Rattle.world_setup.specs.Seen.{event_seen, packet_seen}
use Rattle.world_setup.specs.declared.settings.WorldSettings.{WorldSettings}
use Rattle.run_merge.specs.Merged.{IsMerged, NoMerge, packets_after}
use Rattle.run_merge.specs.declared.known.MergedRun.{MergedRun}

-- a run that has these logs: its events are a legal interleaving of them, and its packets are all that are sent
pub record IsRunOf (s : WorldSettings) (logs : List NodeLog) (r : MergedRun) : Type 0 where
  pub merged : IsMerged s logs (map event_seen r.events.items)
  pub packets : map packet_seen r.packets.items ≡ packets_after s (map event_seen r.events.items)

-- such a run, if there is one
abbrev pub RunOf : WorldSettings → List NodeLog → Option MergedRun → Type 0
RunOf s logs found = MatchOption found (NoMerge s logs) (IsRunOf s logs)
