-- What logs are judged to be.
use Rattle.std.specs.Prelude.{◌≡◌, Bool, true, false, List, map, IfSome}
use Rattle.claim_model.specs.Bytes.{bytes_with}
use Rattle.claim_model.specs.Settings.{opening}
use Rattle.claim_model.specs.World.{Event, run}
use Rattle.claim_model.specs.Logs.{NodeLog}
use Rattle.world_setup.specs.Seen.{event_seen, settings_seen}
use Rattle.world_setup.specs.declared.settings.WorldSettings.{WorldSettings}
use Rattle.world_core.specs.Parts.{WorldParts}
use Rattle.run_merge.specs.Merged.{IsMerged, NoMerge}
use Rattle.log_audit.specs.declared.judging.LegalRun.{LegalRun}
use Rattle.log_audit.specs.declared.judging.Found.{Found}
use Rattle.log_audit.specs.declared.judging.Found.TheVariants.{Run, NoRun as NoneFound}
use Rattle.log_audit.specs.declared.judging.Verdict.{Verdict}
use Rattle.log_audit.specs.declared.judging.Verdict.TheVariants.{Legal, NoRun}
use Rattle.world_setup.specs.Taken.{routes_in}

-- the world that events leave after the opening of these settings
abbrev pub left_by : WorldSettings → List Event → WorldParts
left_by s events =
    record { routes = routes_in s; world = run (bytes_with (routes_in s)) (opening (settings_seen s)) events }

-- events are told where they are a legal interleaving of the logs, and none only where there is no such interleaving
abbrev pub IsJudged : WorldSettings → List NodeLog → Verdict → Type 0
IsJudged s logs (Legal events) = IsMerged s logs (map event_seen events.items)
IsJudged s logs NoRun = NoMerge s logs

-- a world that is known is the one that the events of the run leave
abbrev pub IsLeft : WorldSettings → LegalRun → Type 0
IsLeft s r = IfSome r.world (λ w. w ≡ left_by s (map event_seen r.events.items))

-- the events of the run are a legal interleaving of the logs, and a world that is known is what they leave
pub record IsLegal (s : WorldSettings) (logs : List NodeLog) (r : LegalRun) : Type 0 where
  pub merged : IsMerged s logs (map event_seen r.events.items)
  pub left : IsLeft s r

-- the same of a run that is found, and where none is that there is none
abbrev pub IsFound : WorldSettings → List NodeLog → Found → Type 0
IsFound s logs (Run r) = IsLegal s logs r
IsFound s logs NoneFound = NoMerge s logs

-- what is said of logs: that some events are a legal interleaving of them, or that none are
abbrev pub IsTold : WorldSettings → List NodeLog → Bool → Type 0
IsTold s logs true = (events : List Event) × IsMerged s logs events
IsTold s logs false = NoMerge s logs
