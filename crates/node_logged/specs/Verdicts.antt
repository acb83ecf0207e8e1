-- What the end of a system tells, of the logs that its answer carries.
use Rattle.std.specs.Prelude.{◌≡◌, List, [], map}
use Rattle.claim_model.specs.Logs as model
use Rattle.world_setup.specs.Seen.{event_seen}
use Rattle.world_setup.specs.declared.settings.WorldSettings.{WorldSettings}
use Rattle.node_log.specs.LogSeen.{logs_seen}
use Rattle.run_merge.specs.Merged.{IsMerged}
use Rattle.node_log.specs.declared.log.NodeLog.{NodeLog}
use Rattle.node_logged.specs.Tills.{Till}
use Rattle.node_logged.specs.Setting.{world_after_run}
use Rattle.node_logged.specs.Replayed.{AreOfWorld, ledgers_of}
use Rattle.node_logged.specs.Judged.{AllReceipts, AllHeard}
use Rattle.node_logged.specs.declared.judging.verdict.Finished.{Finished}
use Rattle.node_logged.specs.declared.judging.finish_fault.FinishFault.{FinishFault}
use Rattle.node_logged.specs.declared.judging.finish_fault.FinishFault.TheVariants as fault

-- the events are a legal interleaving of the logs, the world is their run, and the tills have the receipts and answers of the world's journals
pub record IsRun (s : WorldSettings) (tills : List Till) (f : Finished) (logs : List NodeLog) : Type 0 where
  pub events : IsMerged s (logs_seen logs) (map event_seen f.events.items)
  pub world : f.world ≡ world_after_run s (map event_seen f.events.items)
  pub ledgers : AreOfWorld (ledgers_of s (logs_seen logs)) f.world.world
  pub receipts : AllReceipts tills (ledgers_of s (logs_seen logs))
  pub heard : AllHeard tills (ledgers_of s (logs_seen logs))

-- the logs that a refusal carries; want of memory has none
abbrev pub logs_in : FinishFault → List NodeLog
logs_in fault.OutOfMemory = []
logs_in (fault.TillMissing pharmacy logs) = logs.items
logs_in (fault.ReceiptMissing logs) = logs.items
logs_in (fault.HeardDiffers logs) = logs.items
logs_in (fault.Tangled logs) = logs.items

-- a refusal carries these logs; want of memory carries none
abbrev pub CarriesLogs : FinishFault → List model.NodeLog → Type 0
CarriesLogs fault.OutOfMemory logs = Unit {0}
CarriesLogs (fault.TillMissing pharmacy kept) logs = logs_seen kept.items ≡ logs
CarriesLogs (fault.ReceiptMissing kept) logs = logs_seen kept.items ≡ logs
CarriesLogs (fault.HeardDiffers kept) logs = logs_seen kept.items ≡ logs
CarriesLogs (fault.Tangled kept) logs = logs_seen kept.items ≡ logs
