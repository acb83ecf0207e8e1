-- Why the logs of a system that has ended are not judged to have a run.
use Rattle.std.specs.Prelude.{◌≡◌, List, Option, MatchOption}
use Rattle.std.specs.List.{AllByRecursion}
use Rattle.world_setup.specs.declared.settings.WorldSettings.{WorldSettings}
use Rattle.node_log.specs.LogSeen.{logs_seen}
use Rattle.run_merge.specs.Merged.{NoMerge}
use Rattle.node_log.specs.declared.log.NodeLog.{NodeLog}
use Rattle.node_logged.specs.Tills.{Till}
use Rattle.node_logged.specs.Ledgers.{Ledger}
use Rattle.node_logged.specs.Judged.{AreAsMany, AllReceipts, AllHeard, Lacks}
use Rattle.node_logged.specs.Replayed.{ledgers_of}
use Rattle.node_logged.specs.declared.judging.objection.Objection.{Objection}
use Rattle.node_logged.specs.declared.judging.objection.Objection.TheVariants as objection
use Rattle.node_logged.specs.declared.judging.finish_fault.FinishFault.{FinishFault}
use Rattle.node_logged.specs.declared.judging.finish_fault.FinishFault.TheVariants as fault

-- each pharmacy has as many receipts as entries, and of some the receipts are not the entries'
pub record MissReceipts (tills : List Till) (ledgers : List Ledger) : Type 0 where
  pub counts : AllByRecursion (AreAsMany tills) ledgers
  pub differ : AllReceipts tills ledgers → ⊥

-- the receipts are the entries', and some answer that was heard is not the journal's
pub record HeardOthers (tills : List Till) (ledgers : List Ledger) : Type 0 where
  pub receipts : AllReceipts tills ledgers
  pub differ : AllHeard tills ledgers → ⊥

-- the receipts are the entries', and what was heard is the journals'
pub record AreRight (tills : List Till) (ledgers : List Ledger) : Type 0 where
  pub receipts : AllReceipts tills ledgers
  pub heard : AllHeard tills ledgers

-- what speaks against the tills stands, and nothing before it
abbrev pub Stands : List Till → List Ledger → Objection → Type 0
Stands tills ledgers (objection.TillMissing pharmacy) = Lacks tills ledgers pharmacy
Stands tills ledgers objection.ReceiptMissing = MissReceipts tills ledgers
Stands tills ledgers objection.HeardDiffers = HeardOthers tills ledgers

-- what speaks against the tills; they are right where nothing does
abbrev pub ObjectionTo : List Till → List Ledger → Option Objection → Type 0
ObjectionTo tills ledgers found = MatchOption found (AreRight tills ledgers) (Stands tills ledgers)

-- each cause stands, and none before it; the logs are those that were judged. Want of memory says nothing
abbrev pub IsCause : WorldSettings → List NodeLog → List Till → FinishFault → Type 0
IsCause s logs tills fault.OutOfMemory = Unit {0}
IsCause s logs tills (fault.TillMissing pharmacy kept) = (kept.items ≡ logs) × Lacks tills (ledgers_of s (logs_seen logs)) pharmacy
IsCause s logs tills (fault.ReceiptMissing kept) = (kept.items ≡ logs) × MissReceipts tills (ledgers_of s (logs_seen logs))
IsCause s logs tills (fault.HeardDiffers kept) = (kept.items ≡ logs) × HeardOthers tills (ledgers_of s (logs_seen logs))
IsCause s logs tills (fault.Tangled kept) = (kept.items ≡ logs) × AreRight tills (ledgers_of s (logs_seen logs)) × NoMerge s (logs_seen logs)
