-- A verdict, said of the logs that it carries.
use Rattle.std.proofs.Common.{◌≡◌, List, map, Result, Ok, Err, sym, ap, ◌∙◌, subst, IfOk}
use Rattle.std.specs.Prelude.{IfErr, OnOk}
use Rattle.claim_model.specs.Logs as model
use Rattle.world_setup.specs.Seen.{event_seen}
use Rattle.world_setup.specs.declared.settings.WorldSettings.{WorldSettings}
use Rattle.node_log.specs.LogSeen.{logs_seen}
use Rattle.run_merge.specs.Merged.{IsMerged}
use Rattle.node_log.specs.declared.log.NodeLog.{NodeLog}
use Rattle.node_logged.specs.Tills.{Till}
use Rattle.node_logged.specs.Setting.{world_after_run}
use Rattle.node_logged.specs.Replayed.{AreOfWorld, ledgers_of}
use Rattle.node_logged.specs.Judged.{AllReceipts, AllHeard}
use Rattle.node_logged.specs.Causes.{AreRight, IsCause}
use Rattle.node_logged.specs.Verdicts.{IsRun, logs_in, CarriesLogs}
use Rattle.node_logged.specs.declared.judging.verdict.Finished.{Finished}
use Rattle.node_logged.specs.declared.judging.finish_fault.FinishFault.{FinishFault}
use Rattle.node_logged.specs.declared.judging.finish_fault.FinishFault.TheVariants as fault
use Rattle.node_logged.proofs.Agreeing.{agree}

-- what is said of a value where there is one
pub ok_by : {A E : Type 0} (P Q : A → Type 0) (r : Result A E) → ((a : A) → P a → Q a) → IfOk r P → IfOk r Q
ok_by P Q (Ok a) f p = f a p
ok_by P Q (Err e) f p = tt

pub ok_on : {A E : Type 0} (P : A → Type 0) (Q : Type 0) (r : Result A E) → ((a : A) → P a → Q) → IfOk r P → OnOk r Q
ok_on P Q (Ok a) f p = f a p
ok_on P Q (Err e) f p = tt

pub err_by : {A E : Type 0} (P Q : E → Type 0) (r : Result A E) → ((e : E) → P e → Q e) → IfErr r P → IfErr r Q
err_by P Q (Ok a) f p = tt
err_by P Q (Err e) f p = f e p

-- a run whose tills are right in its world
pub run_right : (s : WorldSettings) (tills : List Till) (run : Finished) → IsMerged s (logs_seen run.logs.items) (map event_seen run.events.items) → run.world ≡ world_after_run s (map event_seen run.events.items)
    → AreRight tills (ledgers_of s (logs_seen run.logs.items)) → IsRun s tills run run.logs.items
run_right s tills run merged world right = record {
  events = merged;
  world = world;
  ledgers = subst (λ w. AreOfWorld (ledgers_of s (logs_seen run.logs.items)) w.world) (sym world) (agree s (logs_seen run.logs.items) (map event_seen run.events.items) merged);
  receipts = right.receipts;
  heard = right.heard;
}

-- the ledgers of the logs are those of the run's world
pub run_agrees : (s : WorldSettings) (run : Finished) → IsMerged s (logs_seen run.logs.items) (map event_seen run.events.items) → run.world ≡ world_after_run s (map event_seen run.events.items)
    → AreOfWorld (ledgers_of s (logs_seen run.logs.items)) run.world.world
run_agrees s run merged world = subst (λ w. AreOfWorld (ledgers_of s (logs_seen run.logs.items)) w.world) (sym world) (agree s (logs_seen run.logs.items) (map event_seen run.events.items) merged)

pub cause_carried : (s : WorldSettings) (tills : List Till) (logs : List NodeLog) (why : FinishFault) → IsCause s logs tills why → IsCause s (logs_in why) tills why
cause_carried s tills logs fault.OutOfMemory is = tt
cause_carried s tills logs (fault.TillMissing pharmacy kept) is = subst (λ (l : List NodeLog). IsCause s l tills (fault.TillMissing pharmacy kept)) (sym is.0) is
cause_carried s tills logs (fault.ReceiptMissing kept) is = subst (λ (l : List NodeLog). IsCause s l tills (fault.ReceiptMissing kept)) (sym is.0) is
cause_carried s tills logs (fault.HeardDiffers kept) is = subst (λ (l : List NodeLog). IsCause s l tills (fault.HeardDiffers kept)) (sym is.0) is
cause_carried s tills logs (fault.Tangled kept) is = subst (λ (l : List NodeLog). IsCause s l tills (fault.Tangled kept)) (sym is.0) is

pub logs_carried : (s : WorldSettings) (tills : List Till) (logs : List NodeLog) (seen : List model.NodeLog) (why : FinishFault) → logs_seen logs ≡ seen → IsCause s logs tills why → CarriesLogs why seen
logs_carried s tills logs seen fault.OutOfMemory e is = tt
logs_carried s tills logs seen (fault.TillMissing pharmacy kept) e is = ap (λ (l : List NodeLog). logs_seen l) is.0 ∙ e
logs_carried s tills logs seen (fault.ReceiptMissing kept) e is = ap (λ (l : List NodeLog). logs_seen l) is.0 ∙ e
logs_carried s tills logs seen (fault.HeardDiffers kept) e is = ap (λ (l : List NodeLog). logs_seen l) is.0 ∙ e
logs_carried s tills logs seen (fault.Tangled kept) e is = ap (λ (l : List NodeLog). logs_seen l) is.0 ∙ e

-- a run that is said of the logs that were judged, said of those that it carries
pub run_carried : (s : WorldSettings) (tills : List Till) (logs : List NodeLog) (r : Result Finished FinishFault) → IfOk r (λ f. f.logs.items ≡ logs) → IfOk r (λ f. IsRun s tills f logs) → IfOk r (λ f. IsRun s tills f f.logs.items)
run_carried s tills logs (Ok f) same is = subst (λ (ls : List NodeLog). IsRun s tills f ls) (sym same) is
run_carried s tills logs (Err why) same is = tt

-- what is said of a run apart, said at once
pub run_whole : (s : WorldSettings) (tills : List Till) (logs : List NodeLog) (r : Result Finished FinishFault) → IfOk r (λ f. IsMerged s (logs_seen logs) (map event_seen f.events.items))
    → IfOk r (λ f. f.world ≡ world_after_run s (map event_seen f.events.items)) → IfOk r (λ f. AreOfWorld (ledgers_of s (logs_seen logs)) f.world.world) → OnOk r (AllReceipts tills (ledgers_of s (logs_seen logs)))
    → OnOk r (AllHeard tills (ledgers_of s (logs_seen logs))) → IfOk r (λ f. IsRun s tills f logs)
run_whole s tills logs (Ok f) events world ledgers receipts heard = record { events = events; world = world; ledgers = ledgers; receipts = receipts; heard = heard }
run_whole s tills logs (Err why) events world ledgers receipts heard = tt
