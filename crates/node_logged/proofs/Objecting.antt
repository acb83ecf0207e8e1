-- What speaks against tills, and what that is a cause for.
use Rattle.std.proofs.Common.{◌≡◌, ℕ, Bool, true, false, cond, List, Option, Some, None, Result, Ok, Err, IfOk, MatchOption, refl, sym, subst}
use Rattle.std.specs.List.{list_all}
use Rattle.std.proofs.lemmas.Bool.{both_ways}
use Rattle.claim_model.specs.Settings.{opening}
use Rattle.claim_model.specs.Logs.{NodeLog}
use Rattle.world_setup.specs.Seen.{settings_seen}
use Rattle.world_setup.specs.declared.settings.WorldSettings.{WorldSettings}
use Rattle.node_logged.specs.Tills.{Till}
use Rattle.node_logged.specs.Ledgers.{lacking, has_receipts, has_answers}
use Rattle.node_logged.specs.Setting.{context_of}
use Rattle.node_logged.specs.Replayed.{ledgers_of}
use Rattle.node_logged.specs.Objections.{first_objection, objection_by}
use Rattle.node_logged.specs.Causes.{AreRight, Stands}
use Rattle.node_logged.specs.declared.judging.objection.Objection.{Objection}
use Rattle.node_logged.specs.declared.judging.objection.Objection.TheVariants.{ReceiptMissing, HeardDiffers}
use Rattle.node_logged.proofs.Judged.{all_receipts, receipts_all, all_counts, all_heard, heard_all, lacks}

told : (s : WorldSettings) (logs : List NodeLog) (tills : List Till) → MatchOption (first_objection tills (ledgers_of s logs)) (AreRight tills (ledgers_of s logs)) (Stands tills (ledgers_of s logs))
told s logs tills = by (lacking tills (ledgers_of s logs)) refl
  where
    heard : (a b : Bool) → list_all (has_receipts tills) (ledgers_of s logs) ≡ a → list_all (has_answers tills) (ledgers_of s logs) ≡ b → lacking tills (ledgers_of s logs) ≡ None
        → MatchOption (cond a (cond b None (Some HeardDiffers)) (Some ReceiptMissing)) (AreRight tills (ledgers_of s logs)) (Stands tills (ledgers_of s logs))
    heard true true a b l = record { receipts = all_receipts tills (ledgers_of s logs) l a; heard = all_heard tills (ledgers_of s logs) b }
    heard true false a b l = record { receipts = all_receipts tills (ledgers_of s logs) l a; differ = λ h. both_ways (list_all (has_answers tills) (ledgers_of s logs)) b (heard_all tills (ledgers_of s logs) h) }
    heard false b a e l = record { counts = all_counts tills (ledgers_of s logs) l; differ = λ h. both_ways (list_all (has_receipts tills) (ledgers_of s logs)) a (receipts_all tills (ledgers_of s logs) h) }

    by : (o : Option ℕ) → lacking tills (ledgers_of s logs) ≡ o → MatchOption (objection_by o tills (ledgers_of s logs)) (AreRight tills (ledgers_of s logs)) (Stands tills (ledgers_of s logs))
    by None l = heard (list_all (has_receipts tills) (ledgers_of s logs)) (list_all (has_answers tills) (ledgers_of s logs)) refl refl l
    by (Some pharmacy) l = lacks (context_of s) logs tills (opening (settings_seen s)).pharmacies pharmacy l

-- the first objection stands, and nothing before it
pub objections_stand : {E : Type 0} (s : WorldSettings) (logs : List NodeLog) (tills : List Till) (r : Result (Option Objection) E) → IfOk r (λ o. o ≡ first_objection tills (ledgers_of s logs))
    → IfOk r (λ o. MatchOption o (AreRight tills (ledgers_of s logs)) (Stands tills (ledgers_of s logs)))
objections_stand s logs tills (Ok o) e = subst (λ (o : Option Objection). MatchOption o (AreRight tills (ledgers_of s logs)) (Stands tills (ledgers_of s logs))) (sym e) (told s logs tills)
objections_stand s logs tills (Err fault) e = tt
