-- The ledgers of logs are those of the world that their interleavings lead to.
use Rattle.std.proofs.Common.{◌≡◌, ℕ, zero, suc, ◌+◌, List, [], ◌∷◌, Option, Some, None, slice_get, refl, sym, ap, ◌∙◌, subst, arith}
use Rattle.std.specs.Prelude.{is_some, option_map}
use Rattle.claim_model.specs.Context.{Context}
use Rattle.claim_model.specs.Journal.{Journal, JournalAtRest}
use Rattle.claim_model.specs.Node.{Node, Pharmacy, Power}
use Rattle.claim_model.specs.Numbered.{numbered}
use Rattle.claim_model.specs.Settings.{opening}
use Rattle.claim_model.specs.Settings as model
use Rattle.claim_model.specs.World.{World, Event, run}
use Rattle.claim_model.proofs.Lists.{all_at}
use Rattle.claim_model.specs.Nodes.{AnyNode, OfPharmacy, node_at}
use Rattle.claim_model.specs.Logs.{Logged, NodeLog, log_in, replay}
use Rattle.claim_model.specs.Interleavings.{HasLog, IsInterleaving}
use Rattle.claim_model.proofs.Replaying.{replays, absent_stays}
use Rattle.world_setup.specs.Seen.{settings_seen}
use Rattle.world_setup.specs.declared.settings.WorldSettings.{WorldSettings}
use Rattle.run_merge.specs.Naming.{calls_of}
use Rattle.run_merge.specs.Merged.{IsMerged}
use Rattle.run_merge.proofs.Lines.{calls_at}
use Rattle.run_merge.proofs.Merging.{legal_distinct}
use Rattle.node_logged.specs.Setting.{context_of}
use Rattle.node_logged.specs.Replayed.{entries_in, ledger_after, ledger_in, ledgers_from, ledgers_of, AreOfWorld}
use Rattle.node_logged.proofs.Replaying.{stays_one}

-- the ledger at a place
ledger_at : (ctx : Context) (logs : List NodeLog) (m : ℕ) (ps : List (Power Journal JournalAtRest)) (k : ℕ) → slice_get (ledgers_from ctx logs m ps) k ≡ option_map (ledger_after ctx logs (m + k)) (slice_get ps k)
ledger_at ctx logs m [] k = refl
ledger_at ctx logs m (p ∷ ps) zero = let here : m ≡ m + 0 = omega arith in ap (λ (n : ℕ). Some (ledger_after ctx logs n p)) here
ledger_at ctx logs m (p ∷ ps) (suc k) =
    let next : m + 1 + k ≡ m + suc k = omega arith in
    ledger_at ctx logs (m + 1) ps k ∙ ap (λ (n : ℕ). option_map (ledger_after ctx logs n) (slice_get ps k)) next

-- the log of a node in an interleaving is what the logs have of it
log_is : (ctx : Context) (s : model.WorldSettings) (logs : List NodeLog) (es : List Event) (node : Node) → IsInterleaving ctx s logs es → HasLog logs node → log_in ctx (opening s) es node ≡ calls_of logs node
log_is ctx s logs es node l has = by has.number has.log has.at has.names
  where
    by : (n : ℕ) (log : NodeLog) → numbered logs n ≡ Some log → log.node ≡ node → log_in ctx (opening s) es node ≡ calls_of logs node
    by zero log e is = absurd cc
    by (suc k) log e is =
        let same : log_in ctx (opening s) es log.node ≡ log.calls = all_at (λ x. log_in ctx (opening s) es x.node ≡ x.calls) logs (suc k) log l.same e in
        subst (λ (x : Node). log_in ctx (opening s) es x ≡ calls_of logs x) is (same ∙ sym (calls_at logs k log (legal_distinct ctx s logs es l) e))

-- a pharmacy of a world, by the node of its name
none_there : (o : Option (Power Journal JournalAtRest)) → option_map OfPharmacy o ≡ None → o ≡ None
none_there None e = refl
none_there (Some p) e = absurd cc

one_there : (o : Option (Power Journal JournalAtRest)) (q : Power Journal JournalAtRest) → option_map OfPharmacy o ≡ Some (OfPharmacy q) → o ≡ Some q
one_there None q e = absurd cc
one_there (Some p) q e = let same : OfPharmacy p ≡ OfPharmacy q = cc in let is : p ≡ q = cc in ap (λ (r : Power Journal JournalAtRest). Some r) is

-- the ledger in a world whose pharmacy is the replay of these calls
ledger_there : (ctx : Context) (logs : List NodeLog) (w : World) (number : ℕ) (p : Power Journal JournalAtRest) → node_at w (Pharmacy number) ≡ Some (replay ctx (OfPharmacy p) (calls_of logs (Pharmacy number))) → Some (ledger_after ctx logs number p) ≡ ledger_in w number
ledger_there ctx logs w number p e =
    let s = stays_one ctx p (calls_of logs (Pharmacy number)) in
    let there : numbered w.pharmacies number ≡ Some s.0 = one_there (numbered w.pharmacies number) s.0 (e ∙ ap (λ (n : AnyNode). Some n) s.1) in
    let left : Some (ledger_after ctx logs number p) ≡ Some (record { pharmacy = number; entries = entries_in (OfPharmacy s.0) }) = ap (λ (n : AnyNode). Some (record { pharmacy = number; entries = entries_in n })) s.1 in
    left ∙ ap (λ (o : Option (Power Journal JournalAtRest)). option_map (λ j. record { pharmacy = number; entries = j.entries }) (option_map Rattle.claim_model.specs.Held.journal_in o)) (sym there)

agree_at : (ctx : Context) (s : model.WorldSettings) (logs : List NodeLog) (es : List Event) (k : ℕ) → IsInterleaving ctx s logs es → (o : Option (Power Journal JournalAtRest)) → slice_get (opening s).pharmacies k ≡ o
    → option_map (ledger_after ctx logs (suc k)) o ≡ ledger_in (run ctx (opening s) es) (suc k)
agree_at ctx s logs es k l None e =
    let none : node_at (opening s) (Pharmacy (suc k)) ≡ None = ap (option_map OfPharmacy) e in
    let gone : numbered (run ctx (opening s) es).pharmacies (suc k) ≡ None = none_there (numbered (run ctx (opening s) es).pharmacies (suc k)) (absent_stays ctx (opening s) es (Pharmacy (suc k)) none).1 in
    ap (λ (o : Option (Power Journal JournalAtRest)). option_map (λ j. record { pharmacy = suc k; entries = j.entries }) (option_map Rattle.claim_model.specs.Held.journal_in o)) (sym gone)
agree_at ctx s logs es k l (Some p) e =
    let opens : node_at (opening s) (Pharmacy (suc k)) ≡ Some (OfPharmacy p) = ap (option_map OfPharmacy) e in
    let has = l.one.each (Pharmacy (suc k)) (ap is_some opens) in
    let leads = (replays ctx (opening s) es (Pharmacy (suc k)) (OfPharmacy p) opens).leads in
    ledger_there ctx logs (run ctx (opening s) es) (suc k) p
    (leads ∙ ap (λ (calls : List Logged). Some (replay ctx (OfPharmacy p) calls)) (log_is ctx s logs es (Pharmacy (suc k)) l has))

-- the ledgers of logs that are merged are those of the world
pub agree : (s : WorldSettings) (logs : List NodeLog) (es : List Event) → IsMerged s logs es → AreOfWorld (ledgers_of s logs) (run (context_of s) (opening (settings_seen s)) es)
agree s logs es m zero = refl
agree s logs es m (suc k) =
    let ctx = context_of s in
    let ps = (opening (settings_seen s)).pharmacies in
    let next : 1 + k ≡ suc k = omega arith in
    ledger_at ctx logs 1 ps k ∙ (ap (λ (n : ℕ). option_map (ledger_after ctx logs n) (slice_get ps k)) next ∙ agree_at ctx (settings_seen s) logs es k m.legal (slice_get ps k) refl)
