-- Ledgers after the calls of logs.
use Rattle.std.proofs.Common.{◌≡◌, ℕ, zero, suc, ◌+◌, ◌<◌, ◌≤◌, List, [], ◌∷◌, ◌++◌, drop, length, Option, Some, None, slice_get, refl, sym, ap, ◌∙◌, subst, arith, append_assoc}
use Rattle.std.specs.Prelude.{IsSome, option_map}
use Rattle.std.proofs.lemmas.Bool.{lt-ltb}
use Rattle.std.proofs.lemmas.List.{append-nil, drop_all}
use Rattle.claim_model.specs.Context.{Context}
use Rattle.claim_model.specs.Journal.{PharmacySettings, Journal, JournalAtRest}
use Rattle.claim_model.specs.Node.{Power, Outcome, Done, Refused, pharmacy_step}
use Rattle.claim_model.specs.Numbered.{numbered}
use Rattle.claim_model.specs.Settings.{pharmacies_from}
use Rattle.claim_model.specs.Nodes.{AnyNode, OfPharmacy, as_node}
use Rattle.claim_model.specs.Logs.{Logged, NodeLog, node_after, replay}
use Rattle.node_state.specs.Nodes.{journal_of}
use Rattle.node_state.proofs.Openings.{length-pharmacies_from}
use Rattle.node_log.proofs.Opens.{pharmacy_there}
use Rattle.node_logged.specs.Ledgers.{Ledger}
use Rattle.node_logged.specs.Replayed.{ledger_after, ledgers_from}

-- the pharmacy at a place is there
pub there_at : (ss : List PharmacySettings) (k : ℕ) → k < length ss → IsSome (option_map OfPharmacy (numbered (pharmacies_from 1 ss) (k + 1)))
there_at ss k h =
    let e : suc k ≡ k + 1 = omega arith in
    subst (λ (n : ℕ). IsSome (option_map OfPharmacy (numbered (pharmacies_from 1 ss) n))) e (sym (pharmacy_there ss (length ss) (suc k) refl) ∙ lt-ltb k (length ss) h)

-- a pharmacy stays one, whatever calls are made
pub stays_one : (ctx : Context) (p : Power Journal JournalAtRest) (log : List Logged) → (q : Power Journal JournalAtRest) × (replay ctx (OfPharmacy p) log ≡ OfPharmacy q)
stays_one ctx p [] = (p, refl)
stays_one ctx p (l ∷ log) = by (λ r. stays_one ctx r log) (pharmacy_step ctx p l.call)
  where
    by : ((r : Power Journal JournalAtRest) → (q : Power Journal JournalAtRest) × (replay ctx (OfPharmacy r) log ≡ OfPharmacy q)) → (o : Outcome (Power Journal JournalAtRest))
        → (q : Power Journal JournalAtRest) × (replay ctx (node_after (OfPharmacy p) (as_node OfPharmacy o)) log ≡ OfPharmacy q)
    by again (Done next sent) = again next
    by again (Refused why) = again p

-- so it has a journal
pub has_journal : (ctx : Context) (calls : List Logged) (o : Option (Power Journal JournalAtRest)) (n : AnyNode) → option_map (λ s. replay ctx s calls) (option_map OfPharmacy o) ≡ Some n → journal_of n ≡ None → ⊥
has_journal ctx calls None n e none = absurd cc
has_journal ctx calls (Some p) n e none =
    let s = stays_one ctx p calls in
    let is : ◌≡◌ {A = Option AnyNode} (Some (OfPharmacy s.0)) (Some n) = ap (λ (m : AnyNode). Some m) (sym s.1) ∙ e in
    let same : OfPharmacy s.0 ≡ n = cc in
    let some : journal_of (OfPharmacy s.0) ≡ None = ap journal_of same ∙ none in
    absurd cc

-- the list from a place on, by what stands there
rest_at : {A : Type 0} (xs : List A) (k : ℕ) (x : A) → slice_get xs k ≡ Some x → drop k xs ≡ x ∷ drop (suc k) xs
rest_at [] k x e = absurd cc
rest_at (y ∷ xs) zero x e = let same : y ≡ x = cc in ap (λ z. z ∷ xs) same
rest_at (y ∷ xs) (suc k) x e = rest_at xs k x e

-- one ledger more
pub ledgers_step : (ctx : Context) (logs : List NodeLog) (ps : List (Power Journal JournalAtRest)) (k : ℕ) (before new all : List Ledger) (l : Ledger) → option_map (ledger_after ctx logs (k + 1)) (numbered ps (k + 1)) ≡ Some l → new ≡ before ++ l ∷ []
    → before ++ ledgers_from ctx logs (k + 1) (drop k ps) ≡ all → new ++ ledgers_from ctx logs (k + 1 + 1) (drop (k + 1) ps) ≡ all
ledgers_step ctx logs ps k before new all l e is was =
    let next : k + 1 ≡ suc k = omega arith in
    let found : option_map (ledger_after ctx logs (k + 1)) (slice_get ps k) ≡ Some l = ap (λ (n : ℕ). option_map (ledger_after ctx logs (k + 1)) (numbered ps n)) (sym next) ∙ e in
    let more : ledgers_from ctx logs (k + 1) (drop k ps) ≡ l ∷ ledgers_from ctx logs (k + 1 + 1) (drop (k + 1) ps) =
    by (slice_get ps k) refl found ∙ ap (λ (n : ℕ). l ∷ ledgers_from ctx logs (k + 1 + 1) (drop n ps)) (sym next) in
    ap (λ ls. ls ++ ledgers_from ctx logs (k + 1 + 1) (drop (k + 1) ps)) is ∙ (append_assoc before (l ∷ []) (ledgers_from ctx logs (k + 1 + 1) (drop (k + 1) ps)) ∙ (ap (λ ls. before ++ ls) (sym more) ∙ was))
  where
    by : (o : Option (Power Journal JournalAtRest)) → slice_get ps k ≡ o → option_map (ledger_after ctx logs (k + 1)) o ≡ Some l → ledgers_from ctx logs (k + 1) (drop k ps) ≡ l ∷ ledgers_from ctx logs (k + 1 + 1) (drop (suc k) ps)
    by None g f = absurd cc
    by (Some p) g f =
        let same : ledger_after ctx logs (k + 1) p ≡ l = cc in
        ap (ledgers_from ctx logs (k + 1)) (rest_at ps k p g) ∙ ap (λ (x : Ledger). x ∷ ledgers_from ctx logs (k + 1 + 1) (drop (suc k) ps)) same

-- all ledgers
pub ledgers_end : (ctx : Context) (logs : List NodeLog) (ss : List PharmacySettings) (k : ℕ) (made all : List Ledger) → length ss ≤ k → made ++ ledgers_from ctx logs (k + 1) (drop k (pharmacies_from 1 ss)) ≡ all → made ≡ all
ledgers_end ctx logs ss k made all h was =
    let few : length (pharmacies_from 1 ss) ≤ k = subst (λ (n : ℕ). n ≤ k) (sym (length-pharmacies_from 1 ss)) h in
    let none : ledgers_from ctx logs (k + 1) (drop k (pharmacies_from 1 ss)) ≡ [] = ap (ledgers_from ctx logs (k + 1)) (drop_all k (pharmacies_from 1 ss) few) in
    sym (append-nil made) ∙ (ap (λ ls. made ++ ls) (sym none) ∙ was)
