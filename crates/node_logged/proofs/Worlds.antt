-- The ledgers of a world, one after another.
use Rattle.std.proofs.Common.{◌≡◌, ℕ, zero, suc, ◌+◌, ◌≤◌, List, [], ◌∷◌, ◌++◌, take, length, Option, Some, None, slice_get, refl, sym, ap, ◌∙◌, subst, arith}
use Rattle.claim_model.specs.Context.{Context}
use Rattle.claim_model.specs.Journal.{Journal, JournalAtRest}
use Rattle.claim_model.specs.Node.{Power}
use Rattle.claim_model.specs.World.{World}
use Rattle.claim_model.specs.Logs.{NodeLog}
use Rattle.world_setup.specs.declared.settings.WorldSettings.{WorldSettings}
use Rattle.node_log.proofs.Opens.{pharmacies_length}
use Rattle.node_logged.specs.Setting.{context_of}
use Rattle.node_logged.specs.Ledgers.{Ledger}
use Rattle.node_logged.specs.Replayed.{AreOfWorld, ledger_in, ledgers_from, ledgers_of}

take_found : {A : Type 0} (xs : List A) (k : ℕ) (x : A) → slice_get xs k ≡ Some x → take (suc k) xs ≡ take k xs ++ x ∷ []
take_found [] k x e = absurd cc
take_found (y ∷ xs) zero x e = let f : y ≡ x = cc in ap (λ z. z ∷ []) f
take_found (y ∷ xs) (suc k) x e = ap (λ zs. y ∷ zs) (take_found xs k x e)

take_missing : {A : Type 0} (xs : List A) (k : ℕ) → slice_get xs k ≡ None → take (suc k) xs ≡ take k xs
take_missing [] zero e = refl
take_missing [] (suc k) e = refl
take_missing (y ∷ xs) zero e = absurd cc
take_missing (y ∷ xs) (suc k) e = ap (λ zs. y ∷ zs) (take_missing xs k e)

-- the ledger of a number in a world, where the ledgers of logs are the world's
there : (s : WorldSettings) (logs : List NodeLog) (w : World) (k : ℕ) (o : Option Ledger) → AreOfWorld (ledgers_of s logs) w → o ≡ ledger_in w (k + 1) → slice_get (ledgers_of s logs) k ≡ o
there s logs w k o of e = let n : k + 1 ≡ suc k = omega arith in of (suc k) ∙ (ap (ledger_in w) (sym n) ∙ sym e)

pub one_more : (s : WorldSettings) (logs : List NodeLog) (w : World) (k : ℕ) (l : Ledger) (made new : List Ledger) → AreOfWorld (ledgers_of s logs) w → Some l ≡ ledger_in w (k + 1) → new ≡ made ++ l ∷ [] → made ≡ take k (ledgers_of s logs)
    → new ≡ take (k + 1) (ledgers_of s logs)
one_more s logs w k l made new of e is was =
    let n : suc k ≡ k + 1 = omega arith in
    is ∙ (ap (λ ls. ls ++ l ∷ []) was ∙ (sym (take_found (ledgers_of s logs) k l (there s logs w k (Some l) of e)) ∙ ap (λ (m : ℕ). take m (ledgers_of s logs)) n))

pub none_more : (s : WorldSettings) (logs : List NodeLog) (w : World) (k : ℕ) (made : List Ledger) → AreOfWorld (ledgers_of s logs) w → None ≡ ledger_in w (k + 1) → made ≡ take k (ledgers_of s logs) → made ≡ take (k + 1) (ledgers_of s logs)
none_more s logs w k made of e was =
    let n : suc k ≡ k + 1 = omega arith in
    was ∙ (sym (take_missing (ledgers_of s logs) k (there s logs w k None of e)) ∙ ap (λ (m : ℕ). take m (ledgers_of s logs)) n)

ledgers_length : (ctx : Context) (logs : List NodeLog) (m : ℕ) (ps : List (Power Journal JournalAtRest)) → length (ledgers_from ctx logs m ps) ≡ length ps
ledgers_length ctx logs m [] = refl
ledgers_length ctx logs m (p ∷ ps) = ap suc (ledgers_length ctx logs (m + 1) ps)

take_whole : {A : Type 0} (xs : List A) (k : ℕ) → length xs ≤ k → take k xs ≡ xs
take_whole [] zero h = refl
take_whole [] (suc k) h = refl
take_whole (x ∷ xs) zero h = absurd (omega (arith, h))
take_whole (x ∷ xs) (suc k) h = ap (λ zs. x ∷ zs) (take_whole xs k (omega (arith, h)))

-- all ledgers
pub all_made : (s : WorldSettings) (logs : List NodeLog) (k : ℕ) (made : List Ledger) → length s.pharmacies.items ≤ k → made ≡ take k (ledgers_of s logs) → made ≡ ledgers_of s logs
all_made s logs k made h was =
    let size = ledgers_length (context_of s) logs 1 (Rattle.claim_model.specs.Settings.pharmacies_from 1 s.pharmacies.items) ∙ sym (pharmacies_length 1 s.pharmacies.items) in
    was ∙ take_whole (ledgers_of s logs) k (subst (λ (n : ℕ). n ≤ k) (sym size) h)
