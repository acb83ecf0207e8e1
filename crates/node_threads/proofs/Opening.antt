-- The nodes of the settings are there.
use Rattle.std.proofs.Common.{◌≡◌, ℕ, suc, ◌+◌, ◌<◌, length, refl, sym, subst, ◌∙◌, arith}
use Rattle.std.specs.Prelude.{IsSome}
use Rattle.std.proofs.lemmas.Bool.{lt-ltb}
use Rattle.claim_model.specs.Node.{Pharmacy, Switch, Payer}
use Rattle.world_setup.specs.declared.settings.WorldSettings.{WorldSettings}
use Rattle.node_log.proofs.Opens.{pharmacy_there, switch_there, payer_there}
use Rattle.node_logged.specs.Setting.{opened}
use Rattle.node_threads.specs.Halls.{kind_count, kind_node}
use Rattle.node_threads.specs.declared.hall.NodeKind.{NodeKind}
use Rattle.node_threads.specs.declared.hall.NodeKind.TheVariants as kind

pharmacy_opens : (s : WorldSettings) (k : ℕ) → k < length s.pharmacies.items → IsSome (opened s (Pharmacy (k + 1)))
pharmacy_opens s k there =
    let next : suc k ≡ k + 1 = omega arith in
    subst (λ (n : ℕ). IsSome (opened s (Pharmacy n))) next
    (sym (pharmacy_there s.pharmacies.items (length s.pharmacies.items) (suc k) refl) ∙ lt-ltb k (length s.pharmacies.items) there)

switch_opens : (s : WorldSettings) (k : ℕ) → k < length s.switches.items → IsSome (opened s (Switch (k + 1)))
switch_opens s k there =
    let next : suc k ≡ k + 1 = omega arith in
    subst (λ (n : ℕ). IsSome (opened s (Switch n))) next
    (sym (switch_there s.switches.items (length s.switches.items) (suc k) refl) ∙ lt-ltb k (length s.switches.items) there)

payer_opens : (s : WorldSettings) (k : ℕ) → k < length s.payers.items → IsSome (opened s (Payer (k + 1)))
payer_opens s k there =
    let next : suc k ≡ k + 1 = omega arith in
    subst (λ (n : ℕ). IsSome (opened s (Payer n))) next
    (sym (payer_there s.payers.items (length s.payers.items) (suc k) refl) ∙ lt-ltb k (length s.payers.items) there)

-- and each of a kind
pub kind_opens : (s : WorldSettings) (k : NodeKind) (place : ℕ) → place < kind_count s k → IsSome (opened s (kind_node k (place + 1)))
kind_opens s kind.Pharmacy place there = pharmacy_opens s place (subst (λ (n : ℕ). place < n) s.pharmacies.ok.0 there)
kind_opens s kind.Switch place there = switch_opens s place (subst (λ (n : ℕ). place < n) s.switches.ok.0 there)
kind_opens s kind.Payer place there = payer_opens s place (subst (λ (n : ℕ). place < n) s.payers.ok.0 there)
