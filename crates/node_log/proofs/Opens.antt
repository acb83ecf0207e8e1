-- The nodes that an opening world has.
use Rattle.std.proofs.Common.{◌≡◌, ℕ, zero, suc, ◌+◌, List, [], ◌∷◌, map, length, Option, Some, None, slice_get, refl, sym, ap, ◌∙◌, inl, inr}
use Rattle.std.proofs.lemmas.Bool.{lt-ltb, le-ltb}
use Rattle.std.proofs.lemmas.Option.{slice_get_cases}
use Rattle.std.specs.Prelude.{option_map, is_some, nat_lt}
use Rattle.claim_model.specs.Numbered.{numbered}
use Rattle.claim_model.specs.Journal.{PharmacySettings}
use Rattle.claim_model.specs.Settings.{pharmacies_from, switches_of, payers_from}
use Rattle.world_setup.specs.Seen.{payer_seen}
use Rattle.world_setup.specs.declared.settings.PayerSettings.{PayerSettings as Given}
use Rattle.claim_model.specs.Nodes.{OfPharmacy, OfSwitch, OfPayer}
use Rattle.node_log.specs.ExistingNodes.{is_numbered}

get_there : {A : Type 0} (xs : List A) (k : ℕ) → nat_lt k (length xs) ≡ is_some (slice_get xs k)
get_there xs k = elim (slice_get_cases xs k).1 [
  | inl p ↦ lt-ltb k (length xs) p.1 ∙ ap is_some (sym p.2)
  | inr p ↦ le-ltb k (length xs) p.0 ∙ ap is_some (sym p.1)
]

mapped : {A B : Type 0} (f : A → B) (o : Option A) → is_some o ≡ is_some (option_map f o)
mapped f None = refl
mapped f (Some a) = refl

there_by : {A B : Type 0} (f : A → B) (xs : List A) (n : ℕ) → is_numbered (length xs) n ≡ is_some (option_map f (numbered xs n))
there_by f xs zero = refl
there_by f xs (suc k) = get_there xs k ∙ mapped f (slice_get xs k)

pub pharmacies_length : (m : ℕ) (ss : List PharmacySettings) → length ss ≡ length (pharmacies_from m ss)
pharmacies_length m [] = refl
pharmacies_length m (s ∷ ss) = ap suc (pharmacies_length (m + 1) ss)

pub switches_length : (caps : List ℕ) → length caps ≡ length (switches_of caps)
switches_length [] = refl
switches_length (cap ∷ caps) = ap suc (switches_length caps)

pub payers_length : (m : ℕ) (ss : List Given) → length ss ≡ length (payers_from m (map payer_seen ss))
payers_length m [] = refl
payers_length m (s ∷ ss) = ap suc (payers_length (m + 1) ss)

-- a number from 1 to the count of the settings is that of a node of the opening world

pub pharmacy_there : (ss : List PharmacySettings) (count n : ℕ) → count ≡ length ss → is_numbered count n ≡ is_some (option_map OfPharmacy (numbered (pharmacies_from 1 ss) n))
pharmacy_there ss count n h = ap (λ (c : ℕ). is_numbered c n) (h ∙ pharmacies_length 1 ss) ∙ there_by OfPharmacy (pharmacies_from 1 ss) n

pub switch_there : (caps : List ℕ) (count n : ℕ) → count ≡ length caps → is_numbered count n ≡ is_some (option_map OfSwitch (numbered (switches_of caps) n))
switch_there caps count n h = ap (λ (c : ℕ). is_numbered c n) (h ∙ switches_length caps) ∙ there_by OfSwitch (switches_of caps) n

pub payer_there : (ss : List Given) (count n : ℕ) → count ≡ length ss → is_numbered count n ≡ is_some (option_map OfPayer (numbered (payers_from 1 (map payer_seen ss)) n))
payer_there ss count n h = ap (λ (c : ℕ). is_numbered c n) (h ∙ payers_length 1 ss) ∙ there_by OfPayer (payers_from 1 (map payer_seen ss)) n
