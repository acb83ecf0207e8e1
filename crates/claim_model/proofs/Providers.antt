-- No two pharmacies of a world have one identity.
use Rattle.std.proofs.Common.{◌≡◌, ℕ, zero, suc, Bool, true, false, List, [], ◌∷◌, Some, slice_get, refl, sym, ap, ◌∙◌, subst}
use Rattle.std.specs.List.{list_any}
use Rattle.std.specs.Prelude.{bytes_eq}
use Rattle.std.proofs.lemmas.Bool.{or_parts, both_ways, and_from}
use Rattle.claim_model.specs.Numbered.{numbered}
use Rattle.claim_model.specs.Journal.{PharmacySettings}
use Rattle.claim_model.specs.Settings.{same_provider, some_provider_twice}
use Rattle.claim_model.proofs.Tests.{bytes_self}

pub any_false : {A : Type 0} (test : A → Bool) (xs : List A) (k : ℕ) (a : A) → list_any test xs ≡ false → slice_get xs k ≡ Some a → test a ≡ false
any_false test [] k a n e = absurd cc
any_false test (x ∷ xs) zero a n e = let same : x ≡ a = cc in subst (λ y. test y ≡ false) same (or_parts (test x) (list_any test xs) n).0
any_false test (x ∷ xs) (suc k) a n e = any_false test xs k a (or_parts (test x) (list_any test xs) n).1 e

same_identity : (s t : PharmacySettings) → s.qualifier ≡ t.qualifier → s.provider ≡ t.provider → same_provider s t ≡ true
same_identity s t q p =
    and_from (bytes_eq s.qualifier t.qualifier) (bytes_eq s.provider t.provider)
    (subst (λ (x : List ℕ). bytes_eq s.qualifier x ≡ true) q (bytes_self s.qualifier)) (subst (λ (x : List ℕ). bytes_eq s.provider x ≡ true) p (bytes_self s.provider))

one_place : (ss : List PharmacySettings) (i j : ℕ) (s t : PharmacySettings) → some_provider_twice ss ≡ false → slice_get ss i ≡ Some s → slice_get ss j ≡ Some t → s.qualifier ≡ t.qualifier → s.provider ≡ t.provider → i ≡ j
one_place [] i j s t n e f q p = absurd cc
one_place (x ∷ ss) zero zero s t n e f q p = refl
one_place (x ∷ ss) zero (suc j) s t n e f q p =
    let same : x ≡ s = cc in
    let d = or_parts (list_any (same_provider x) ss) (some_provider_twice ss) n in
    absurd (both_ways (same_provider x t) (any_false (same_provider x) ss j t d.0 f)
    (same_identity x t (ap (λ (y : PharmacySettings). y.qualifier) same ∙ q) (ap (λ (y : PharmacySettings). y.provider) same ∙ p)))
one_place (x ∷ ss) (suc i) zero s t n e f q p =
    let same : x ≡ t = cc in
    let d = or_parts (list_any (same_provider x) ss) (some_provider_twice ss) n in
    absurd (both_ways (same_provider x s) (any_false (same_provider x) ss i s d.0 e)
    (same_identity x s (ap (λ (y : PharmacySettings). y.qualifier) same ∙ sym q) (ap (λ (y : PharmacySettings). y.provider) same ∙ sym p)))
one_place (x ∷ ss) (suc i) (suc j) s t n e f q p = ap suc (one_place ss i j s t (or_parts (list_any (same_provider x) ss) (some_provider_twice ss) n).1 e f q p)

-- two pharmacies of one identity are one
pub one_pharmacy : (ss : List PharmacySettings) (n m : ℕ) (s t : PharmacySettings) → some_provider_twice ss ≡ false → numbered ss n ≡ Some s → numbered ss m ≡ Some t → s.qualifier ≡ t.qualifier → s.provider ≡ t.provider → n ≡ m
one_pharmacy ss zero m s t n e f q p = absurd cc
one_pharmacy ss (suc i) zero s t n e f q p = absurd cc
one_pharmacy ss (suc i) (suc j) s t n e f q p = ap suc (one_place ss i j s t n e f q p)
