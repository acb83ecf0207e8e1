-- Identities one by one: what was seen, with one more.
use Rattle.std.proofs.Common.{◌≡◌, ℕ, ◌+◌, ◌<◌, Bool, true, false, not, ◌||◌, cond, List, [], ◌∷◌, length, drop, get_or, refl, sym, ap, ◌∙◌}
use Rattle.std.specs.List.{list_any}
use Rattle.std.specs.BTreeMap.{is_at}
use Rattle.std.specs.declared.cmp.Ordering.{Ordering}
use Rattle.std.specs.Cmp.{both_tied}
use Rattle.std.specs.Cmp.Lexicographic.{slice_cmp, texts_ties}
use Rattle.std.specs.Ordering.{nat_cmp, ordering_then}
use Rattle.std.proofs.lemmas.List.{drop_more}
use Rattle.claim_model.specs.Journal.{PharmacySettings}
use Rattle.claim_model.specs.Settings.{same_provider, some_provider_twice}
use Rattle.world_setup.specs.declared.identity.Identity.{Identity}
use Rattle.world_setup.specs.Identities.{identity_of, is_same, was_seen}

any-same : {A : Type 0} (p q : A → Bool) → ((x : A) → p x ≡ q x) → (xs : List A) → list_any p xs ≡ list_any q xs
any-same p q h [] = refl
any-same p q h (x ∷ xs) = ap (λ b. b || list_any p xs) (h x) ∙ ap (λ b. q x || b) (any-same p q h xs)

cond-or : (b x : Bool) → cond b true x ≡ (x || b)
cond-or true true = refl
cond-or true false = refl
cond-or false true = refl
cond-or false false = refl

-- the order of identities tells all apart
pub tied : (a b : Identity) → is_at (λ (c : Identity). ordering_then (slice_cmp nat_cmp a.qualifier c.qualifier) (slice_cmp nat_cmp a.provider c.provider)) b ≡ is_same a b
tied a b = sym (both_tied _ _ (slice_cmp nat_cmp a.qualifier b.qualifier) (slice_cmp nat_cmp a.provider b.provider) (texts_ties a.qualifier b.qualifier) (texts_ties a.provider b.provider))

-- an identity by its parts
abbrev pub of_parts : List ℕ → List ℕ → Identity
of_parts qualifier provider = record { qualifier = qualifier; provider = provider }

pub by_parts : (qualifier provider : List ℕ) (s : PharmacySettings) → qualifier ≡ s.qualifier → provider ≡ s.provider → of_parts qualifier provider ≡ identity_of s
by_parts qualifier provider s e f = ap (λ (x : List ℕ). of_parts x provider) e ∙ ap (λ (x : List ℕ). of_parts s.qualifier x) f

-- a set with one identity more
pub seen_more : (cmp : Identity → Identity → Ordering) (old new : List Identity) (k : Identity) (s : PharmacySettings)
    → list_any (is_at (cmp (identity_of s))) new ≡ cond (is_at (cmp k) (identity_of s)) true (list_any (is_at (cmp (identity_of s))) old)
    → ((x y : Identity) → is_at (cmp x) y ≡ is_same x y) → was_seen new s ≡ (was_seen old s || is_same k (identity_of s))
seen_more cmp old new k s e same =
    let alike = any-same (is_same (identity_of s)) (is_at (cmp (identity_of s))) (λ x. sym (same (identity_of s) x)) in
    alike new ∙ e ∙ ap (λ b. cond b true (list_any (is_at (cmp (identity_of s))) old)) (same k (identity_of s))
    ∙ cond-or (is_same k (identity_of s)) (list_any (is_at (cmp (identity_of s))) old) ∙ ap (λ b. b || is_same k (identity_of s)) (sym (alike old))

-- an identity is new where it was not seen
pub new_by : (cmp : Identity → Identity → Ordering) (seen : List Identity) (k : Identity) (s : PharmacySettings) (is_new : Bool) → k ≡ identity_of s
    → ((x y : Identity) → is_at (cmp x) y ≡ is_same x y) → is_new ≡ not (list_any (is_at (cmp k)) seen) → is_new ≡ not (was_seen seen s)
new_by cmp seen k s is_new key same is =
    is ∙ ap (λ (i : Identity). not (list_any (is_at (cmp i)) seen)) key
    ∙ ap not (any-same (is_at (cmp (identity_of s))) (is_same (identity_of s)) (same (identity_of s)) seen)

pub was_not : (new seen : Bool) → new ≡ true → new ≡ not seen → seen ≡ false
was_not true true h e = absurd cc
was_not true false h e = refl
was_not false seen h e = absurd cc

shuffled : (a b c d : Bool) → ((a || b) || (c || d)) ≡ ((a || c) || (b || d))
shuffled true b c d = refl
shuffled false true true d = refl
shuffled false true false d = refl
shuffled false false c d = refl

any-or : {A : Type 0} (p q r : A → Bool) → ((x : A) → p x ≡ (q x || r x)) → (xs : List A) → list_any p xs ≡ (list_any q xs || list_any r xs)
any-or p q r h [] = refl
any-or p q r h (x ∷ xs) =
    ap (λ b. b || list_any p xs) (h x) ∙ ap (λ b. (q x || r x) || b) (any-or p q r h xs) ∙ shuffled (q x) (r x) (list_any q xs) (list_any r xs)

or_assoc : (a b c : Bool) → ((a || b) || c) ≡ (a || (b || c))
or_assoc true b c = refl
or_assoc false b c = refl

-- one of these was seen, or two of these have one identity
abbrev pub is_twice : List Identity → List PharmacySettings → Bool
is_twice seen ss = list_any (was_seen seen) ss || some_provider_twice ss

-- at first nothing was seen
pub none_seen : (seen : List Identity) (ss : List PharmacySettings) → seen ≡ [] → is_twice seen ss ≡ some_provider_twice ss
none_seen seen ss e = ap (λ (xs : List Identity). is_twice xs ss) e ∙ ap (λ b. b || some_provider_twice ss) (never ss)
  where
    never : (xs : List PharmacySettings) → list_any (was_seen []) xs ≡ false
    never [] = refl
    never (x ∷ xs) = never xs

-- a pharmacy that is new is seen
pub goes_on : (seen more : List Identity) (ss : List PharmacySettings) (i : ℕ) (s : PharmacySettings) → i < length ss → s ≡ get_or ss i s → was_seen seen s ≡ false
    → ((other : PharmacySettings) → was_seen more other ≡ (was_seen seen other || same_provider s other)) → is_twice more (drop (i + 1) ss) ≡ is_twice seen (drop i ss)
goes_on seen more ss i s lt is new has =
    step (drop (i + 1) ss)
    ∙ ap (is_twice seen) (ap (λ (x : PharmacySettings). x ∷ drop (i + 1) ss) is ∙ sym (drop_more ss i s lt))
  where
    step : (rest : List PharmacySettings) → is_twice more rest ≡ is_twice seen (s ∷ rest)
    step rest =
        ap (λ b. b || some_provider_twice rest) (any-or (was_seen more) (was_seen seen) (same_provider s) has rest)
        ∙ or_assoc (list_any (was_seen seen) rest) (list_any (same_provider s) rest) (some_provider_twice rest)
        ∙ sym (ap (λ b. (b || list_any (was_seen seen) rest) || (list_any (same_provider s) rest || some_provider_twice rest)) new)
