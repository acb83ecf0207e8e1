-- Names of nodes told apart, and lists by number.
use Rattle.std.proofs.Common.{◌≡◌, ℕ, zero, suc, true, false, List, [], ◌∷◌, ◌++◌, Some, slice_get, ap, ◌∙◌, ◌⊎◌, inl, inr}
use Rattle.std.proofs.lemmas.Bool.{both_ways}
use Rattle.claim_model.specs.Numbered.{numbered}
use Rattle.claim_model.specs.Node.{Node}
use Rattle.claim_model.specs.Nodes.{same_node}
use Rattle.claim_model.proofs.Names.{same_self, told_apart}

-- two names are of one node, or not
pub name_cases : (a b : Node) → ((a ≡ b) × (same_node a b ≡ true)) ⊎ (same_node a b ≡ false)
name_cases a b = elim (told_apart a b) [ inl s ↦ inl (s.1, s.0) | inr d ↦ inr d.0 ]

pub apart : (a b : Node) → same_node a b ≡ false → b ≡ a → ⊥
apart a b d e = both_ways (same_node a b) d (ap (same_node a) e ∙ same_self a)

-- elements of two lists, one after the other, by their number

get_behind : {A : Type 0} (xs ys : List A) (k : ℕ) (a : A) → slice_get ys k ≡ Some a → (m : ℕ) × (slice_get (xs ++ ys) m ≡ Some a)
get_behind [] ys k a h = (k, h)
get_behind (x ∷ xs) ys k a h = let r = get_behind xs ys k a h in (suc r.0, r.1)

-- what stands in the second list stands in both together
pub numbered_behind : {A : Type 0} (xs ys : List A) (n : ℕ) (a : A) → numbered ys n ≡ Some a → (m : ℕ) × (numbered (xs ++ ys) m ≡ Some a)
numbered_behind xs ys zero a h = absurd cc
numbered_behind xs ys (suc k) a h = let r = get_behind xs ys k a h in (suc r.0, r.1)

get_split : {A : Type 0} (xs ys : List A) (k : ℕ) (a : A) → slice_get (xs ++ ys) k ≡ Some a → ((m : ℕ) × (slice_get xs m ≡ Some a)) ⊎ ((m : ℕ) × (slice_get ys m ≡ Some a))
get_split [] ys k a h = inr (k, h)
get_split (x ∷ xs) ys zero a h = inl (zero, h)
get_split (x ∷ xs) ys (suc k) a h = elim (get_split xs ys k a h) [ inl r ↦ inl (suc r.0, r.1) | inr r ↦ inr r ]

-- what stands in both together stands in one of them
pub numbered_split : {A : Type 0} (xs ys : List A) (n : ℕ) (a : A) → numbered (xs ++ ys) n ≡ Some a → ((m : ℕ) × (numbered xs m ≡ Some a)) ⊎ ((m : ℕ) × (numbered ys m ≡ Some a))
numbered_split xs ys zero a h = absurd cc
numbered_split xs ys (suc k) a h = elim (get_split xs ys k a h) [ inl r ↦ inl (suc r.0, r.1) | inr r ↦ inr (suc r.0, r.1) ]
