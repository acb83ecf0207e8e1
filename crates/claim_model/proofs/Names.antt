-- The names of nodes, told apart.
use Rattle.std.proofs.Common.{◌≡◌, Bool, true, false, refl, sym, ap, ◌∙◌, ◌⊎◌, inl, inr, arith}
use Rattle.std.proofs.lemmas.Bool.{false≢true}
use Rattle.claim_model.specs.Node.{Node, Pharmacy, Switch, Payer}
use Rattle.claim_model.specs.Nodes.{same_node}

-- a name is its own
pub same_self : (node : Node) → same_node node node ≡ true
same_self (Pharmacy n) = grind arith
same_self (Switch n) = grind arith
same_self (Payer n) = grind arith

pub same_is : (a b : Node) → same_node a b ≡ true → a ≡ b
same_is (Pharmacy a) (Pharmacy b) e = ap Pharmacy (grind arith)
same_is (Pharmacy a) (Switch b) e = absurd (false≢true e)
same_is (Pharmacy a) (Payer b) e = absurd (false≢true e)
same_is (Switch a) (Pharmacy b) e = absurd (false≢true e)
same_is (Switch a) (Switch b) e = ap Switch (grind arith)
same_is (Switch a) (Payer b) e = absurd (false≢true e)
same_is (Payer a) (Pharmacy b) e = absurd (false≢true e)
same_is (Payer a) (Switch b) e = absurd (false≢true e)
same_is (Payer a) (Payer b) e = ap Payer (grind arith)

-- one name or two
pub told_apart : (a b : Node) → ((same_node a b ≡ true) × (a ≡ b)) ⊎ ((same_node a b ≡ false) × (a ≡ b → ⊥))
told_apart a b = by_test (same_node a b) refl
  where
    by_test : (t : Bool) → same_node a b ≡ t → ((same_node a b ≡ true) × (a ≡ b)) ⊎ ((same_node a b ≡ false) × (a ≡ b → ⊥))
    by_test true e = inl (e, same_is a b e)
    by_test false e = inr (e, λ same. false≢true (sym e ∙ (ap (same_node a) (sym same) ∙ same_self a)))
