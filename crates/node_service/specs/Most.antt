-- How many entries, slots or rows a node may have.
use Rattle.std.specs.Prelude.{ℕ, zero, Option, Some, None}
use Rattle.claim_model.specs.Journal.{PharmacySettings}
use Rattle.claim_model.specs.Node.{Node, Pharmacy, Switch, Payer}
use Rattle.claim_model.specs.Numbered.{numbered}
use Rattle.claim_model.specs.Nodes.{AnyNode, OfPharmacy, OfSwitch, OfPayer}
use Rattle.claim_model.specs.Settings.{WorldSettings, PayerSettings}
use Rattle.node_state.specs.Nodes.{cap_at}

-- the cap that settings say, or 0 where there are none
abbrev pub cap_in : {A : Type 0} → (A → ℕ) → Option A → ℕ
cap_in cap None = zero
cap_in cap (Some one) = cap one

-- the most entries of a pharmacy's journal, slots of a switch's table, or rows of a payer's book; 0 of a node that is not there
abbrev pub most_of : WorldSettings → Node → ℕ
most_of s (Pharmacy n) = cap_in (λ (p : PharmacySettings). p.cap) (numbered s.pharmacies n)
most_of s (Switch n) = cap_in (λ cap. cap) (numbered s.switches n)
most_of s (Payer n) = cap_in (λ (p : PayerSettings). p.book.cap) (numbered s.payers n)

-- the same of the node as it is: a switch has its own cap, which a call may have changed
abbrev pub most_at : WorldSettings → Node → AnyNode → ℕ
most_at s name (OfPharmacy node) = most_of s name
most_at s name (OfSwitch node) = cap_at node
most_at s name (OfPayer node) = most_of s name
