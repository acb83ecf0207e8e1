-- Marks of the entries that have a receipt, while receipts are looked at one by one.
use Rattle.std.specs.Prelude.{◌≡◌, ℕ, suc, Bool, ◌||◌, List, length, slice_get, Some}
use Rattle.claim_model.specs.Journal.{Kept}
use Rattle.node_logged.specs.Tills.{Receipt}
use Rattle.node_logged.specs.Ledgers.{has_one}

-- an entry has a receipt among all exactly where it is marked, or has one among those that are left
pub record Marks (entries : List Kept) (left all : List Receipt) (marks : List Bool) : Type 0 where
  pub size : length marks ≡ length entries
  pub each : (k : ℕ) (entry : Kept) (mark : Bool) → slice_get entries k ≡ Some entry → slice_get marks k ≡ Some mark → (mark || has_one (suc k) entry.request left) ≡ has_one (suc k) entry.request all
