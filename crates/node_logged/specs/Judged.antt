-- What is true where the receipts and the answers that callers heard are those of the journals, and why they are not.
use Rattle.std.specs.Prelude.{◌≡◌, ℕ, ◌<◌, List, length, Contains, Some}
use Rattle.std.specs.List.{AllByRecursion}
use Rattle.claim_model.specs.Journal.{Kept}
use Rattle.claim_model.specs.Numbered.{numbered}
use Rattle.node_logged.specs.Tills.{Till}
use Rattle.node_logged.specs.Ledgers.{Ledger, receipts_at, heard_at, answer_at}

-- the tills of a pharmacy have as many receipts as its journal has entries
abbrev pub AreAsMany : List Till → Ledger → Type 0
AreAsMany tills ledger = length (receipts_at ledger.pharmacy tills) ≡ length ledger.entries

-- the receipts at the tills of a pharmacy are the numbers and requests of its journal: each entry has a receipt, and there are as many
pub record AreReceipts (tills : List Till) (ledger : Ledger) : Type 0 where
  pub count : AreAsMany tills ledger
  pub each : (number : ℕ) (entry : Kept) → numbered ledger.entries number ≡ Some entry → Contains (receipts_at ledger.pharmacy tills) (record { number = number; request = entry.request })

-- each answer that was heard at the tills of a pharmacy is the answer of its journal
abbrev pub AreHeard : List Till → Ledger → Type 0
AreHeard tills ledger = (number : ℕ) (answer : List ℕ) → Contains (heard_at ledger.pharmacy tills) (number, answer) → answer_at ledger.entries number ≡ Some answer

-- so of all ledgers
abbrev pub AllReceipts : List Till → List Ledger → Type 0
AllReceipts tills ledgers = AllByRecursion (AreReceipts tills) ledgers

abbrev pub AllHeard : List Till → List Ledger → Type 0
AllHeard tills ledgers = AllByRecursion (AreHeard tills) ledgers

-- the least pharmacy whose tills have another count of receipts than its journal has entries
pub record Lacks (tills : List Till) (ledgers : List Ledger) (pharmacy : ℕ) : Type 0 where
  pub ledger : Ledger
  pub at : numbered ledgers pharmacy ≡ Some ledger
  pub differs : AreAsMany tills ledger → ⊥
  pub least : (number : ℕ) (other : Ledger) → number < pharmacy → numbered ledgers number ≡ Some other → AreAsMany tills other
