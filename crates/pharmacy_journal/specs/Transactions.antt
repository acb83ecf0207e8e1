-- Transactions, open and settled.
use Rattle.std.specs.Prelude.{ℕ, List}
use Rattle.claim_model.specs.Words.{TxnId}

-- an open transaction: its number and its request
pub record Submission : Type 0 where
  pub id : TxnId
  pub request : List ℕ

-- a settled one has its answer too
pub record Settlement : Type 0 where
  pub id : TxnId
  pub request : List ℕ
  pub answer : List ℕ
