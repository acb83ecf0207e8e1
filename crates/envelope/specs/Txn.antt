-- Numbered transactions.
use Rattle.std.specs.Prelude.{ℕ, ◌<◌, ◌^◌}

-- which transaction it is: the pharmacy that numbered it, and its number there
pub record Txn : Type 0 where
  pub pharmacy : ℕ
  pub number : ℕ

-- neither is zero, and each fits its field
pub record IsTxn (id : Txn) : Type 0 where
  pub some_pharmacy : 0 < id.pharmacy
  pub some_number : 0 < id.number
  pub pharmacy_fits : id.pharmacy < 2 ^ 16
  pub number_fits : id.number < 2 ^ 64
