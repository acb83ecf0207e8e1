-- Answers, and the entries that they are for.
use Rattle.std.specs.Prelude.{ℕ, List}

-- a pharmacy, and the name of its node
pub record Addressee : Type 0 where
  pub node : List ℕ
  pub pharmacy : ℕ

-- an answer, and the number of the entry that it is for
pub record Reply : Type 0 where
  pub number : ℕ
  pub bytes : List ℕ
