-- What a row of a table says.
use Rattle.std.specs.Prelude.{ℕ, Bool, List, Option, Some, None}

-- a value: a number, bytes, letters and a number, a truth, or nothing
pub data Value : Type 0 where
  Number : ℕ → Value
  Text : List ℕ → Value
  Named : List ℕ → ℕ → Value
  Flag : Bool → Value
  Nothing : Value

-- a value and the name of its column
pub record Member : Type 0 where
  pub name : List ℕ
  pub value : Value

abbrev pub Row : Type 0
Row = List Member

-- a number, where there is one
abbrev pub number_or_nothing : Option ℕ → Value
number_or_nothing None = Nothing
number_or_nothing (Some number) = Number number
