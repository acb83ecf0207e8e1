-- Tables of CSV: records, the first of which names the columns, and what a row has under a column.
use Rattle.std.specs.Prelude.{◌≡◌, ℕ, ◌++◌, ◌==◌, Bool, true, false, if◌then◌else◌, List, [], ◌∷◌, get_or, length, Option, Some, None, option_map, option_and_then, bytes_eq}
use Rattle.std.specs.List.{position_from}
use Rattle.csv.specs.Reading.{AreRecords, default_config, strip_bom}
use Rattle.csv.specs.declared.parser.State.TheVariants as state
use Rattle.input_text.specs.Decimals.{decimal_number}

-- the records that a reader of CSV gives of a text
abbrev pub AreRecordsOf : List ℕ → List (List (List ℕ)) → Type 0
AreRecordsOf text records = AreRecords default_config state.StartRecord (strip_bom text) records

-- the names of the columns, and the rows after them
abbrev pub names_of : List (List (List ℕ)) → List (List ℕ)
names_of [] = []
names_of (names ∷ rows) = names

abbrev pub rows_of : List (List (List ℕ)) → List (List (List ℕ))
rows_of [] = []
rows_of (names ∷ rows) = rows

-- the place of the first column of a name
abbrev pub column_of : List (List (List ℕ)) → List ℕ → Option ℕ
column_of records name = position_from (λ (field : List ℕ). bytes_eq field name) 0 (names_of records)

-- the text of a row in a column
abbrev pub cell : ℕ → List (List ℕ) → List ℕ
cell place row = get_or row place []

-- the number in a column, of at most 18 digits
abbrev pub number_in : ℕ → List (List ℕ) → Option ℕ
number_in place row = decimal_number 18 (cell place row)

-- the number in a column that may be empty
abbrev pub optional_in : ℕ → List (List ℕ) → Option (Option ℕ)
optional_in place row = if length (cell place row) == 0 then Some None else option_map Some (number_in place row)

-- which of two words a column has: whether it is the second
abbrev pub word_in : ℕ → List ℕ → List ℕ → List (List ℕ) → Option Bool
word_in place first second row = if bytes_eq (cell place row) second then Some true else if bytes_eq (cell place row) first then Some false else None

-- ---- what rows give

infixl 10 ◌>>=◌
abbrev pub ◌>>=◌ : {A B : Type 0} → Option A → (A → Option B) → Option B
o >>= f = option_and_then f o

-- what a row gives, where it gives something
abbrev pub given : {A : Type 0} → Option A → List A
given None = []
given (Some x) = x ∷ []

-- what rows give, in their order; none where one cannot be read
abbrev pub given_by : {A : Type 0} → (List (List ℕ) → Option (Option A)) → List (List (List ℕ)) → Option (List A)
given_by read [] = Some []
given_by read (row ∷ rows) = do
  one ← read row
  others ← given_by read rows
  Some (given one ++ others)

-- what the rows of a table give that is read by its columns
abbrev pub AreGiven : {C A : Type 0} → (List (List (List ℕ)) → C) → (C → List (List ℕ) → Option (Option A)) → List ℕ → List A → Type 0
AreGiven {C} columns read table rows = (records : List (List (List ℕ))) × (c : C) × AreRecordsOf table records × (c ≡ columns records) × (given_by (read c) (rows_of records) ≡ Some rows)
