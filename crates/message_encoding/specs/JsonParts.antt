-- How parts are told: the JSON of a description, and the bytes that it stands for.
use Rattle.std.specs.Prelude.{◌≡◌, ◌<◌, ◌^◌, ℕ, Bool, false, not, ◌&&◌, List, [], ◌∷◌, All, codes, bytes_eq, Option, Some, None, Ok, if◌then◌else◌}
use Rattle.input_text.specs.Options.{◌>>=◌}
use Rattle.input_text.specs.Printing.{printed, unprinted}
use Rattle.serde_json.specs.Data.{Data, number, unsigned, string, array, object, Items, no_items, item, Members, no_members, member}
use Rattle.message_encoding.specs.Parts.{joined, number_front}

-- a row of a description: where a part stands, the number and the name of its field, its value, and what that means
pub record Row : Type 0 where
  pub place : ℕ
  pub number : Option (List ℕ)
  pub name : List ℕ
  pub value : List ℕ
  pub meaning : Option (List ℕ)

-- a part: a row, or that a transaction begins
pub data Told : Type 0 where
  row : Row → Told
  transaction : ℕ → ℕ → Told

-- ---- as JSON

-- a member that may be left out
abbrev pub given : List ℕ → Option (List ℕ) → Members → Members
given key None rest = rest
given key (Some text) rest = member key (string text) rest

-- bytes that may be left out, as they are printed
abbrev pub given_printed : Option (List ℕ) → Option (List ℕ)
given_printed None = None
given_printed (Some bytes) = Some (printed bytes)

abbrev pub row_members : Row → Members
row_members r = member (codes "at") (number (unsigned r.place)) (given (codes "field") (given_printed r.number) (given (codes "meaning") r.meaning
    (member (codes "name") (string r.name) (member (codes "value") (string (printed r.value)) no_members))))

abbrev pub told : Told → Data
told (row r) = object (row_members r)
told (transaction place count) = object (member (codes "at") (number (unsigned place)) (member (codes "name") (string (codes "transaction"))
    (member (codes "transaction") (number (unsigned count)) no_members)))

abbrev pub items_told : List Told → Items
items_told [] = no_items
items_told (part ∷ rest) = item (told part) (items_told rest)

-- a description of these parts, without what is found
abbrev pub description_of : List Told → Data
description_of parts = object (member (codes "parts") (array (items_told parts)) no_members)

-- ---- as bytes

abbrev pub number_told : Option (List ℕ) → Option (List ℕ)
number_told None = Some []
number_told (Some digits) = number_front digits

abbrev pub row_front : Row → Option (List ℕ)
row_front r = if bytes_eq r.name (codes "segment") then Some (30 ∷ 28 ∷ 65 ∷ 77 ∷ []) else number_told r.number

abbrev pub part_told : Told → Option (List ℕ)
part_told (row r) = joined (row_front r) (Some r.value)
part_told (transaction place count) = Some (29 ∷ [])

-- the bytes of parts, one after the other, where each is one: the front of a number is a field separator and two bytes, or nothing in a header
abbrev pub told_bytes : List Told → Option (List ℕ)
told_bytes [] = Some []
told_bytes (part ∷ rest) = joined (part_told part) (told_bytes rest)

-- ---- what bytes are

abbrev pub Bytes : List ℕ → Type 0
Bytes bytes = All (λ b. b < 2 ^ 8) bytes

-- bytes are read back from how they are printed
abbrev pub PrintedReadsBack : Type 0
PrintedReadsBack = (bytes : List ℕ) → Bytes bytes → unprinted (printed bytes) ≡ Ok bytes

abbrev pub GivenBytes : Option (List ℕ) → Type 0
GivenBytes None = Unit {0}
GivenBytes (Some bytes) = Bytes bytes

pub record IsRow (r : Row) : Type 0 where
  pub number : GivenBytes r.number
  pub value : Bytes r.value
  pub name : bytes_eq r.name (codes "transaction") ≡ false

abbrev pub IsOfBytes : Told → Type 0
IsOfBytes (row r) = IsRow r
IsOfBytes (transaction place count) = Unit {0}
