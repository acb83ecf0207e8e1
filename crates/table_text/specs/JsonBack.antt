-- What a reader of JSON gives of rows.
use Rattle.std.specs.Prelude.{◌≡◌, ◌<◌, ◌^◌, List, [], ◌∷◌, ◌++◌, decimal, All, Some}
use Rattle.json.specs.Json.{Json, null, boolean, number, string, array, object, Items, no_items, item, Members, no_members, member, document}
use Rattle.input_text.specs.Printing.{printed}
use Rattle.table_text.specs.Members.{Value, Number, Text, Named, Flag, Nothing, Member, Row}
use Rattle.table_text.specs.Rows.{rows_text, list_text}
use Rattle.table_text.specs.declared.layout.Style.TheVariants as style

-- a value as a reader of JSON gives it: a text as it is printed
abbrev pub json_given : Value → Json
json_given (Number n) = number (decimal n)
json_given (Text bytes) = string (printed bytes)
json_given (Named letters n) = string (printed letters ++ decimal n)
json_given (Flag holds) = boolean holds
json_given Nothing = null

-- the members of a row, each under its name
abbrev pub members_given : Row → Members
members_given [] = no_members
members_given (m ∷ more) = member (printed m.name) (json_given m.value) (members_given more)

-- a list of rows, an object each
abbrev pub items_given : List Row → Items
items_given [] = no_items
items_given (row ∷ more) = item (object (members_given row)) (items_given more)

-- the numbers of a value have 64 bits
abbrev pub HasWord : Value → Type 0
HasWord (Number n) = n < 2 ^ 64
HasWord (Text bytes) = Unit {0}
HasWord (Named letters n) = n < 2 ^ 64
HasWord (Flag holds) = Unit {0}
HasWord Nothing = Unit {0}

abbrev pub HasWords : Row → Type 0
HasWords row = All (λ (m : Member). HasWord m.value) row

-- rows that are written as a list are a text of JSON, whose value is a list of objects: each has the members of its row, in order, and
-- each member its value and no more
abbrev pub JsonIsReadBack : Type 0
JsonIsReadBack = (rows : List Row) → All HasWords rows → document (list_text (rows_text style.Json rows)) ≡ Some (array (items_given rows))
