-- How the parts of a message are written: a line for each, or an object of JSON.
use Rattle.std.specs.Prelude.{◌≡◌, ℕ, ◌+◌, ◌-◌, ◌^◌, min, max, Bool, true, false, List, [], ◌∷◌, ◌++◌, length, take, drop, codes, ◌==◌, if◌then◌else◌, Option, None, Some}
use Rattle.std.specs.Fmt.{decimal}
use Rattle.input_text.specs.Printing.{printed}
use Rattle.overpunch.specs.Number.{number_text}
use Rattle.message_parts.specs.declared.names.FieldName.{FieldName}
use Rattle.message_words.specs.declared.page.Page.{Page}
use Rattle.message_words.specs.declared.page.Style.{Style}
use Rattle.message_words.specs.declared.page.Style.TheVariants.{Lines, Json}
use Rattle.message_parts.specs.declared.part.PartKind.{PartKind}
use Rattle.message_parts.specs.declared.part.PartKind.TheVariants as kind
use Rattle.message_words.specs.Encoded.{spaces, to_left, to_right, word_member, printed_member, number_member}
use Rattle.message_parts.specs.FieldTitles.{Titles, titles, titles_of}
use Rattle.message_words.specs.Meanings.{meaning_of, mark_meaning}
use Rattle.message_parts.specs.Naming.{mark_names, is_length}
use Rattle.message_parts.specs.Parts.{PartSeen}
use Rattle.message_parts.specs.Unused.{unused_field}
use Rattle.message_words.specs.Segments.{segment_meaning}

-- ---- what a part is called, its value, and what that means

-- the names of a field that the product does not read in its segment: of the standard, or its two letters
abbrev pub names_or : List ℕ → Option Titles → Titles
names_or id (Some t) = t
names_or id None = titles id (codes "unknown, carried unchanged") (codes "unknown")

-- the two bytes that name a field
abbrev pub id_in : List ℕ → List ℕ
id_in bytes = take 2 (drop 1 bytes)

abbrev pub field_names : Option FieldName → List ℕ → Titles
field_names (Some name) bytes = titles_of name
field_names None bytes = names_or (id_in bytes) (unused_field (id_in bytes))

-- how a part of this kind with these bytes is called
abbrev pub names_in : PartKind → List ℕ → Titles
names_in (kind.Header name) bytes = titles_of name
names_in kind.Segment bytes = titles (codes "111-AM") (codes "segment") (codes "segment")
names_in kind.Group bytes = titles [] (codes "transaction") (codes "transaction")
names_in (kind.Field name) bytes = field_names name bytes
names_in (kind.Mark mark) bytes = titles [] (mark_names mark).words (mark_names mark).key
names_in kind.Stray bytes = titles [] (codes "out of place") (codes "stray")

-- the value in its bytes: what stands after a separator and a name
abbrev pub value_in : PartKind → List ℕ → List ℕ
value_in kind.Segment bytes = drop 4 bytes
value_in (kind.Field name) bytes = drop 3 bytes
value_in _ bytes = bytes

-- what is said of a field of the standard that the product does not read
unfoldable pub unused_words : List ℕ
unused_words = codes "not used by this profile"

abbrev pub unread_meaning : Option Titles → List ℕ
unread_meaning (Some t) = unused_words
unread_meaning None = []

abbrev pub field_meaning : Option FieldName → List ℕ → List ℕ
field_meaning (Some name) bytes = meaning_of name (drop 3 bytes)
field_meaning None bytes = unread_meaning (unused_field (id_in bytes))

-- what the value means; nothing where it says it itself
abbrev pub meaning_in : PartKind → List ℕ → List ℕ
meaning_in (kind.Header name) bytes = meaning_of name bytes
meaning_in kind.Segment bytes = segment_meaning (drop 4 bytes)
meaning_in (kind.Field name) bytes = field_meaning name bytes
meaning_in (kind.Mark mark) bytes = mark_meaning mark bytes
meaning_in _ bytes = []

-- ---- a row

-- a line up to the value: where the part stands, its number and its name
abbrev pub columns_text : ℕ → (number name : List ℕ) → List ℕ
columns_text place number name =
    codes "\n" ++ to_right 8 (number_text place) ++ codes " " ++ to_left 7 number ++ codes " " ++ to_left 30 name ++ codes " "

-- nothing is told of an empty text
abbrev pub unless_empty : (text told : List ℕ) → List ℕ
unless_empty text told = if length text == 0 then [] else told

-- what a value means, where that is told, after at least two spaces
abbrev pub meaning_behind : ℕ → List ℕ → List ℕ
meaning_behind width meaning = unless_empty meaning (spaces (max (21 - width) 2) ++ meaning)

abbrev pub row_line : ℕ → Titles → (value meaning : List ℕ) → List ℕ
row_line place t value meaning =
    columns_text place t.number t.name ++ printed value ++ meaning_behind (length (printed value)) meaning

-- members that are left out where they would be empty
abbrev pub field_member : List ℕ → List ℕ
field_member number = unless_empty number (printed_member (codes "field") number)

abbrev pub meaning_member : List ℕ → List ℕ
meaning_member meaning = unless_empty meaning (word_member (codes "meaning") meaning)

abbrev pub place_member : ℕ → (number : List ℕ) → List ℕ
place_member place number = codes "{\"at\":" ++ decimal place ++ field_member number

abbrev pub name_member : List ℕ → List ℕ
name_member key = codes ",\"name\":\"" ++ key ++ codes "\""

abbrev pub value_members : (value meaning : List ℕ) → List ℕ
value_members value meaning = printed_member (codes "value") value ++ meaning_member meaning ++ codes "}"

abbrev pub row_object : ℕ → Titles → (value meaning : List ℕ) → List ℕ
row_object place t value meaning = place_member place t.number ++ name_member t.key ++ value_members value meaning

abbrev pub row_text : Style → ℕ → Titles → (value meaning : List ℕ) → List ℕ
row_text Lines place t value meaning = row_line place t value meaning
row_text Json place t value meaning = row_object place t value meaning

-- ---- a transaction begins

abbrev pub group_text : Style → (place count : ℕ) → List ℕ
group_text Lines place count = columns_text place [] (codes "transaction") ++ decimal count
group_text Json place count =
    codes "{\"at\":" ++ decimal place ++ word_member (codes "name") (codes "transaction") ++ number_member (codes "transaction") count ++ codes "}"

-- how many transactions of the transmission at hand have begun, with one more, and none after the length of another transmission
abbrev pub one_more : ℕ → ℕ
one_more count = min (count + 1) (2 ^ 64 - 1)

abbrev pub counted_anew : Bool → ℕ → ℕ
counted_anew true count = 0
counted_anew false count = count

abbrev pub counted_with : ℕ → PartKind → ℕ
counted_with count kind.Group = one_more count
counted_with count (kind.Mark mark) = counted_anew (is_length mark) count
counted_with count _ = count

-- ---- all parts

-- the row of a part, where this many transactions have begun with it: its place, its names, its value, and what that means
abbrev pub row_of : Style → ℕ → (place : ℕ) → (bytes : List ℕ) → PartKind → List ℕ
row_of style count place bytes kind.Group = group_text style place count
row_of style count place bytes kind = row_text style place (names_in kind bytes) (value_in kind bytes) (meaning_in kind bytes)

-- the comma before an element of a list of JSON, but for the first one
abbrev pub comma : Style → (started : Bool) → List ℕ
comma Json true = codes ","
comma _ _ = []

-- a part after others
abbrev pub next_row : Style → (started : Bool) → (count : ℕ) → PartSeen → List ℕ
next_row style started count p = comma style started ++ row_of style (counted_with count p.kind) p.place p.bytes p.kind

-- all parts, one after the other and in order, where this many transactions have begun before them
abbrev pub rows_of : Style → (started : Bool) → (count : ℕ) → List PartSeen → List ℕ
rows_of style started count [] = []
rows_of style started count (p ∷ ps) = next_row style started count p ++ rows_of style true (counted_with count p.kind) ps

-- ---- what is added to a page

-- a text that is written by way of the note, unless memory was refused for either, now or before
abbrev pub TakesRow : List ℕ → (old new : Page) → Type 0
TakesRow text old new = new.out.refused ≡ false → new.note.refused ≡ false
    → (old.out.refused ≡ false) × (old.note.refused ≡ false) × (new.out.bytes.items ≡ old.out.bytes.items ++ text)

-- a row with these names, this value and this meaning
abbrev pub Adds : Titles → ℕ → (value meaning : List ℕ) → (old new : Page) → Type 0
Adds t place value meaning old new = TakesRow (comma old.style old.started ++ row_text old.style place t value meaning) old new

-- what is written of a part, and of all these parts
abbrev pub AddsRow : PartSeen → (old new : Page) → Type 0
AddsRow p old new = TakesRow (next_row old.style old.started old.transactions p) old new

abbrev pub AddsRows : List PartSeen → (old new : Page) → Type 0
AddsRows ps old new = TakesRow (rows_of old.style old.started old.transactions ps) old new
