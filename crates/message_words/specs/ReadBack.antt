-- What the JSON of a description tells of a message and of its parts, as members of objects.
use Rattle.std.specs.Prelude.{ℕ, Bool, List, [], ◌∷◌, length, codes, ◌==◌, if◌then◌else◌}
use Rattle.std.specs.Fmt.{decimal}
use Rattle.input_text.specs.Printing.{printed}
use Rattle.message_parts.specs.declared.dissecting.MessageKind.{MessageKind}
use Rattle.message_parts.specs.declared.part.PartKind.{PartKind}
use Rattle.message_parts.specs.declared.part.PartKind.TheVariants as kind
use Rattle.message_parts.specs.FieldTitles.{Titles}
use Rattle.message_parts.specs.Messages.{message_told}
use Rattle.message_parts.specs.Naming.{kind_name}
use Rattle.message_words.specs.Objects.{Digits, Listing, Member, Word, member, shown}
use Rattle.message_parts.specs.Parts.{PartSeen}
use Rattle.message_words.specs.Rows.{counted_with, meaning_in, names_in, value_in}

-- a member that is left out where this text is empty
abbrev pub unless_none : (text : List ℕ) → Member → List Member → List Member
unless_none text m more = if length text == 0 then more else m ∷ more

abbrev pub word : (key text : List ℕ) → Member
word key text = member key (Word (shown text))

abbrev pub number : (key : List ℕ) → ℕ → Member
number key n = member key (Digits (decimal n))

-- a part with these names: its place, the number and the name of its field, its value as it is printed, and what that means
abbrev pub row_told : ℕ → Titles → (value meaning : List ℕ) → List Member
row_told place t value meaning =
    number (codes "at") place
    ∷ unless_none t.number (word (codes "field") (printed t.number))
    (member (codes "name") (Word t.key)
    ∷ word (codes "value") (printed value)
    ∷ unless_none meaning (word (codes "meaning") meaning) [])

-- a part, where this many transactions have begun with it
abbrev pub part_told : ℕ → (place : ℕ) → (bytes : List ℕ) → PartKind → List Member
part_told count place bytes kind.Group =
    number (codes "at") place ∷ member (codes "name") (Word (codes "transaction")) ∷ number (codes "transaction") count ∷ []
part_told count place bytes kind = row_told place (names_in kind bytes) (value_in kind bytes) (meaning_in kind bytes)

-- all parts in order, where this many transactions have begun before them
abbrev pub parts_told : ℕ → List PartSeen → List (List Member)
parts_told count [] = []
parts_told count (p ∷ ps) = part_told (counted_with count p.kind) p.place p.bytes p.kind ∷ parts_told (counted_with count p.kind) ps

-- the line of the input, what the message is, its size, and which of the bytes around it were dropped
abbrev pub if_dropped : Bool → (key spelled : List ℕ) → List Member → List Member
if_dropped dropped key spelled more = if dropped then member key (Word spelled) ∷ more else more

abbrev pub front_told : (line : ℕ) → MessageKind → (size : ℕ) → Bool × Bool → List Member
front_told line kind size dropped =
    number (codes "line") line ∷ member (codes "kind") (Word (kind_name kind)) ∷ number (codes "bytes") size
    ∷ if_dropped dropped.0 (codes "dropped_before") (codes "\\x02") (if_dropped dropped.1 (codes "dropped_behind") (codes "\\x03") [])

-- a message of this kind, on a line of the input: what stands before its parts, and its parts
abbrev pub message_listing : Bool × Bool → (line : ℕ) → MessageKind → List ℕ → Listing
message_listing dropped line kind bytes = record {
  front = front_told line kind (length bytes) dropped;
  key = codes "parts";
  list = parts_told 0 (message_told kind bytes).parts;
}
