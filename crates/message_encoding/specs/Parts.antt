-- The message that a description in JSON tells by its parts.
use Rattle.std.specs.Prelude.{◌≡◌, ℕ, zero, suc, ◌+◌, ◌==◌, ◌&&◌, Bool, List, [], ◌∷◌, ◌++◌, length, drop, slice_index, codes, bytes_eq, Option, Some, None, is_some, option_map, cond, if◌then◌else◌}
use Rattle.std.specs.List.{list_any}
use Rattle.std.specs.Option.{option_eq}
use Rattle.std.specs.Result.{result_ok}
use Rattle.input_text.specs.Options.{◌>>=◌}
use Rattle.input_text.specs.Printing.{unprinted}
use Rattle.serde_json.specs.Data.{Data, Items, no_items, item}
use Rattle.serde_json.specs.Find.{get, get_item, as_str, as_array}
use Rattle.serde_json.specs.View.{view}
use Rattle.message_encoding.specs.declared.described.Described.{Described}

-- the text at a key
abbrev pub text_at : List ℕ → Data → Option (List ℕ)
text_at key d = get key d >>= as_str

-- the bytes that a printed text spells
abbrev pub spelled : List ℕ → Option (List ℕ)
spelled text = result_ok (unprinted text)

-- a number is one of these
abbrev pub is_among : List (List ℕ) → List ℕ → Bool
is_among known number = list_any (bytes_eq number) known

-- the fields of headers, which stand at their places without separators
abbrev pub header_numbers : List (List ℕ)
header_numbers =
    codes "101-A1" ∷ codes "102-A2" ∷ codes "103-A3" ∷ codes "104-A4" ∷ codes "109-A9" ∷ codes "202-B2" ∷ codes "201-B1" ∷ codes "401-D1"
    ∷ codes "110-AK" ∷ codes "501-F1" ∷ []

abbrev pub is_header : List ℕ → Bool
is_header number = is_among header_numbers number

-- the two bytes that name a field: they are all of its number, or stand after three digits and a dash
abbrev pub id_of : List ℕ → Option (List ℕ)
id_of number =
    if length number == 2 then Some number else
    (if length number == 6 && slice_index number 3 == 45 then Some (drop 4 number) else None)

-- they stand after a field separator
abbrev pub id_front : List ℕ → Option (List ℕ)
id_front number = option_map (λ id. 28 ∷ id) (id_of number)

-- what stands before the value of a field of this number
abbrev pub number_front : List ℕ → Option (List ℕ)
number_front number = if is_header number then Some [] else id_front number

abbrev pub field_front : Data → Option (List ℕ)
field_front field = as_str field >>= spelled >>= number_front

-- the same where a part may have no number: then it is its value
abbrev pub given_front : Option Data → Option (List ℕ)
given_front None = Some []
given_front (Some field) = field_front field

-- what stands before the value of a part
abbrev pub front_of : List ℕ → Data → Option (List ℕ)
front_of name part = if bytes_eq name (codes "segment") then Some (30 ∷ 28 ∷ 65 ∷ 77 ∷ []) else given_front (get (codes "field") part)

abbrev pub value_of : Data → Option (List ℕ)
value_of part = text_at (codes "value") part >>= spelled

abbrev pub joined : Option (List ℕ) → Option (List ℕ) → Option (List ℕ)
joined front behind = front >>= (λ xs. behind >>= (λ ys. Some (xs ++ ys)))

-- the bytes of a part of this name that has a value
abbrev pub valued : List ℕ → Data → Option (List ℕ)
valued name part = joined (front_of name part) (value_of part)

-- the bytes of a part of this name
abbrev pub named : Data → List ℕ → Option (List ℕ)
named part name = if bytes_eq name (codes "transaction") then Some (29 ∷ []) else valued name part

-- the bytes that a part stands for
abbrev pub part_bytes : Data → Option (List ℕ)
part_bytes part = text_at (codes "name") part >>= named part

-- the bytes of parts, one after the other
abbrev pub all_bytes : Items → Option (List ℕ)
all_bytes no_items = Some []
all_bytes (item part rest) = joined (part_bytes part) (all_bytes rest)

-- the place of the first part that stands for no bytes, where this is the place of the first one
abbrev pub first_wrong : ℕ → Items → Option ℕ
first_wrong place no_items = None
first_wrong place (item part rest) = if is_some (part_bytes part) then first_wrong (place + 1) rest else Some place

-- the list of a description's parts
abbrev pub parts_in : Data → Option Items
parts_in d = get (codes "parts") d >>= as_array

-- the text at a key of the part at a place
abbrev pub text_in_part : ℕ → List ℕ → Data → Option (List ℕ)
text_in_part place key d = parts_in d >>= get_item place >>= text_at key

-- the message that a description tells
abbrev pub message_of : Data → Option (List ℕ)
message_of d = parts_in d >>= all_bytes

-- a description that was read
abbrev pub seen : Described → Data
seen d = view d.value

-- ---- two descriptions of one message

-- two parts have one name and one number, and stand for the same bytes
pub record IsAlike (part other : Data) : Type 0 where
  pub name : text_at (codes "name") part ≡ text_at (codes "name") other
  pub field : text_at (codes "field") part ≡ text_at (codes "field") other
  pub bytes : part_bytes part ≡ part_bytes other

-- each part of one list and that at its place in the other
abbrev pub AreAlike : Items → Items → Type 0
AreAlike no_items no_items = Unit {0}
AreAlike no_items (item other others) = ⊥
AreAlike (item part parts) no_items = ⊥
AreAlike (item part parts) (item other others) = IsAlike part other × AreAlike parts others

abbrev pub DescribesAlike : Option Items → Option Items → Type 0
DescribesAlike (Some parts) (Some others) = AreAlike parts others
DescribesAlike (Some parts) None = ⊥
DescribesAlike None others = ⊥

-- at a place, from 0, the two parts are not alike, or only one list has one there; before it all parts are alike
abbrev pub DifferAt : ℕ → Items → Items → Type 0
DifferAt place no_items no_items = ⊥
DifferAt zero no_items (item other others) = Unit {0}
DifferAt (suc place) no_items (item other others) = ⊥
DifferAt zero (item part parts) no_items = Unit {0}
DifferAt (suc place) (item part parts) no_items = ⊥
DifferAt zero (item part parts) (item other others) = ¬ IsAlike part other
DifferAt (suc place) (item part parts) (item other others) = IsAlike part other × DifferAt place parts others

-- two texts are one, or neither is there
abbrev pub same_text : Option (List ℕ) → Option (List ℕ) → Bool
same_text text other = option_eq bytes_eq text other

-- the same of two parts, as a test
abbrev pub is_alike : Data → Data → Bool
is_alike part other =
    same_text (text_at (codes "name") part) (text_at (codes "name") other)
    && (same_text (text_at (codes "field") part) (text_at (codes "field") other) && same_text (part_bytes part) (part_bytes other))

-- the first place, where this is the place of the first parts, at which one list has no part or another one than the other list
abbrev pub first_unlike : ℕ → Items → Items → Option ℕ
first_unlike place no_items no_items = None
first_unlike place no_items (item other others) = Some place
first_unlike place (item part parts) no_items = Some place
first_unlike place (item part parts) (item other others) = cond (is_alike part other) (first_unlike (place + 1) parts others) (Some place)

abbrev pub unlike_in : Option Items → Option Items → Option ℕ
unlike_in (Some parts) (Some others) = first_unlike 0 parts others
unlike_in (Some parts) None = None
unlike_in None others = None
