-- Objects of JSON as they are read from a text: members of words and of numbers, and lists of such objects. Nothing here knows how a description
-- is written.
use Rattle.std.specs.Prelude.{ℕ, zero, suc, List, [], ◌∷◌, length, Bool, true, false, ◌||◌, ◌==◌, map, Option, Some, None, option_map, if◌then◌else◌}
use Rattle.input_text.specs.Decimals.{is_digit}
use Rattle.input_text.specs.Options.{◌>>=◌}
use Rattle.input_text.specs.Printing.{is_printable}

-- a member's value: a word, or the digits of a number
pub data Value : Type 0 where
  Word : List ℕ → Value
  Digits : List ℕ → Value

pub record Member : Type 0 where
  pub key : List ℕ
  pub value : Value

abbrev pub member : (key : List ℕ) → Value → Member
member key value = record { key = key; value = value }

-- what is read of a text, and what follows it
abbrev pub Read : Type 0 → Type 0
Read A = Option (A × List ℕ)

-- what follows this byte, where the text begins with it
abbrev pub after : ℕ → List ℕ → Option (List ℕ)
after byte [] = None
after byte (b ∷ bs) = if b == byte then Some bs else None

-- ---- words and numbers

abbrev pub onto : ℕ → Read (List ℕ) → Read (List ℕ)
onto byte read = option_map (λ r. (byte ∷ r.0, r.1)) read

-- the quotation mark and the backslash stand in a word after a backslash, and no other letter does
abbrev pub word_in : (marked : Bool) → List ℕ → Read (List ℕ)
word_in marked [] = None
word_in true (b ∷ bs) = if b == 34 || b == 92 then onto b (word_in false bs) else None
word_in false (b ∷ bs) = if b == 34 then Some ([], bs) else if b == 92 then word_in true bs else onto b (word_in false bs)

-- the digits up to the first other byte
abbrev pub digits_in : List ℕ → List ℕ × List ℕ
digits_in [] = ([], [])
digits_in (b ∷ bs) = if is_digit b then (b ∷ (digits_in bs).0, (digits_in bs).1) else ([], b ∷ bs)

abbrev pub value_in : List ℕ → Read Value
value_in [] = None
value_in (b ∷ bs) =
    if b == 34 then option_map (λ r. (Word r.0, r.1)) (word_in false bs)
    else if is_digit b then Some (Digits (digits_in (b ∷ bs)).0, (digits_in (b ∷ bs)).1) else None

-- ---- members and objects

-- a key with its colon
abbrev pub key_in : List ℕ → Read (List ℕ)
key_in text = after 34 text >>= word_in false >>= (λ r. option_map (λ rest. (r.0, rest)) (after 58 r.1))

abbrev pub member_in : List ℕ → Read Member
member_in text = key_in text >>= (λ k. option_map (λ v. (member k.0 v.0, v.1)) (value_in k.1))

-- one of several, and the others: up to this bracket, or after a comma by another reading
abbrev pub listed : {A : Type 0} → (bracket : ℕ) → (List ℕ → Read (List A)) → A → List ℕ → Read (List A)
listed bracket others one [] = None
listed bracket others one (b ∷ bs) =
    if b == bracket then Some (one ∷ [], bs)
    else if b == 44 then option_map (λ r. (one ∷ r.0, r.1)) (others bs) else None

-- this many members at most, up to the end of an object
abbrev pub members_in : (most : ℕ) → List ℕ → Read (List Member)
members_in zero text = None
members_in (suc most) text = member_in text >>= (λ m. listed 125 (members_in most) m.0 m.1)

-- an object of this many members at most
abbrev pub object_in : (most : ℕ) → List ℕ → Read (List Member)
object_in most text = after 123 text >>= members_in most

-- this many objects at most, each of so many members, up to the end of a list
abbrev pub objects_in : (turns most : ℕ) → List ℕ → Read (List (List Member))
objects_in zero most text = None
objects_in (suc turns) most text = object_in most text >>= (λ o. listed 93 (objects_in turns most) o.0 o.1)

-- a list of them, which may be empty
abbrev pub list_in : (most : ℕ) → List ℕ → Read (List (List Member))
list_in most [] = None
list_in most (b ∷ bs) = if b == 93 then Some ([], bs) else objects_in most most (b ∷ bs)

-- ---- what a text tells

-- the members of the object that a text is up to its first list, and that list with its key
pub record Listing : Type 0 where
  pub front : List Member
  pub key : List ℕ
  pub list : List (List Member)

abbrev pub with_front : Member → Listing → Listing
with_front m l = record { front = m ∷ l.front; key = l.key; list = l.list }

-- after a key: the list, or a value, after which there is a further member
abbrev pub listing_after : (List ℕ → Option Listing) → (most : ℕ) → (key : List ℕ) → List ℕ → Option Listing
listing_after others most key [] = None
listing_after others most key (b ∷ bs) =
    if b == 91 then option_map (λ r. record { front = []; key = key; list = r.0 }) (list_in most bs)
    else value_in (b ∷ bs) >>= (λ v. option_map (with_front (member key v.0)) (after 44 v.1 >>= others))

abbrev pub listing_from : (turns most : ℕ) → List ℕ → Option Listing
listing_from zero most text = None
listing_from (suc turns) most text = key_in text >>= (λ k. listing_after (listing_from turns most) most k.0 k.1)

abbrev pub listing_in : List ℕ → Option Listing
listing_in text = after 123 text >>= listing_from (length text) (length text)

-- ---- letters as a string of JSON shows them

-- what is not printable is shown as a question mark
abbrev pub shown_letter : ℕ → ℕ
shown_letter byte = if is_printable byte then byte else 63

abbrev pub shown : List ℕ → List ℕ
shown text = map shown_letter text
