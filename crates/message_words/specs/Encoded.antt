-- How texts are put into lines and into JSON.
use Rattle.std.specs.Prelude.{ℕ, ◌-◌, List, [], ◌∷◌, ◌++◌, length, take, drop, replicate, Bool, not, ◌&&◌, ◌||◌, ◌==◌, codes, if◌then◌else◌}
use Rattle.std.specs.List.{flat_map}
use Rattle.std.specs.Fmt.{decimal}
use Rattle.input_text.specs.Printing.{is_printable, printed, stands_for_itself}

-- ---- columns of lines

-- this many spaces
abbrev pub spaces : ℕ → List ℕ
spaces count = replicate count 32

-- a text to the left in this many letters, as far as it fits
abbrev pub to_left : ℕ → List ℕ → List ℕ
to_left width text = take width text ++ spaces (width - length text)

-- a text to the right in this many letters; of a longer one its last letters
abbrev pub to_right : ℕ → List ℕ → List ℕ
to_right width text = spaces (width - length text) ++ drop (length text - width) text

-- ---- JSON

-- a letter that stands for itself in a string: it is printable, and neither the backslash nor the quotation mark
abbrev pub is_letter : ℕ → Bool
is_letter byte = stands_for_itself byte && not (byte == 34)

-- a letter in a string: the two are marked by a backslash, and what is not printable is a question mark
unfoldable pub json_letter : ℕ → List ℕ
json_letter byte =
    if byte == 34 || byte == 92 then 92 ∷ byte ∷ []
    else (if is_printable byte then byte ∷ [] else 63 ∷ [])

abbrev pub json_letters : List ℕ → List ℕ
json_letters text = flat_map json_letter text

-- a string: letters between quotation marks
abbrev pub json_string : List ℕ → List ℕ
json_string text = codes "\"" ++ json_letters text ++ codes "\""

-- the key of a member after another one, and members of words, of bytes as they are printed, and of a number
abbrev pub member_key : List ℕ → List ℕ
member_key key = codes ",\"" ++ key ++ codes "\":"

abbrev pub word_member : (key words : List ℕ) → List ℕ
word_member key words = member_key key ++ json_string words

abbrev pub printed_member : (key bytes : List ℕ) → List ℕ
printed_member key bytes = member_key key ++ json_string (printed bytes)

abbrev pub number_member : (key : List ℕ) → ℕ → List ℕ
number_member key number = member_key key ++ decimal number
