-- What is told of a line that spells a message.
use Rattle.std.specs.Prelude.{ℕ, Bool, true, false, List, codes, bytes_eq, Option, None, Some, Result, Ok, Err, if◌then◌else◌}
use Rattle.d0_segments.specs.Separators.{begins_with}
use Rattle.input_text.specs.Printing.{unprinted}
use Rattle.message_parts.specs.declared.dissecting.MessageKind.{MessageKind}
use Rattle.message_parts.specs.declared.dissecting.MessageKind.TheVariants as kind
use Rattle.message_words.specs.declared.page.Style.{Style}
use Rattle.message_words.specs.declared.spelling.Spelling.{Spelling}
use Rattle.message_words.specs.declared.spelling.Spelling.TheVariants as spelling
use Rattle.message_words.specs.Described.{description}
use Rattle.message_parts.specs.Naming.{kind_of}
use Rattle.message_words.specs.Spelled.{ends_with, hex_spelled, without_first, without_last}
use Rattle.message_words.specs.Written.{unspelled_words}

-- the bytes that a line spells, or the first place at which it spells none
abbrev pub spelled : Spelling → List ℕ → Result (List ℕ) ℕ
spelled spelling.Hex line = hex_spelled line
spelled spelling.Printed line = unprinted line
spelled spelling.Raw line = unprinted line

-- what a message is: what all of them are said to be, else what its first bytes say
abbrev pub kind_in : Option MessageKind → List ℕ → MessageKind
kind_in None bytes = kind_of bytes
kind_in (Some kind) bytes = kind

-- what is told of the line of this number, which spells these bytes: their description; or that it spells none at a place
abbrev pub line_told : Option MessageKind → Style → Bool × Bool → (number : ℕ) → Result (List ℕ) ℕ → List ℕ
line_told kind style dropped number (Ok bytes) = description style dropped number (kind_in kind bytes) bytes
line_told kind style dropped number (Err place) = unspelled_words style number place

-- ---- a whole input that is one message

-- whether a byte 0x02 stands before the message, and a byte 0x03 behind it
abbrev pub stands_before : List ℕ → Bool
stands_before input = begins_with 2 input

abbrev pub stands_behind : List ℕ → Bool
stands_behind input = ends_with 3 (without_first (stands_before input) input)

-- the message between them
abbrev pub message_within : List ℕ → List ℕ
message_within input = without_last (stands_behind input) (without_first (stands_before input) input)

-- what is told of it
abbrev pub input_told : Option MessageKind → Style → List ℕ → List ℕ
input_told kind style input =
    description style (stands_before input, stands_behind input) 1 (kind_in kind (message_within input)) (message_within input)

-- ---- words

-- the kind that a word names
abbrev pub kind_worded : Option (List ℕ) → Option MessageKind
kind_worded None = None
kind_worded (Some word) =
    if bytes_eq word (codes "request") then Some kind.Request else
    if bytes_eq word (codes "answer") then Some kind.Answer else
    if bytes_eq word (codes "packet") then Some kind.Packet else
    if bytes_eq word (codes "record") then Some kind.Record else None

-- how bytes are spelled, where the whole input is said to be one message, or lines to be hexadecimal digits
abbrev pub spelling_asked : (raw hex : Bool) → Spelling
spelling_asked true hex = spelling.Raw
spelling_asked false true = spelling.Hex
spelling_asked false false = spelling.Printed
