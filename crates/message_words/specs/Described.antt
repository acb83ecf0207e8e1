-- The description of a message: its head, a row for each part, and what is found.
use Rattle.std.specs.Prelude.{ℕ, Bool, false, ◌||◌, List, [], ◌++◌, length, codes, if◌then◌else◌}
use Rattle.std.specs.Fmt.{decimal}
use Rattle.message_parts.specs.declared.dissecting.Carried.{Carried}
use Rattle.message_parts.specs.declared.dissecting.MessageKind.{MessageKind}
use Rattle.message_words.specs.declared.page.Page.{Page}
use Rattle.message_words.specs.declared.page.Style.{Style}
use Rattle.message_words.specs.declared.page.Style.TheVariants.{Lines, Json}
use Rattle.message_words.specs.AllFound.{found_text}
use Rattle.message_parts.specs.Messages.{message_told}
use Rattle.message_parts.specs.Naming.{kind_name}
use Rattle.message_parts.specs.Parts.{PartSeen}
use Rattle.message_words.specs.Rows.{rows_of}

-- memory was refused for one of the texts of a page
abbrev pub is_refused : Page → Bool
is_refused page =
    (page.out.refused || page.note.refused)
    || (page.findings.out.refused || page.findings.note.refused || page.findings.members.refused || page.findings.around.refused || page.findings.below.refused)

-- these words where a byte before the message was dropped, and those where one after it was
abbrev pub if_dropped : (before behind : List ℕ) → Bool × Bool → List ℕ
if_dropped before behind dropped = (if dropped.0 then before else []) ++ (if dropped.1 then behind else [])

-- a line of the input and what its message is, and the size of a message, between words
abbrev pub line_and_kind : (front : List ℕ) → (line : ℕ) → (between : List ℕ) → MessageKind → List ℕ
line_and_kind front line between kind = front ++ decimal line ++ between ++ kind_name kind

abbrev pub size_between : (front : List ℕ) → (size : ℕ) → (behind : List ℕ) → List ℕ
size_between front size behind = front ++ decimal size ++ behind

-- the line of the input, what the message is, its size, and which of the bytes around it were dropped
abbrev pub head_text : Style → (line : ℕ) → MessageKind → (size : ℕ) → Bool × Bool → List ℕ
head_text Lines line kind size dropped =
    line_and_kind (codes "line ") line (codes ": ") kind ++ size_between (codes " of ") size (codes " bytes")
    ++ if_dropped (codes ", without the byte 0x02 before it") (codes ", without the byte 0x03 behind it") dropped
head_text Json line kind size dropped =
    line_and_kind (codes "{\"line\":") line (codes ",\"kind\":\"") kind ++ size_between (codes "\",\"bytes\":") size (codes "")
    ++ if_dropped (codes ",\"dropped_before\":\"\\\\x02\"") (codes ",\"dropped_behind\":\"\\\\x03\"") dropped ++ codes ",\"parts\":["

-- what stands between the parts and what is found, and at the end
abbrev pub between_text : Style → List ℕ
between_text Lines = []
between_text Json = codes "],\"findings\":["

abbrev pub end_text : Style → List ℕ
end_text Lines = codes "\n\n"
end_text Json = codes "]}\n"

-- the description of a message of these parts, which carries these requests and answers: the head, a row for each part and
-- in their order, and then what is found
abbrev pub description_of : Style → Bool × Bool → (line : ℕ) → MessageKind → List ℕ → List PartSeen → List Carried → List ℕ
description_of style dropped line kind bytes parts carried =
    head_text style line kind (length bytes) dropped ++ rows_of style false 0 parts ++ between_text style
    ++ found_text style kind bytes carried ++ end_text style

-- the description of the message of this kind that these bytes are, on a line of the input
unfoldable pub description : Style → Bool × Bool → (line : ℕ) → MessageKind → List ℕ → List ℕ
description style dropped line kind bytes =
    description_of style dropped line kind bytes (message_told kind bytes).parts (message_told kind bytes).carried
