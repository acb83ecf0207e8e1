-- What stands where in a journal or a book at rest.
use Rattle.std.specs.Prelude.{ℕ, zero, suc, ◌+◌, Bool, true, false, ◌&&◌, ◌==◌, List, [], ◌∷◌, ◌++◌, length, take, drop, Option, Some, None, if◌then◌else◌}
use Rattle.codec.specs.Fields.{u16_at, u32_at}
use Rattle.kept_records.specs.Fields.{text_codec}
use Rattle.message_parts.specs.declared.dissecting.Carried.{Carried}
use Rattle.message_parts.specs.declared.layout.Form.{Form}
use Rattle.message_parts.specs.declared.layout.Form.TheVariants.{Request, Answer}
use Rattle.message_parts.specs.declared.layout.Within.{Within}
use Rattle.message_parts.specs.declared.marks.Mark.TheVariants as mark
use Rattle.message_parts.specs.declared.part.PartKind.{PartKind}
use Rattle.message_parts.specs.declared.part.PartKind.TheVariants.{Mark, Stray}
use Rattle.message_parts.specs.Parts.{PartSeen}
use Rattle.message_parts.specs.Steps.{filled_part, head_parts, header_rows, width_of, at_first, part_at, part_size, within_behind, one_carried}

-- the parts of some bytes, and the requests and answers in them
pub record Told : Type 0 where
  pub parts : List PartSeen
  pub carried : List Carried

-- these parts and transmissions, and then what is told of the bytes after them
abbrev pub told_before : List PartSeen → List Carried → Told → Told
told_before parts carried t = record { parts = parts ++ t.parts; carried = carried ++ t.carried }

-- how bytes are told that stand at a place
abbrev pub Telling : Type 0
Telling = ℕ → List ℕ → Told

-- ---- a request or an answer in a record

-- the parts of bytes after a header, this many at most
abbrev pub body_parts : ℕ → Form → Within → ℕ → List ℕ → List PartSeen
body_parts zero form within place bytes = []
body_parts (suc more) form within place [] = []
body_parts (suc more) form within place (b ∷ bs) = part_at form within place (b ∷ bs)
    ∷ body_parts more form (within_behind within (b ∷ bs)) (place + part_size (b ∷ bs)) (drop (part_size (b ∷ bs)) (b ∷ bs))

-- the parts of a request or an answer, of which no part has no bytes
abbrev pub transmission_parts : Form → ℕ → List ℕ → List PartSeen
transmission_parts form place bytes = head_parts (header_rows form) place bytes
    ++ body_parts (length bytes) form at_first (place + width_of (header_rows form)) (drop (width_of (header_rows form)) bytes)

-- ---- pieces of records, each with what stands after it

-- bytes that stand where none should
abbrev pub stray_told : Telling
stray_told place bytes = record { parts = filled_part Stray place bytes; carried = [] }

-- the next bytes, this many or what is left of them, as one part
abbrev pub piece_told : PartKind → ℕ → Telling → Telling
piece_told kind width behind place bytes =
    told_before (filled_part kind place (take width bytes)) [] (behind (place + length (take width bytes)) (drop width bytes))

-- the fields of a head
abbrev pub head_told : List (PartKind × ℕ) → Telling → Telling
head_told rows behind place bytes =
    told_before (head_parts rows place bytes) [] (behind (place + length (take (width_of rows) bytes)) (drop (width_of rows) bytes))

-- a text and what follows it; where none could be taken, the bytes stand where none should
abbrev pub taken_told : Form → Option (List ℕ × List ℕ) → Telling → Telling
taken_told form None behind place bytes = stray_told place bytes
taken_told form (Some taken) behind place bytes =
    told_before (transmission_parts form place taken.0) (one_carried form place taken.0) (behind (place + length taken.0) taken.1)

-- a request or an answer after its length, where it is all there and has at most 32,768 bytes
abbrev pub text_told : Form → Telling → Telling
text_told form behind place bytes = piece_told (Mark mark.Length) 4 (taken_told form (text_codec.at bytes) behind) place bytes

-- this many of these, one after the other
unfoldable pub each_told : (Telling → Telling) → ℕ → Telling → Telling
each_told one zero behind place bytes = behind place bytes
each_told one (suc left) behind place bytes = one (each_told one left behind) place bytes

-- ---- journals

-- the head of a journal
unfoldable pub journal_rows : List (PartKind × ℕ)
journal_rows = (Mark mark.Letters, 2) ∷ (Mark mark.FormatVersion, 1) ∷ (Mark mark.Pharmacy, 2) ∷ (Mark mark.Count, 4) ∷ []

-- what stands after this flag: nothing more of the entry after 0, and an answer after 1
abbrev pub flagged_told : List ℕ → Telling → Telling
flagged_told [] behind place bytes = stray_told place bytes
flagged_told (flag ∷ rest) behind place bytes =
    if flag == 0 then behind place bytes
    else (if flag == 1 then text_told Answer behind place bytes
    else stray_told place bytes)

abbrev pub flag_told : Telling → Telling
flag_told behind place bytes = piece_told (Mark mark.AnswerFlag) 1 (flagged_told (take 1 bytes) behind) place bytes

-- an entry: its number, its request, and its answer after a flag
unfoldable pub entry_told : Telling → Telling
entry_told behind = piece_told (Mark mark.Number) 8 (text_told Request (flag_told behind))

-- a number that may be cut off
abbrev pub count_in : Option (ℕ × List ℕ) → ℕ
count_in None = 0
count_in (Some taken) = taken.0

-- the number of four bytes that stands this many bytes from the front
abbrev pub count_at : ℕ → List ℕ → ℕ
count_at place bytes = count_in (u32_at (drop place bytes))

-- what a rule of retries begins with
unfoldable pub rule_rows : List (PartKind × ℕ)
rule_rows = (Mark mark.Again, 4) ∷ (Mark mark.Tries, 4) ∷ (Mark mark.SwitchCount, 2) ∷ []

-- how many switches a rule names
abbrev pub switch_count : List ℕ → ℕ
switch_count bytes = count_in (u16_at (drop 8 bytes))

-- the number of a switch
abbrev pub switch_told : Telling → Telling
switch_told behind place bytes = piece_told (Mark mark.Switch) 2 behind place bytes

-- a rule: its numbers, and as many switches as it says
unfoldable pub rule_told : Telling → Telling
rule_told behind place bytes = head_told rule_rows (each_told switch_told (switch_count bytes) behind) place bytes

-- a journal of version 3 has a rule after its head
abbrev pub has_rule : List ℕ → Bool
has_rule (p ∷ j ∷ version ∷ rest) = version == 3
has_rule _ = false

-- a rule where there is one
abbrev pub ruled_told : Bool → Telling → Telling
ruled_told true behind place bytes = rule_told behind place bytes
ruled_told false behind place bytes = behind place bytes

-- a journal: its head, its rule where it has one, as many entries as the head says, and nothing after them
unfoldable pub journal_told : Telling
journal_told place bytes =
    head_told journal_rows (ruled_told (has_rule bytes) (each_told entry_told (count_at 5 bytes) stray_told)) place bytes

-- ---- books

-- the head of a book
unfoldable pub book_rows : List (PartKind × ℕ)
book_rows =
    (Mark mark.Letters, 2) ∷ (Mark mark.FormatVersion, 1) ∷ (Mark mark.Payer, 2) ∷ (Mark mark.FirstSerial, 8)
    ∷ (Mark mark.Fee, 4) ∷ (Mark mark.Copay, 4) ∷ (Mark mark.ProductCount, 4) ∷ (Mark mark.Count, 4) ∷ []

-- a length of one byte, where it is there
abbrev pub short_length : List ℕ → ℕ
short_length [] = 0
short_length (b ∷ bs) = b

-- a product: the length of its text, the text, and its price
unfoldable pub product_told : Telling → Telling
product_told behind place bytes =
    piece_told (Mark mark.Length) 1 (piece_told (Mark mark.PlanProduct) (short_length bytes) (piece_told (Mark mark.Price) 4 behind)) place bytes

-- a row: its pharmacy and its number, its request and its answer
unfoldable pub row_told : Telling → Telling
row_told behind = piece_told (Mark mark.Pharmacy) 2 (piece_told (Mark mark.Number) 8 (text_told Request (text_told Answer behind)))

-- a book: its head, as many products and rows as the head says, and nothing after them
unfoldable pub book_told : Telling
book_told place bytes = head_told book_rows (each_told product_told (count_at 21 bytes) (each_told row_told (count_at 25 bytes) stray_told)) place bytes

-- ---- records

-- `PB` begins a book
abbrev pub is_book : List ℕ → Bool
is_book [] = false
is_book (first ∷ []) = false
is_book (first ∷ second ∷ rest) = first == 80 && second == 66

-- a record: a book, or else a journal
unfoldable pub record_told : Telling
record_told place bytes = if is_book bytes then book_told place bytes else journal_told place bytes
