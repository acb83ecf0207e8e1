-- What stands where in a message.
use Rattle.std.specs.Prelude.{◌≡◌, ◌<◌, ℕ, ◌+◌, Bool, true, false, ◌&&◌, ◌==◌, List, [], ◌∷◌, ◌++◌, length, take, drop, codes, if◌then◌else◌}
use Rattle.d0_segments.specs.Separators.{field_separator, group_separator, segment_separator, begins_with, plain_length}
use Rattle.d0_segments.specs.Faults.{has_segment_id, has_field_id}
use Rattle.message_parts.specs.declared.dissecting.Carried.{Carried}
use Rattle.message_parts.specs.declared.layout.Form.{Form}
use Rattle.message_parts.specs.declared.layout.Form.TheVariants.{Request, Answer}
use Rattle.message_parts.specs.declared.layout.Within.{Within}
use Rattle.message_parts.specs.declared.marks.Mark.TheVariants as mark
use Rattle.message_parts.specs.declared.names.FieldName.TheVariants as field
use Rattle.message_parts.specs.declared.part.PartKind.{PartKind}
use Rattle.message_parts.specs.declared.part.PartKind.TheVariants.{Header, Segment, Group, Field, Mark, Stray}
use Rattle.message_parts.specs.Known.{known_field}
use Rattle.message_parts.specs.Parts.{PartSeen}

-- ---- heads: fields at fixed places, as far as the bytes reach

-- the fields of a request's header with their widths
unfoldable pub request_rows : List (PartKind × ℕ)
request_rows =
    (Header field.Bin, 6) ∷ (Header field.Version, 2) ∷ (Header field.TransactionCode, 2) ∷ (Header field.Pcn, 10)
    ∷ (Header field.TransactionCount, 1) ∷ (Header field.ProviderQualifier, 2) ∷ (Header field.Provider, 15)
    ∷ (Header field.DateOfService, 8) ∷ (Header field.Vendor, 10) ∷ []

-- those of a response's header
unfoldable pub answer_rows : List (PartKind × ℕ)
answer_rows =
    (Header field.Version, 2) ∷ (Header field.TransactionCode, 2) ∷ (Header field.TransactionCount, 1)
    ∷ (Header field.HeaderStatus, 1) ∷ (Header field.ProviderQualifier, 2) ∷ (Header field.Provider, 15)
    ∷ (Header field.DateOfService, 8) ∷ []

-- the head of an envelope
unfoldable pub packet_rows : List (PartKind × ℕ)
packet_rows =
    (Mark mark.Letters, 2) ∷ (Mark mark.FormatVersion, 1) ∷ (Mark mark.Kind, 1) ∷ (Mark mark.Pharmacy, 2)
    ∷ (Mark mark.Number, 8) ∷ (Mark mark.Length, 4) ∷ []

-- the header of a request or of an answer
abbrev pub header_rows : Form → List (PartKind × ℕ)
header_rows Request = request_rows
header_rows Answer = answer_rows

-- how many bytes a head has
abbrev pub width_of : List (PartKind × ℕ) → ℕ
width_of [] = 0
width_of (row ∷ rows) = row.1 + width_of rows

-- these bytes as one part, and none where there are no bytes
abbrev pub filled_part : PartKind → ℕ → List ℕ → List PartSeen
filled_part kind place [] = []
filled_part kind place (b ∷ bs) = record { place = place; bytes = b ∷ bs; kind = kind } ∷ []

-- its parts, of the bytes from a place on; a field that the end cuts off is shorter
abbrev pub head_parts : List (PartKind × ℕ) → ℕ → List ℕ → List PartSeen
head_parts [] place bytes = []
head_parts (row ∷ rows) place bytes = filled_part row.0 place (take row.1 bytes) ++ head_parts rows (place + row.1) (drop row.1 bytes)

-- ---- after a header: each part reaches up to the next separator, and the head of a segment over its identification

-- whether the head of a segment begins here, as the standard has it
abbrev pub begins_segment : List ℕ → Bool
begins_segment [] = false
begins_segment (b ∷ bs) = b == segment_separator && has_segment_id bs

-- whether a field begins here
abbrev pub begins_field : List ℕ → Bool
begins_field [] = false
begins_field (b ∷ bs) = b == field_separator && has_field_id bs

-- whether a transaction begins here
abbrev pub begins_group : List ℕ → Bool
begins_group [] = false
begins_group (b ∷ bs) = b == group_separator && begins_with segment_separator bs

-- the identification of a segment, and the two bytes that name a field
abbrev pub segment_id : List ℕ → List ℕ
segment_id bytes = take 2 (drop 4 bytes)

abbrev pub field_id : List ℕ → List ℕ
field_id bytes = take 2 (drop 1 bytes)

-- how many bytes the part that begins here has
unfoldable pub part_size : List ℕ → ℕ
part_size bytes = if begins_segment bytes then 6 else 1 + plain_length (drop 1 bytes)

-- what it is
unfoldable pub part_kind : Form → Within → List ℕ → PartKind
part_kind form within bytes =
    if begins_segment bytes then Segment
    else (if begins_field bytes then Field (known_field form within (field_id bytes))
    else (if begins_group bytes then Group
    else Stray))

-- where the part after it stands
unfoldable pub within_behind : Within → List ℕ → Within
within_behind within bytes =
    if begins_segment bytes then record { shared = within.shared; segment = segment_id bytes }
    else (if begins_group bytes then record { shared = false; segment = codes "  " }
    else within)

-- after a header, before all segments
abbrev pub at_first : Within
at_first = record { shared = true; segment = codes "  " }

-- the part that begins at this place, where these bytes are left
abbrev pub part_at : Form → Within → ℕ → List ℕ → PartSeen
part_at form within place bytes =
    record { place = place; bytes = take (part_size bytes) bytes; kind = part_kind form within bytes }

-- these are the parts of the bytes after a header: each is the one that begins at its place, up to the end
abbrev pub AreBody : Form → Within → ℕ → List ℕ → List PartSeen → Type 0
AreBody form within place bytes [] = bytes ≡ []
AreBody form within place bytes (p ∷ ps) =
    (0 < length bytes) × (p ≡ part_at form within place bytes)
    × AreBody form (within_behind within bytes) (place + part_size bytes) (drop (part_size bytes) bytes) ps

-- ---- requests and answers

-- the parts of a request or an answer from a place on: its header, and what stands after it
pub record AreTransmission (form : Form) (place : ℕ) (bytes : List ℕ) (parts : List PartSeen) : Type 0 where
  pub body : List PartSeen
  pub are : parts ≡ head_parts (header_rows form) place bytes ++ body
  pub behind : AreBody form at_first (place + width_of (header_rows form)) (drop (width_of (header_rows form)) bytes) body

-- ---- whole messages

-- what an envelope carries by its head, and a request where it says neither
abbrev pub packet_form : List ℕ → Form
packet_form (p ∷ s ∷ version ∷ kind ∷ rest) = if kind == 2 then Answer else Request
packet_form _ = Request

-- the request or the answer that all of these bytes are, which stand at this place
abbrev pub one_carried : Form → ℕ → List ℕ → List Carried
one_carried form place bytes = record { form = form; place = place; size = length bytes } ∷ []

-- the same, and nothing where there are no bytes
abbrev pub some_carried : Form → ℕ → List ℕ → List Carried
some_carried form place [] = []
some_carried form place (b ∷ bs) = one_carried form place (b ∷ bs)

-- a message that is a request or an answer, whole
pub record IsOne (form : Form) (bytes : List ℕ) (parts : List PartSeen) (carried : List Carried) : Type 0 where
  pub transmission : AreTransmission form 0 bytes parts
  pub only : carried ≡ one_carried form 0 bytes

-- an envelope: its head, and the request or the answer after it
pub record IsPacket (bytes : List ℕ) (parts : List PartSeen) (carried : List Carried) : Type 0 where
  pub behind : List PartSeen
  pub are : parts ≡ head_parts packet_rows 0 bytes ++ behind
  pub payload : AreTransmission (packet_form bytes) (width_of packet_rows) (drop (width_of packet_rows) bytes) behind
  pub only : carried ≡ some_carried (packet_form bytes) (width_of packet_rows) (drop (width_of packet_rows) bytes)
