-- What stands where in a message of a kind.
use Rattle.std.specs.Prelude.{◌≡◌, ℕ, List, ◌++◌, drop}
use Rattle.message_parts.specs.declared.dissecting.Carried.{Carried}
use Rattle.message_parts.specs.declared.dissecting.MessageKind.{MessageKind}
use Rattle.message_parts.specs.declared.dissecting.MessageKind.TheVariants as kind
use Rattle.message_parts.specs.declared.layout.Form.TheVariants.{Request, Answer}
use Rattle.message_parts.specs.Parts.{PartSeen}
use Rattle.message_parts.specs.Steps.{IsOne, IsPacket, head_parts, one_carried, packet_form, packet_rows, some_carried, width_of}
use Rattle.message_parts.specs.AtRest.{Told, record_told, transmission_parts}

-- a journal or a book: its parts, and the requests and answers in it
pub record IsRecord (bytes : List ℕ) (parts : List PartSeen) (carried : List Carried) : Type 0 where
  pub are : parts ≡ (record_told 0 bytes).parts
  pub only : carried ≡ (record_told 0 bytes).carried

-- the parts of a message of this kind, and the requests and answers in it
abbrev pub AreOf : MessageKind → List ℕ → List PartSeen → List Carried → Type 0
AreOf kind.Request bytes parts carried = IsOne Request bytes parts carried
AreOf kind.Answer bytes parts carried = IsOne Answer bytes parts carried
AreOf kind.Packet bytes parts carried = IsPacket bytes parts carried
AreOf kind.Record bytes parts carried = IsRecord bytes parts carried

-- the same as a function of its bytes
abbrev pub message_told : MessageKind → List ℕ → Told
message_told kind.Request bytes = record { parts = transmission_parts Request 0 bytes; carried = one_carried Request 0 bytes }
message_told kind.Answer bytes = record { parts = transmission_parts Answer 0 bytes; carried = one_carried Answer 0 bytes }
message_told kind.Packet bytes = record {
  parts = head_parts packet_rows 0 bytes ++ transmission_parts (packet_form bytes) (width_of packet_rows) (drop (width_of packet_rows) bytes);
  carried = some_carried (packet_form bytes) (width_of packet_rows) (drop (width_of packet_rows) bytes);
}
message_told kind.Record bytes = record_told 0 bytes
