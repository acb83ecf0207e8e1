-- Transmissions and their texts, and what is wrong with bytes that are the text of none.
use Rattle.std.specs.Prelude.{ℕ, ◌≡◌, List, ◌++◌, length, drop, true, ◌==◌, Option, None, Some, if◌then◌else◌}
use Rattle.d0_header.specs.Request.{Request, IsRequest, request_text, request_of, request_fault}
use Rattle.d0_header.specs.Response.{Response, IsResponse, response_text, response_of, response_fault}
use Rattle.d0_header.specs.declared.fault.HeaderFault.{HeaderFault}
use Rattle.d0_segments.specs.declared.fault.FramingFault.{FramingFault}
use Rattle.d0_segments.specs.declared.fault.FramingFault.TheVariants.{Header, CountMismatch}
use Rattle.d0_segments.specs.Separators.{group_separator}
use Rattle.d0_segments.specs.Parts.{TransmissionParts, are_segments, are_groups}
use Rattle.d0_segments.specs.Texts.{body_text}
use Rattle.d0_segments.specs.Faults.{first_fault, or_else, count_groups}
use Rattle.d0_segments.specs.Pieces.{shared_of, groups_of}

-- how the headers of one kind are written and read: how many bytes they have, their text, the groups that one announces, the first fault of bytes
-- as a header, and the header of bytes without one
pub record HeaderKind (H : Type 0) : Type 0 where
  pub size : ℕ
  pub text : H → List ℕ
  pub said : H → ℕ
  pub fault : List ℕ → Option HeaderFault
  pub header_of : List ℕ → H

abbrev pub request_kind : HeaderKind Request
request_kind = record { size = 56; text = request_text; said = λ h. h.count; fault = request_fault; header_of = request_of }

abbrev pub response_kind : HeaderKind Response
response_kind = record { size = 31; text = response_text; said = λ h. h.count; fault = response_fault; header_of = response_of }

-- the header, the shared segments and the groups, one after another
abbrev pub transmission_text : {H : Type 0} → HeaderKind H → TransmissionParts H → List ℕ
transmission_text kind t = kind.text t.header ++ body_text t.shared t.groups

-- what a well-formed transmission is: a sound header, segments and groups without a separator in their parts, no group empty, and as many groups as
-- the header announces
pub record IsFramed {H : Type 0} (sound : H → Type 0) (kind : HeaderKind H) (t : TransmissionParts H) : Type 0 where
  pub header : sound t.header
  pub shared : are_segments t.shared ≡ true
  pub groups : are_groups t.groups ≡ true
  pub count : kind.said t.header ≡ length t.groups

abbrev pub IsRequestFramed : TransmissionParts Request → Type 0
IsRequestFramed t = IsFramed IsRequest request_kind t

abbrev pub IsResponseFramed : TransmissionParts Response → Type 0
IsResponseFramed t = IsFramed IsResponse response_kind t

-- bytes are the text of this well-formed transmission
abbrev pub SpellsRequest : List ℕ → TransmissionParts Request → Type 0
SpellsRequest bytes t = IsRequestFramed t × (bytes ≡ transmission_text request_kind t)

abbrev pub SpellsResponse : List ℕ → TransmissionParts Response → Type 0
SpellsResponse bytes t = IsResponseFramed t × (bytes ≡ transmission_text response_kind t)

-- the fault of a header that announces another number of groups than there are
abbrev pub count_fault : (said found : ℕ) → Option FramingFault
count_fault said found = if said == found then None else Some (CountMismatch said found)

-- the first fault of what stands after a header: a row of the fault table, or the count
abbrev pub body_fault : (said place : ℕ) (body : List ℕ) → Option FramingFault
body_fault said place body = or_else (first_fault group_separator place body) (count_fault said (count_groups body))

-- a fault of the header, or what comes after
abbrev pub after_header : Option HeaderFault → Option FramingFault → Option FramingFault
after_header (Some fault) later = Some (Header fault)
after_header None later = later

-- the fault of bytes as a transmission: of the header, else of what stands after it
unfoldable pub framing_fault : {H : Type 0} → HeaderKind H → List ℕ → Option FramingFault
framing_fault kind bytes = after_header (kind.fault bytes) (body_fault (kind.said (kind.header_of bytes)) kind.size (drop kind.size bytes))

-- something, where there is no fault
abbrev pub unless : {A : Type 0} → Option FramingFault → A → Option A
unless (Some fault) x = None
unless None x = Some x

-- the transmission that bytes spell; none where they have a fault
unfoldable pub transmission_of : {H : Type 0} → HeaderKind H → List ℕ → Option (TransmissionParts H)
transmission_of kind bytes = unless (framing_fault kind bytes) (record { header = kind.header_of bytes; shared = shared_of (drop kind.size bytes); groups = groups_of (drop kind.size bytes) })
