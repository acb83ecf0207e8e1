-- Which requests this product carries.
use Rattle.std.specs.Prelude.{◌≡◌, ℕ, Bool, ◌&&◌, nat_le, List, length, Option, Some, None, is_some, option_map, option_and_then, bytes_eq, codes, if◌then◌else◌}
use Rattle.d0_header.specs.Request.{Request}
use Rattle.d0_segments.specs.Parts.{TransmissionParts}
use Rattle.d0_segments.specs.declared.fault.FramingFault.{FramingFault}
use Rattle.d0_segments.specs.declared.fault.FramingFault.TheVariants as framing
use Rattle.d0_segments.specs.Framing.{request_kind, transmission_of}
use Rattle.claim_profile.specs.Transaction.{transaction_code}
use Rattle.claim_profile.specs.declared.readable.RequestFault.{RequestFault}
use Rattle.claim_profile.specs.declared.readable.RequestFault.TheVariants.{OutOfMemory, Unreadable}

-- of version D0, and of a kind that is carried: a billing or a reversal
abbrev pub is_carried : Request → Bool
is_carried h = bytes_eq h.version (codes "D0") && is_some (transaction_code h.code)

-- a header, where it is one of those
abbrev pub if_carried : Request → Option Request
if_carried h = if is_carried h then Some h else None

-- the header of a text that is framed as a request
abbrev pub framed_header : Option (TransmissionParts Request) → Option Request
framed_header framed = option_map (λ (t : TransmissionParts Request). t.header) framed

-- the most bytes of a request: as many as an envelope takes
abbrev pub longest_request : ℕ
longest_request = 32768

-- the header of a readable request: at most 32,768 bytes, framed, of version D0, with code B1 or B2
unfoldable pub readable_header : List ℕ → Option Request
readable_header text = if nat_le (length text) longest_request then option_and_then if_carried (framed_header (transmission_of request_kind text)) else None

-- a text is refused because it is not readable; want of memory says nothing
abbrev pub RefusesFor : RequestFault → Option Request → Type 0
RefusesFor OutOfMemory header = Unit {0}
RefusesFor Unreadable header = header ≡ None

-- the fault of a request whose framing has this fault
abbrev pub fault_of_framing : FramingFault → RequestFault
fault_of_framing framing.OutOfMemory = OutOfMemory
fault_of_framing fault = Unreadable
