-- What a switch is handed and what it sends, as the model sees them.
use Rattle.std.specs.Prelude.{ℕ, List}
use Rattle.envelope.specs.Envelope.{Opened, envelope_text}
use Rattle.d0_header.specs.Request.{request_of}
use Rattle.claim_model.specs.Words.{Envelope, RequestHeader}
use Rattle.claim_model.specs.Table.{Routed as ModelRouted, Forward, Back}
use Rattle.switch_node.specs.declared.routing.Routed.{Routed}
use Rattle.switch_node.specs.declared.routing.Routed.TheVariants as routed

-- an envelope without its place in memory
abbrev pub content : Opened → Envelope
content e = record { kind = e.kind; id = e.id; payload = e.payload }

-- the header at the front of a readable request
unfoldable pub header_in : Opened → RequestHeader
header_in e = request_of e.payload

-- the packet that an envelope was opened from
abbrev pub packet_text : Opened → List ℕ
packet_text e = envelope_text e.kind e.id e.payload

-- where a request goes, and with which bytes
abbrev pub routed_as : Routed → ModelRouted
routed_as (routed.Forward payer packet) = Forward payer packet
routed_as (routed.Answer packet) = Back packet
