-- How the crates below read and write bytes, under one table of routes.
use Rattle.std.specs.Prelude.{ℕ, List, [], map, Option, Some, None, Result, Ok, Err, option_map}
use Rattle.d0_segments.specs.Parts.{TransmissionParts}
use Rattle.d0_segments.specs.Framing.{request_kind, transmission_of}
use Rattle.envelope.specs.Envelope.{Opened, envelope_text}
use Rattle.envelope.specs.Opening.{envelope_of}
use Rattle.bin_routes.specs.Table.{RouteMaps, payer_under}
use Rattle.claim_profile.specs.declared.order_reading.OrderFault.{OrderFault}
use Rattle.claim_profile.specs.declared.order_reading.OrderFault.TheVariants.{Rejected as Refuses}
use Rattle.claim_profile.specs.declared.answer_reading.AnswerFault.{AnswerFault}
use Rattle.claim_profile.specs.Order.{order_of}
use Rattle.claim_profile.specs.Answer.{answer_text}
use Rattle.claim_profile.specs.Readable.{readable_header}
use Rattle.claim_profile.specs.Ruling.{AnswerParts, answer_of, advice_of}
use Rattle.carried_fields.specs.Carrying.{carrying_text, kept_text}
use Rattle.carried_fields.specs.Repeating.{Repeated, repeating_text}
use Rattle.plan_rules.specs.Pricing.{paid}
use Rattle.plan_rules.specs.Terms.{changed}
use Rattle.claim_model.specs.Words.{RequestHeader, AcceptedStatus, Order, Code, Ruling, Answer, Envelope, EnvelopeFault}
use Rattle.claim_model.specs.Context.{Context}

abbrev pub header_in : Option (TransmissionParts RequestHeader) → Option RequestHeader
header_in o = option_map (λ (t : TransmissionParts RequestHeader). t.header) o

-- an order, or the codes that reject it
abbrev pub order_in : Result Order OrderFault → Result Order (List Code)
order_in (Ok order) = Ok order
order_in (Err (Refuses rejects)) = Err rejects

-- the orders of all groups, in order
abbrev pub orders_in : Option (TransmissionParts RequestHeader) → List (Result Order (List Code))
orders_in None = []
orders_in (Some t) = map (λ group. order_in (order_of t.header t.shared group)) t.groups

-- an envelope without its place in memory
abbrev pub envelope_in : Result Opened EnvelopeFault → Result Envelope EnvelopeFault
envelope_in (Ok e) = Ok (record { kind = e.kind; id = e.id; payload = e.payload })
envelope_in (Err fault) = Err fault

abbrev pub answer_in : Result AnswerParts AnswerFault → Option Answer
answer_in (Ok a) = Some (record { header = a.header; rulings = a.rulings })
answer_in (Err fault) = None

-- what the answer to a request of this header keeps of an advice
abbrev pub kept_under : Option RequestHeader → List Ruling → List ℕ → List ℕ
kept_under None rulings said = []
kept_under (Some header) rulings said = kept_text header AcceptedStatus rulings said

-- the answer to a request of this header, each of whose places says what it repeats
abbrev pub repeated_under : Option RequestHeader → List Ruling → List (Option Repeated) → List ℕ
repeated_under None rulings places = []
repeated_under (Some header) rulings places = repeating_text (answer_text header AcceptedStatus rulings) places

-- the reading of bytes with these routes, among these switches
abbrev pub bytes_with : RouteMaps → Context
bytes_with routes = record {
  header = λ text. header_in (transmission_of request_kind text);
  orders = λ text. orders_in (transmission_of request_kind text);
  route = λ number key. payer_under routes number key;
  switches = routes.switches;
  price = paid;
  reprice = changed;
  answer = carrying_text;
  carried = λ request rulings said. kept_under (readable_header request) rulings said;
  repeated = λ request rulings places. repeated_under (readable_header request) rulings places;
  read_answer = λ text. answer_in (answer_of text);
  read_advice = λ text. answer_in (advice_of text);
  envelope = λ e. envelope_text e.kind e.id e.payload;
  read_envelope = λ bytes. envelope_in (envelope_of (0, 0) bytes);
}
