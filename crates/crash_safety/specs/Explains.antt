-- The explanation of a call as a test, which an audit computes.
use Rattle.std.specs.Prelude.{ℕ, Bool, true, false, ◌&&◌, ◌||◌, is_none, List, Option, Some, None, Result, Ok, Err, bytes_eq}
use Rattle.std.specs.List.{list_any}
use Rattle.claim_model.specs.Words.{RequestHeader, Envelope, EnvelopeFault}
use Rattle.claim_model.specs.Context.{Context}
use Rattle.claim_model.specs.Readable.{readable, payer_for, rejection, is_request, answer_envelope}
use Rattle.claim_model.specs.Node.{Node, Pharmacy, Switch, Payer, Call, Submit, Tick, Take, Stop, Start, Revise, OfPlan, OfRule, OfCap, Adjudicate}
use Rattle.claim_model.specs.World.{Packet}
use Rattle.claim_model.specs.Nodes.{same_node}

abbrev pub names_pharmacy : Node → Bool
names_pharmacy (Pharmacy n) = true
names_pharmacy (Switch n) = false
names_pharmacy (Payer n) = false

abbrev pub names_payer : Node → Bool
names_payer (Pharmacy n) = false
names_payer (Switch n) = false
names_payer (Payer n) = true

-- a payer had sent these bytes to this switch
abbrev pub answers_so : ℕ → List ℕ → Packet → Bool
answers_so m bytes q = names_payer q.from && (same_node q.to (Switch m) && bytes_eq q.bytes bytes)

-- a pharmacy had
abbrev pub asks_so : ℕ → List ℕ → Packet → Bool
asks_so m bytes q = names_pharmacy q.from && (same_node q.to (Switch m) && bytes_eq q.bytes bytes)

abbrev pub rejected_by : Context → List ℕ → Envelope → Option RequestHeader → Bool
rejected_by ctx bytes e None = false
rejected_by ctx bytes e (Some h) = is_none (payer_for ctx e.id h) && bytes_eq bytes (ctx.envelope (answer_envelope e.id (rejection ctx h)))

abbrev pub rejected_in : Context → List ℕ → Result Envelope EnvelopeFault → Bool
rejected_in ctx bytes (Err fault) = false
rejected_in ctx bytes (Ok e) = is_request e && rejected_by ctx bytes e (readable ctx e.payload)

-- this pharmacy had sent this switch a request without a route, of which these bytes are the fixed rejection
abbrev pub rejected_so : Context → ℕ → ℕ → List ℕ → Packet → Bool
rejected_so ctx n m bytes q = same_node q.from (Pharmacy n) && (same_node q.to (Switch m) && rejected_in ctx bytes (ctx.read_envelope q.bytes))

abbrev pub hears_from : Context → List Packet → ℕ → Node → List ℕ → Bool
hears_from ctx packets n (Switch m) bytes = list_any (answers_so m bytes) packets || list_any (rejected_so ctx n m bytes) packets
hears_from ctx packets n (Pharmacy k) bytes = false
hears_from ctx packets n (Payer k) bytes = false

abbrev pub takes_from : List Packet → Node → List ℕ → Bool
takes_from packets (Switch m) bytes = list_any (asks_so m bytes) packets
takes_from packets (Pharmacy k) bytes = false
takes_from packets (Payer k) bytes = false

-- a call of a pharmacy or a payer is explained by these packets
abbrev pub explains : Context → List Packet → Node → Call → Bool
explains ctx packets (Pharmacy n) (Take from bytes) = hears_from ctx packets n from bytes
explains ctx packets (Pharmacy n) (Submit text) = true
explains ctx packets (Pharmacy n) Tick = true
explains ctx packets (Pharmacy n) Stop = true
explains ctx packets (Pharmacy n) Start = true
explains ctx packets (Pharmacy n) (Revise (OfPlan change)) = false
explains ctx packets (Pharmacy n) (Revise (OfRule rule)) = true
explains ctx packets (Pharmacy n) (Revise (OfCap most)) = false
explains ctx packets (Pharmacy n) (Adjudicate from bytes advice) = false
explains ctx packets (Payer n) (Take from bytes) = takes_from packets from bytes
explains ctx packets (Payer n) (Submit text) = false
explains ctx packets (Payer n) Tick = false
explains ctx packets (Payer n) Stop = true
explains ctx packets (Payer n) Start = true
explains ctx packets (Payer n) (Revise (OfPlan change)) = true
explains ctx packets (Payer n) (Revise (OfRule rule)) = false
explains ctx packets (Payer n) (Revise (OfCap most)) = false
explains ctx packets (Payer n) (Adjudicate from bytes advice) = takes_from packets from bytes
explains ctx packets (Switch m) call = false
