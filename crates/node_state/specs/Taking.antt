-- What the rule of a node that is up makes of a packet that it takes, and of its envelope.
use Rattle.std.specs.Prelude.{◌≡◌, ◌≢◌, ℕ, List, Result, Ok, Err}
use Rattle.std.proofs.Common.{ap}
use Rattle.envelope.specs.Envelope.{Opened}
use Rattle.bin_routes.specs.Table.{RouteMaps}
use Rattle.claim_model.specs.Words.{Advice, EnvelopeFault}
use Rattle.claim_model.specs.Bytes.{bytes_with, envelope_in}
use Rattle.claim_model.specs.declared.refusal.Refusal.TheVariants.{NoEnvelope, Unreadable}
use Rattle.claim_model.specs.Rows.{Book}
use Rattle.claim_model.specs.Book.{answered, unadvised}
use Rattle.claim_model.specs.Journal.{Journal, JournalAtRest, heard}
use Rattle.claim_model.specs.Table.{Table, requested, responded}
use Rattle.claim_model.specs.Node.{Node, Power, Up, Call, Submit, Tick, Take, Stop, Start, Revise, Adjudicate, Outcome, Refused, pharmacy_step, switch_step, payer_step, after_hearing, pharmacy_takes, switch_takes, after_request, after_response, payer_takes, after_answer}
use Rattle.switch_node.specs.Sent.{content}

-- of a packet: this of its envelope, or a refusal where it is none
abbrev pub taken : {A : Type 0} → (Opened → Outcome A) → Result Opened EnvelopeFault → Outcome A
taken takes (Ok envelope) = takes envelope
taken takes (Err fault) = Refused (NoEnvelope fault)

-- a packet is refused for another cause than that its payload is unreadable, or not at all; of another call this says nothing
abbrev pub IsReadable : {A : Type 0} → Call → Outcome A → Type 0
IsReadable (Submit text) outcome = Unit {0}
IsReadable Tick outcome = Unit {0}
IsReadable (Take from bytes) outcome = outcome ≢ Refused Unreadable
IsReadable Stop outcome = Unit {0}
IsReadable Start outcome = Unit {0}
IsReadable (Revise change) outcome = Unit {0}
IsReadable (Adjudicate from bytes advice) outcome = Unit {0}

-- a pharmacy hears an envelope
abbrev pub hears : RouteMaps → Journal → Opened → Outcome (Power Journal JournalAtRest)
hears routes journal envelope = after_hearing (heard (bytes_with routes) journal (content envelope))

-- a switch takes it: a request, or a response
abbrev pub switch_handles : RouteMaps → Table → Opened → Outcome (Power Table ℕ)
switch_handles routes table envelope = switch_takes (bytes_with routes) table (Ok (content envelope))

abbrev pub switch_requests : RouteMaps → Table → Opened → Outcome (Power Table ℕ)
switch_requests routes table envelope = after_request envelope.id (requested (bytes_with routes) table (content envelope))

abbrev pub switch_responds : RouteMaps → Table → Opened → Outcome (Power Table ℕ)
switch_responds routes table envelope = after_response envelope.id (responded (bytes_with routes) table (content envelope))

-- a payer takes it, with an advice, and answers to the node that it came from
abbrev pub payer_advised : RouteMaps → Book → Advice → Node → Opened → Outcome (Power Book Book)
payer_advised routes book advice from envelope = payer_takes (bytes_with routes) book advice from (Ok (content envelope))

abbrev pub payer_handles : RouteMaps → Book → Node → Opened → Outcome (Power Book Book)
payer_handles routes book from envelope = payer_advised routes book unadvised from envelope

abbrev pub payer_answers : RouteMaps → Book → Advice → Node → Opened → Outcome (Power Book Book)
payer_answers routes book advice from envelope =
    after_answer (bytes_with routes) from envelope.id (answered (bytes_with routes) book advice envelope.id envelope.payload)

-- a packet that is read so is taken so
pub pharmacy_reads : (routes : RouteMaps) (j : Journal) (from : Node) (bytes : List ℕ) (read : Result Opened EnvelopeFault) → (bytes_with routes).read_envelope bytes ≡ envelope_in read
    → pharmacy_step (bytes_with routes) (Up j) (Take from bytes) ≡ taken (hears routes j) read
pharmacy_reads routes j from bytes (Ok envelope) is = ap (pharmacy_takes (bytes_with routes) j) is
pharmacy_reads routes j from bytes (Err fault) is = ap (pharmacy_takes (bytes_with routes) j) is

pub switch_reads : (routes : RouteMaps) (t : Table) (from : Node) (bytes : List ℕ) (read : Result Opened EnvelopeFault) → (bytes_with routes).read_envelope bytes ≡ envelope_in read
    → switch_step (bytes_with routes) (Up t) (Take from bytes) ≡ taken (switch_handles routes t) read
switch_reads routes t from bytes (Ok envelope) is = ap (switch_takes (bytes_with routes) t) is
switch_reads routes t from bytes (Err fault) is = ap (switch_takes (bytes_with routes) t) is

pub payer_reads : (routes : RouteMaps) (b : Book) (from : Node) (bytes : List ℕ) (read : Result Opened EnvelopeFault) → (bytes_with routes).read_envelope bytes ≡ envelope_in read
    → payer_step (bytes_with routes) (Up b) (Take from bytes) ≡ taken (payer_handles routes b from) read
payer_reads routes b from bytes (Ok envelope) is = ap (payer_takes (bytes_with routes) b unadvised from) is
payer_reads routes b from bytes (Err fault) is = ap (payer_takes (bytes_with routes) b unadvised from) is

pub payer_opens : (routes : RouteMaps) (b : Book) (advice : Advice) (from : Node) (bytes : List ℕ) (read : Result Opened EnvelopeFault) → (bytes_with routes).read_envelope bytes ≡ envelope_in read
    → payer_takes (bytes_with routes) b advice from ((bytes_with routes).read_envelope bytes) ≡ taken (payer_advised routes b advice from) read
payer_opens routes b advice from bytes (Ok envelope) is = ap (payer_takes (bytes_with routes) b advice from) is
payer_opens routes b advice from bytes (Err fault) is = ap (payer_takes (bytes_with routes) b advice from) is
