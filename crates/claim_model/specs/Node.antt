-- One call on one node, up or at rest.
use Rattle.std.specs.Prelude.{ℕ, cond, List, [], ◌∷◌, map, Result, Ok, Err}
use Rattle.claim_model.specs.Words.{TxnId, Envelope, EnvelopeFault, Plan, PlanFault, Advice, Change}
use Rattle.claim_model.specs.Context.{Context}
use Rattle.claim_model.specs.Readable.{is_request, answer_envelope, rulings_in}
use Rattle.claim_model.specs.Refusal.{Refusal, NoSuchNode, Down, AlreadyUp, NoEnvelope, NotPriced, Unreadable, NotAsked, BadRule}
use Rattle.claim_model.specs.Rows.{Book}
use Rattle.claim_model.specs.Book.{Answered, answered, unadvised}
use Rattle.claim_model.specs.Journal.{RetryRule, is_rule, Journal, JournalAtRest, Sending, Submitted, submitted, ticked, due, heard, stopped, started, ruled_anew}
use Rattle.claim_model.specs.Table.{Table, Routed, Forward, Back, Requested, requested, Responded, responded}

-- a node by its kind and its number, from 1
pub data Node : Type 0 where
  Pharmacy : (number : ℕ) → Node
  Switch : (number : ℕ) → Node
  Payer : (number : ℕ) → Node

-- what a node sends
pub record Sent : Type 0 where
  pub to : Node
  pub bytes : List ℕ

-- what changes by a call: the plan of a payer, the rule of retries of a pharmacy, or the cap of a switch
pub data Revision : Type 0 where
  OfPlan : Change → Revision
  OfRule : RetryRule → Revision
  OfCap : (most : ℕ) → Revision

-- a call on one node. Adjudicate takes a packet with an advice: the answer of the payer's own system to the request in it
pub data Call : Type 0 where
  Submit : (text : List ℕ) → Call
  Tick : Call
  Take : (from : Node) → (bytes : List ℕ) → Call
  Stop : Call
  Start : Call
  Revise : Revision → Call
  Adjudicate : (from : Node) → (bytes : List ℕ) → (advice : List ℕ) → Call

-- a node is up, or at rest with what it keeps
pub data Power (A B : Type 0) : Type 0 where
  Up : A → Power A B
  AtRest : B → Power A B

-- a call was made, with what the node is then and what it sent; or it was refused, and nothing changed
pub data Outcome (A : Type 0) : Type 0 where
  Done : (next : A) → (sent : List Sent) → Outcome A
  Refused : Refusal → Outcome A

-- pharmacies

abbrev pub to_switch : Sending → Sent
to_switch s = record { to = Switch s.switch; bytes = s.bytes }

abbrev pub after_submit : Result Submitted Refusal → Outcome (Power Journal JournalAtRest)
after_submit (Err fault) = Refused fault
after_submit (Ok s) = Done (Up s.journal) (to_switch s.sent ∷ [])

abbrev pub after_hearing : Result Journal Refusal → Outcome (Power Journal JournalAtRest)
after_hearing (Err fault) = Refused fault
after_hearing (Ok j) = Done (Up j) []

abbrev pub pharmacy_takes : Context → Journal → Result Envelope EnvelopeFault → Outcome (Power Journal JournalAtRest)
pharmacy_takes ctx j (Err fault) = Refused (NoEnvelope fault)
pharmacy_takes ctx j (Ok e) = after_hearing (heard ctx j e)

abbrev pub pharmacy_up : Context → Journal → Call → Outcome (Power Journal JournalAtRest)
pharmacy_up ctx j (Submit text) = after_submit (submitted ctx j text)
pharmacy_up ctx j Tick = Done (Up (ticked j)) (map to_switch (due ctx (ticked j)))
pharmacy_up ctx j (Take from bytes) = pharmacy_takes ctx j (ctx.read_envelope bytes)
pharmacy_up ctx j Stop = Done (AtRest (stopped j)) []
pharmacy_up ctx j Start = Refused AlreadyUp
pharmacy_up ctx j (Revise (OfPlan change)) = Refused NoSuchNode
pharmacy_up ctx j (Revise (OfRule rule)) = cond (is_rule ctx.switches rule) (Done (Up (ruled_anew rule j)) []) (Refused BadRule)
pharmacy_up ctx j (Revise (OfCap most)) = Refused NoSuchNode
pharmacy_up ctx j (Adjudicate from bytes advice) = Refused NoSuchNode

abbrev pub pharmacy_at_rest : JournalAtRest → Call → Outcome (Power Journal JournalAtRest)
pharmacy_at_rest j (Submit text) = Refused Down
pharmacy_at_rest j Tick = Refused Down
pharmacy_at_rest j (Take from bytes) = Refused Down
pharmacy_at_rest j Stop = Refused Down
pharmacy_at_rest j Start = Done (Up (started j)) []
pharmacy_at_rest j (Revise (OfPlan change)) = Refused NoSuchNode
pharmacy_at_rest j (Revise (OfRule rule)) = Refused Down
pharmacy_at_rest j (Revise (OfCap most)) = Refused NoSuchNode
pharmacy_at_rest j (Adjudicate from bytes advice) = Refused NoSuchNode

-- a call on a pharmacy
abbrev pub pharmacy_step : Context → Power Journal JournalAtRest → Call → Outcome (Power Journal JournalAtRest)
pharmacy_step ctx (Up j) call = pharmacy_up ctx j call
pharmacy_step ctx (AtRest j) call = pharmacy_at_rest j call

-- switches, of which only the cap outlives a stop, and changes until the next start

abbrev pub to_payer_or_back : Node → Routed → Sent
to_payer_or_back from (Forward payer bytes) = record { to = Payer payer; bytes = bytes }
to_payer_or_back from (Back bytes) = record { to = from; bytes = bytes }

abbrev pub after_request : TxnId → Result Requested Refusal → Outcome (Power Table ℕ)
after_request id (Err fault) = Refused fault
after_request id (Ok r) = Done (Up r.table) (to_payer_or_back (Pharmacy id.pharmacy) r.routed ∷ [])

abbrev pub after_response : TxnId → Result Responded Refusal → Outcome (Power Table ℕ)
after_response id (Err fault) = Refused fault
after_response id (Ok r) = Done (Up r.table) (record { to = Pharmacy id.pharmacy; bytes = r.bytes } ∷ [])

abbrev pub switch_takes : Context → Table → Result Envelope EnvelopeFault → Outcome (Power Table ℕ)
switch_takes ctx t (Err fault) = Refused (NoEnvelope fault)
switch_takes ctx t (Ok e) = cond (is_request e) (after_request e.id (requested ctx t e)) (after_response e.id (responded ctx t e))

-- why a switch that is up does not change so: a table has its cap for as long as it is there
abbrev pub unchanged_up : Revision → Refusal
unchanged_up (OfPlan change) = NoSuchNode
unchanged_up (OfRule rule) = NoSuchNode
unchanged_up (OfCap most) = AlreadyUp

abbrev pub switch_up : Context → Table → Call → Outcome (Power Table ℕ)
switch_up ctx t (Submit text) = Refused NoSuchNode
switch_up ctx t Tick = Refused NoSuchNode
switch_up ctx t (Take from bytes) = switch_takes ctx t (ctx.read_envelope bytes)
switch_up ctx t Stop = Done (AtRest t.cap) []
switch_up ctx t Start = Refused AlreadyUp
switch_up ctx t (Revise revision) = Refused (unchanged_up revision)
switch_up ctx t (Adjudicate from bytes advice) = Refused NoSuchNode

abbrev pub switch_at_rest : ℕ → Call → Outcome (Power Table ℕ)
switch_at_rest cap (Submit text) = Refused NoSuchNode
switch_at_rest cap Tick = Refused NoSuchNode
switch_at_rest cap (Take from bytes) = Refused Down
switch_at_rest cap Stop = Refused Down
switch_at_rest cap Start = Done (Up (record { cap = cap; entries = [] })) []
switch_at_rest cap (Revise (OfPlan change)) = Refused NoSuchNode
switch_at_rest cap (Revise (OfRule rule)) = Refused NoSuchNode
switch_at_rest cap (Revise (OfCap most)) = Done (AtRest most) []
switch_at_rest cap (Adjudicate from bytes advice) = Refused NoSuchNode

-- a call on a switch
abbrev pub switch_step : Context → Power Table ℕ → Call → Outcome (Power Table ℕ)
switch_step ctx (Up t) call = switch_up ctx t call
switch_step ctx (AtRest cap) call = switch_at_rest cap call

-- payers, whose books are kept whole

abbrev pub after_answer : Context → Node → TxnId → Result Answered Refusal → Outcome (Power Book Book)
after_answer ctx from id (Err fault) = Refused fault
after_answer ctx from id (Ok a) = Done (Up a.book) (record { to = from; bytes = ctx.envelope (answer_envelope id a.bytes) } ∷ [])

abbrev pub payer_takes : Context → Book → Advice → Node → Result Envelope EnvelopeFault → Outcome (Power Book Book)
payer_takes ctx b advice from (Err fault) = Refused (NoEnvelope fault)
payer_takes ctx b advice from (Ok e) = cond (is_request e) (after_answer ctx from e.id (answered ctx b advice e.id e.payload)) (Refused Unreadable)

-- an advice of these bytes: it has no rulings where they are no answer
abbrev pub advice_in : Context → List ℕ → Advice
advice_in ctx advice = record { rulings = rulings_in (ctx.read_advice advice); text = advice }

abbrev pub after_reprice : Book → Result Plan PlanFault → Outcome (Power Book Book)
after_reprice b (Err fault) = Refused (NotPriced fault)
after_reprice b (Ok plan) = Done (Up (record { payer = b.payer; settings = b.settings; plan = plan; rows = b.rows })) []

abbrev pub payer_up : Context → Book → Call → Outcome (Power Book Book)
payer_up ctx b (Submit text) = Refused NoSuchNode
payer_up ctx b Tick = Refused NoSuchNode
payer_up ctx b (Take from bytes) = payer_takes ctx b unadvised from (ctx.read_envelope bytes)
payer_up ctx b Stop = Done (AtRest b) []
payer_up ctx b Start = Refused AlreadyUp
payer_up ctx b (Revise (OfPlan change)) = after_reprice b (ctx.reprice b.plan change)
payer_up ctx b (Revise (OfRule rule)) = Refused NoSuchNode
payer_up ctx b (Revise (OfCap most)) = Refused NoSuchNode
payer_up ctx b (Adjudicate from bytes advice) = cond b.settings.asks (payer_takes ctx b (advice_in ctx advice) from (ctx.read_envelope bytes)) (Refused NotAsked)

abbrev pub payer_at_rest : Book → Call → Outcome (Power Book Book)
payer_at_rest b (Submit text) = Refused NoSuchNode
payer_at_rest b Tick = Refused NoSuchNode
payer_at_rest b (Take from bytes) = Refused Down
payer_at_rest b Stop = Refused Down
payer_at_rest b Start = Done (Up b) []
payer_at_rest b (Revise (OfPlan change)) = Refused Down
payer_at_rest b (Revise (OfRule rule)) = Refused NoSuchNode
payer_at_rest b (Revise (OfCap most)) = Refused NoSuchNode
payer_at_rest b (Adjudicate from bytes advice) = Refused Down

-- a call on a payer
abbrev pub payer_step : Context → Power Book Book → Call → Outcome (Power Book Book)
payer_step ctx (Up b) call = payer_up ctx b call
payer_step ctx (AtRest b) call = payer_at_rest b call
