-- What a book without room or serials never answers.
use Rattle.std.proofs.Common.{◌≡◌, ℕ, ◌<◌, ◌≤◌, List, [], ◌∷◌, length, nat_lt, Option, Some, None, Result, Ok, Err, refl, sym, ap, ◌∙◌, subst, inl, inr, arith, ltb-true}
use Rattle.std.specs.Prelude.{⊤, option_map, option_and_then}
use Rattle.std.specs.List.{AllByRecursion}
use Rattle.std.proofs.lemmas.Bool.{cases_eq}
use Rattle.claim_model.specs.Words.{Advice, TxnId, RequestHeader, Envelope, EnvelopeFault, Plan, PlanFault}
use Rattle.claim_model.specs.Context.{Context}
use Rattle.claim_model.specs.Readable.{readable, payer_for, is_payer, is_request}
use Rattle.claim_model.specs.declared.refusal.Refusal.{Refusal}
use Rattle.claim_model.specs.Numbered.{numbered, renumbered}
use Rattle.claim_model.specs.Rows.{Row, Book}
use Rattle.claim_model.specs.Book.{row_of, new_row, has_verdicts, unadvised, Answered, entered_row, answered_by, answered_readable, answered}
use Rattle.claim_model.specs.Journal.{Journal, JournalAtRest}
use Rattle.claim_model.specs.Table.{Table}
use Rattle.claim_model.specs.Node.{Node, Pharmacy, Switch, Payer, Power, Up, AtRest, Sent, Call, Submit, Tick, Take, Stop, Start, Revise, Revision, OfPlan, OfRule, OfCap, Adjudicate, Outcome, Done, Refused, after_answer, payer_takes, advice_in, after_reprice, pharmacy_step, switch_step, payer_step}
use Rattle.claim_model.specs.World.{World, Packet, Event, Submission, Ticking, Delivery, Stopping, Starting, Revising, Adjudication, on_pharmacy, on_switch, on_payer, on_node, delivered, adjudicated, step, world_after, run}
use Rattle.claim_model.specs.Settings.{WorldSettings}
use Rattle.claim_model.specs.Held.{book_in, book_at, row_at, row_answer, asked, decided_by, decided_for, decided, held}
use Rattle.claim_model.specs.Promises.{Reached}
use Rattle.claim_model.proofs.Lists.{numbered_put, numbered_put_other}
use Rattle.claim_model.proofs.Options.{same_some, cond_ok}
use Rattle.claim_model.proofs.PharmacyStep.{done_same}
use Rattle.claim_model.proofs.PayerStep.{Rows, Known, New, answered_ruled, after_answer_done, takes_parts, asked_first}
use Rattle.claim_model.proofs.Held.{held_decided}
use Rattle.claim_model.proofs.Runs.{pharmacy_done, switch_done, payer_done, run_sound, reached_sound}
use Rattle.claim_recovery.specs.Room.{IsAskedOf, Never, AnyEvent}
use Rattle.claim_recovery.proofs.Paths.{reached_on}

-- ---- what a payer's book keeps, whatever events come

-- the payer has a book of which this holds
pub record Holds (P : Book → Type 0) (payer : ℕ) (w : World) : Type 0 where
  pub book : Book
  pub there : book_at w payer ≡ Some book
  pub holds : P book

-- the calls that an event may make on this payer
abbrev pub CallsFor : (Call → Type 0) → ℕ → Event → Type 0
CallsFor Q payer (Submission n text) = ⊤
CallsFor Q payer (Ticking n) = ⊤
CallsFor Q payer (Delivery k) = (from : Node) (bytes : List ℕ) → Q (Take from bytes)
CallsFor Q payer (Stopping node) = Q Stop
CallsFor Q payer (Starting node) = Q Start
CallsFor Q payer (Revising node revision) = node ≡ Payer payer → Q (Revise revision)
CallsFor Q payer (Adjudication k advice) = (from : Node) (bytes : List ℕ) → Q (Adjudicate from bytes advice)

abbrev pub Keeps : Context → (Book → Type 0) → (Call → Type 0) → Type 0
Keeps ctx P Q = (s next : Power Book Book) (call : Call) (sent : List Sent) → Q call → P (book_in s) → payer_step ctx s call ≡ Done next sent → P (book_in next)

at_payer : (ctx : Context) (P : Book → Type 0) (Q : Call → Type 0) (w v : World) (payer m : ℕ) (call : Call) (sent : List Sent) (o : Option (Power Book Book)) → Keeps ctx P Q → (m ≡ payer → Q call) → Holds P payer w → numbered w.payers m ≡ o → on_payer ctx w m call o ≡ Done v sent → Holds P payer v
at_payer ctx P Q w v payer m call sent None k q h at e = absurd cc
at_payer ctx P Q w v payer m call sent (Some s) k q h at e =
    let d = payer_done w m (payer_step ctx s call) v sent e in
    elim (cases_eq m payer) [
      | inl same ↦
          let here : book_at w payer ≡ Some (book_in s) = subst (λ (n : ℕ). book_at w n ≡ Some (book_in s)) same (ap (option_map book_in) at) in
          let before : P (book_in s) = subst P (same_some h.book (book_in s) (sym h.there ∙ here)) h.holds in
          let put : option_map book_in (numbered (renumbered w.payers m d.0) payer) ≡ Some (book_in d.0) =
          subst (λ (n : ℕ). option_map book_in (numbered (renumbered w.payers m d.0) n) ≡ Some (book_in d.0)) same (ap (option_map book_in) (numbered_put w.payers m s d.0 at)) in
          record { book = book_in d.0; there = ap (λ (x : World). book_at x payer) d.2 ∙ put; holds = k s d.0 call sent (q same) before d.1 }
      | inr other ↦ record { book = h.book; there = ap (λ (x : World). book_at x payer) d.2 ∙ (ap (option_map book_in) (numbered_put_other w.payers m payer d.0 other) ∙ h.there); holds = h.holds }
    ]

at_pharmacy : (ctx : Context) (P : Book → Type 0) (w v : World) (payer m : ℕ) (call : Call) (sent : List Sent) (o : Option (Power Journal JournalAtRest)) → Holds P payer w → on_pharmacy ctx w m call o ≡ Done v sent → Holds P payer v
at_pharmacy ctx P w v payer m call sent None h e = absurd cc
at_pharmacy ctx P w v payer m call sent (Some s) h e = record { book = h.book; there = ap (λ (x : World). book_at x payer) (pharmacy_done w m (pharmacy_step ctx s call) v sent e).2 ∙ h.there; holds = h.holds }

at_switch : (ctx : Context) (P : Book → Type 0) (w v : World) (payer m : ℕ) (call : Call) (sent : List Sent) (o : Option (Power Table ℕ)) → Holds P payer w → on_switch ctx w m call o ≡ Done v sent → Holds P payer v
at_switch ctx P w v payer m call sent None h e = absurd cc
at_switch ctx P w v payer m call sent (Some s) h e = record { book = h.book; there = ap (λ (x : World). book_at x payer) (switch_done w m (switch_step ctx s call) v sent e).2 ∙ h.there; holds = h.holds }

at_node : (ctx : Context) (P : Book → Type 0) (Q : Call → Type 0) (w v : World) (payer : ℕ) (node : Node) (call : Call) (sent : List Sent) → Keeps ctx P Q → Q call → Holds P payer w → on_node ctx w node call ≡ Done v sent → Holds P payer v
at_node ctx P Q w v payer (Pharmacy m) call sent k q h e = at_pharmacy ctx P w v payer m call sent (numbered w.pharmacies m) h e
at_node ctx P Q w v payer (Switch m) call sent k q h e = at_switch ctx P w v payer m call sent (numbered w.switches m) h e
at_node ctx P Q w v payer (Payer m) call sent k q h e = at_payer ctx P Q w v payer m call sent (numbered w.payers m) k (λ same. q) h refl e

at_delivery : (ctx : Context) (P : Book → Type 0) (Q : Call → Type 0) (w v : World) (payer : ℕ) (sent : List Sent) (o : Option Packet) → Keeps ctx P Q → ((from : Node) (bytes : List ℕ) → Q (Take from bytes)) → Holds P payer w → delivered ctx w o ≡ Done v sent → Holds P payer v
at_delivery ctx P Q w v payer sent None k q h e = absurd cc
at_delivery ctx P Q w v payer sent (Some p) k q h e = at_node ctx P Q w v payer p.to (Take p.from p.bytes) sent k (q p.from p.bytes) h e

at_adjudication : (ctx : Context) (P : Book → Type 0) (Q : Call → Type 0) (w v : World) (payer : ℕ) (advice : List ℕ) (sent : List Sent) (o : Option Packet) → Keeps ctx P Q → ((from : Node) (bytes : List ℕ) → Q (Adjudicate from bytes advice)) → Holds P payer w → adjudicated ctx w advice o ≡ Done v sent → Holds P payer v
at_adjudication ctx P Q w v payer advice sent None k q h e = absurd cc
at_adjudication ctx P Q w v payer advice sent (Some p) k q h e = at_node ctx P Q w v payer p.to (Adjudicate p.from p.bytes advice) sent k (q p.from p.bytes) h e

at_revision : (ctx : Context) (P : Book → Type 0) (Q : Call → Type 0) (w v : World) (payer : ℕ) (node : Node) (revision : Revision) (sent : List Sent) → Keeps ctx P Q → (node ≡ Payer payer → Q (Revise revision)) → Holds P payer w
    → on_node ctx w node (Revise revision) ≡ Done v sent → Holds P payer v
at_revision ctx P Q w v payer (Pharmacy m) revision sent k q h e = at_pharmacy ctx P w v payer m (Revise revision) sent (numbered w.pharmacies m) h e
at_revision ctx P Q w v payer (Switch m) revision sent k q h e = at_switch ctx P w v payer m (Revise revision) sent (numbered w.switches m) h e
at_revision ctx P Q w v payer (Payer m) revision sent k q h e = at_payer ctx P Q w v payer m (Revise revision) sent (numbered w.payers m) k (λ same. q (ap (λ (n : ℕ). Payer n) same)) h refl e

at_event : (ctx : Context) (P : Book → Type 0) (Q : Call → Type 0) (w v : World) (payer : ℕ) (event : Event) (sent : List Sent) → Keeps ctx P Q → CallsFor Q payer event → Holds P payer w → step ctx w event ≡ Done v sent → Holds P payer v
unfolding step
at_event ctx P Q w v payer (Submission n text) sent k q h e = at_pharmacy ctx P w v payer n (Submit text) sent (numbered w.pharmacies n) h e
at_event ctx P Q w v payer (Ticking n) sent k q h e = at_pharmacy ctx P w v payer n Tick sent (numbered w.pharmacies n) h e
at_event ctx P Q w v payer (Delivery i) sent k q h e = at_delivery ctx P Q w v payer sent (numbered w.packets i) k q h e
at_event ctx P Q w v payer (Stopping node) sent k q h e = at_node ctx P Q w v payer node Stop sent k q h e
at_event ctx P Q w v payer (Starting node) sent k q h e = at_node ctx P Q w v payer node Start sent k q h e
at_event ctx P Q w v payer (Revising node revision) sent k q h e = at_revision ctx P Q w v payer node revision sent k q h e
at_event ctx P Q w v payer (Adjudication i advice) sent k q h e = at_adjudication ctx P Q w v payer advice sent (numbered w.packets i) k q h e

at_outcome : (ctx : Context) (P : Book → Type 0) (Q : Call → Type 0) (w : World) (payer : ℕ) (event : Event) (o : Outcome World) → Keeps ctx P Q → CallsFor Q payer event → Holds P payer w → step ctx w event ≡ o → Holds P payer (world_after w o)
at_outcome ctx P Q w payer event (Refused f) k q h e = h
at_outcome ctx P Q w payer event (Done v sent) k q h e = at_event ctx P Q w v payer event sent k q h e

pub holds_on : (ctx : Context) (P : Book → Type 0) (Q : Call → Type 0) (w : World) (payer : ℕ) (events : List Event) → Keeps ctx P Q → AllByRecursion (CallsFor Q payer) events → Holds P payer w → Holds P payer (run ctx w events)
holds_on ctx P Q w payer [] k q h = h
holds_on ctx P Q w payer (event ∷ events) k q h = holds_on ctx P Q (world_after w (step ctx w event)) payer events k q.1 (at_outcome ctx P Q w payer event (step ctx w event) k q.0 h refl)

-- ---- no row, no answer

undecided : (ctx : Context) (w : World) (id : TxnId) (request : List ℕ) (h : RequestHeader) (payer : ℕ) → asked w id ≡ Some request → readable ctx request ≡ Some h → payer_for ctx id h ≡ Some payer → row_at w payer id ≡ None → decided ctx w id ≡ None
unfolding decided
undecided ctx w id request h payer asks reads route none =
    ap (λ (o : Option (List ℕ)). decided_for ctx w id (option_and_then (readable ctx) o)) asks
    ∙ (ap (decided_for ctx w id) reads
    ∙ (ap (decided_by ctx w id h) route
    ∙ ap (option_and_then (row_answer ctx)) none))

unheld : (ctx : Context) (given : WorldSettings) (w : World) (node : Node) (id : TxnId) (o : Option (List ℕ)) → Reached ctx given w → decided ctx w id ≡ None → held ctx w node id ≡ o → o ≡ None
unheld ctx given w node id None r d e = refl
unheld ctx given w node id (Some a) r d e = absurd (none_some (sym d ∙ held_decided ctx given w node id a (reached_sound ctx given w r) e))
  where
    none_some : ◌≡◌ {A = Option (List ℕ)} None (Some a) → ⊥
    none_some h = cc

-- what is asked for stays asked for
pub asked_on : (ctx : Context) (given : WorldSettings) (w : World) (id : TxnId) (request : List ℕ) (events : List Event) → Reached ctx given w → asked w id ≡ Some request → asked (run ctx w events) id ≡ Some request
asked_on ctx given w id request events r asks = (run_sound ctx given w events r.laws r.accepts (reached_sound ctx given w r)).later.asks id request asks

pub never_by : (ctx : Context) (given : WorldSettings) (w : World) (id : TxnId) (request : List ℕ) (h : RequestHeader) (payer : ℕ) (b : Book) (events : List Event) (node : Node) → Reached ctx given w → IsAskedOf ctx w id request h payer b → row_at (run ctx w events) payer id ≡ None
    → held ctx (run ctx w events) node id ≡ None
never_by ctx given w id request h payer b events node r x none =
    let v : World = run ctx w events in
    let rv : Reached ctx given v = reached_on ctx given w v events r refl in
    unheld ctx given v node id (held ctx v node id) rv (undecided ctx v id request h payer (asked_on ctx given w id request events r x.asks) x.reads x.route none) refl

-- ---- a full book

-- a full book without a row of the id
pub record IsFull (id : TxnId) (b : Book) : Type 0 where
  pub full : b.settings.cap ≤ length b.rows
  pub none : row_of id b.rows ≡ None

room_in : (ctx : Context) (b : Book) (advice : Advice) (id : TxnId) (request : List ℕ) (h : RequestHeader) (o : Option Row) (a : Answered) → o ≡ None → answered_by ctx b advice id request h o ≡ Ok a → length b.rows < b.settings.cap
room_in ctx b advice id request h (Some row) a is e = absurd cc
room_in ctx b advice id request h None a is e = ltb-true _ _ (cond_ok (nat_lt (length b.rows) b.settings.cap) (entered_row ctx b h (has_verdicts ctx b advice id request) (new_row ctx b advice id request)) Refusal.BookFull a e).0

room_of : (ctx : Context) (b : Book) (advice : Advice) (id : TxnId) (request : List ℕ) (o : Option RequestHeader) (a : Answered) → row_of id b.rows ≡ None → answered_readable ctx b advice id request o ≡ Ok a → length b.rows < b.settings.cap
room_of ctx b advice id request None a none e = absurd cc
room_of ctx b advice id request (Some h) a none e = room_in ctx b advice id request h (row_of id b.rows) a none (cond_ok (is_payer b.payer (payer_for ctx id h)) (answered_by ctx b advice id request h (row_of id b.rows)) Refusal.NotOurs a e).1

-- a new row needs room
new_needs_room : (ctx : Context) (b : Book) (advice : Advice) (id : TxnId) (request : List ℕ) (a : Answered) → row_of id b.rows ≡ None → answered ctx b advice id request ≡ Ok a → length b.rows < b.settings.cap
unfolding answered
new_needs_room ctx b advice id request a none e = room_of ctx b advice id request (readable ctx request) a none e

full_rows : (ctx : Context) (id : TxnId) (b : Book) (advice : Advice) (i : TxnId) (r : List ℕ) (h : RequestHeader) (a : Answered) → answered ctx b advice i r ≡ Ok a → IsFull id b → Rows ctx b advice i r h a → IsFull id a.book
full_rows ctx id b advice i r h a e f (Known row found same book text) = subst (IsFull id) (sym book) f
full_rows ctx id b advice i r h a e f (New fresh fits advised book text) = let room = new_needs_room ctx b advice i r a fresh e in let full = f.full in absurd (omega (arith, room, full))

full_takes : (ctx : Context) (id : TxnId) (b : Book) (advice : Advice) (from : Node) (o : Result Envelope EnvelopeFault) (next : Power Book Book) (sent : List Sent) → IsFull id b → payer_takes ctx b advice from o ≡ Done next sent → IsFull id (book_in next)
full_takes ctx id b advice from (Err fault) next sent f e = absurd cc
full_takes ctx id b advice from (Ok env) next sent f e =
    let t = takes_parts (is_request env) (after_answer ctx from env.id (answered ctx b advice env.id env.payload)) next sent e in
    let d = after_answer_done ctx from env.id (answered ctx b advice env.id env.payload) next sent t.1 in
    let r = answered_ruled ctx b advice env.id env.payload d.0 d.1 in
    subst (λ (x : Power Book Book). IsFull id (book_in x)) d.2 (full_rows ctx id b advice env.id env.payload r.header d.0 d.1 f r.rows)

full_reprice : (id : TxnId) (b : Book) (o : Result Plan PlanFault) (next : Power Book Book) (sent : List Sent) → IsFull id b → after_reprice b o ≡ Done next sent → IsFull id (book_in next)
full_reprice id b (Err fault) next sent f e = absurd cc
full_reprice id b (Ok plan) next sent f e =
    subst (λ (x : Power Book Book). IsFull id (book_in x)) (done_same (Up (record { payer = b.payer; settings = b.settings; plan = plan; rows = b.rows })) next [] sent e).0 (record { full = f.full; none = f.none })

AnyCall : Call → Type 0
AnyCall call = ⊤

full_keeps : (ctx : Context) (id : TxnId) → Keeps ctx (IsFull id) AnyCall
full_keeps ctx id (Up b) next (Take from bytes) sent q f e = full_takes ctx id b unadvised from (ctx.read_envelope bytes) next sent f e
full_keeps ctx id (Up b) next (Adjudicate from bytes advice) sent q f e =
    full_takes ctx id b (advice_in ctx advice) from (ctx.read_envelope bytes) next sent f (asked_first b.settings.asks _ next sent e).1
full_keeps ctx id (Up b) next Stop sent q f e = subst (λ (x : Power Book Book). IsFull id (book_in x)) (done_same (AtRest b) next [] sent e).0 f
full_keeps ctx id (Up b) next (Revise (OfPlan change)) sent q f e = full_reprice id b (ctx.reprice b.plan change) next sent f e
full_keeps ctx id (Up b) next (Revise (OfRule rule)) sent q f e = absurd cc
full_keeps ctx id (Up b) next (Revise (OfCap most)) sent q f e = absurd cc
full_keeps ctx id (AtRest b) next Start sent q f e = subst (λ (x : Power Book Book). IsFull id (book_in x)) (done_same (Up b) next [] sent e).0 f
full_keeps ctx id (Up b) next (Submit text) sent q f e = absurd cc
full_keeps ctx id (Up b) next Tick sent q f e = absurd cc
full_keeps ctx id (Up b) next Start sent q f e = absurd cc
full_keeps ctx id (AtRest b) next (Submit text) sent q f e = absurd cc
full_keeps ctx id (AtRest b) next Tick sent q f e = absurd cc
full_keeps ctx id (AtRest b) next (Take from bytes) sent q f e = absurd cc
full_keeps ctx id (AtRest b) next Stop sent q f e = absurd cc
full_keeps ctx id (AtRest b) next (Revise (OfPlan change)) sent q f e = absurd cc
full_keeps ctx id (AtRest b) next (Revise (OfRule rule)) sent q f e = absurd cc
full_keeps ctx id (AtRest b) next (Revise (OfCap most)) sent q f e = absurd cc
full_keeps ctx id (AtRest b) next (Adjudicate from bytes advice) sent q f e = absurd cc

any_calls : (payer : ℕ) (event : Event) → CallsFor AnyCall payer event
unfolding AnyCall
any_calls payer (Submission n text) = tt
any_calls payer (Ticking n) = tt
any_calls payer (Delivery k) = λ from bytes. tt
any_calls payer (Stopping node) = tt
any_calls payer (Starting node) = tt
any_calls payer (Revising n change) = λ same. tt
any_calls payer (Adjudication k advice) = λ from bytes. tt

all_calls : (payer : ℕ) (events : List Event) → AllByRecursion (CallsFor AnyCall payer) events
all_calls payer [] = tt
all_calls payer (event ∷ events) = (any_calls payer event, all_calls payer events)

pub full_never : (ctx : Context) (given : WorldSettings) (w : World) (id : TxnId) (request : List ℕ) (h : RequestHeader) (payer : ℕ) (b : Book) → Reached ctx given w → IsAskedOf ctx w id request h payer b → row_of id b.rows ≡ None → b.settings.cap ≤ length b.rows → Never ctx w id AnyEvent
full_never ctx given w id request h payer b r x none full = λ events node any.
    let k : Holds (IsFull id) payer (run ctx w events) =
    holds_on ctx (IsFull id) AnyCall w payer events (full_keeps ctx id) (all_calls payer events) (record { book = b; there = x.book; holds = record { full = full; none = none } }) in
    never_by ctx given w id request h payer b events node r x (ap (option_and_then (λ (q : Book). row_of id q.rows)) k.there ∙ k.holds.none)
