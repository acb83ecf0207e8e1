-- What one event gives, told forward: from where a node stands to the world after it.
use Rattle.std.proofs.Common.{◌≡◌, ℕ, Bool, true, false, cond, not, ◌&&◌, ◌==◌, List, [], ◌∷◌, ◌++◌, map, drop, length, nat_lt, Option, Some, None, Ok, Err, refl, sym, ap, ◌∙◌, subst}
use Rattle.std.specs.Prelude.{bytes_eq}
use Rattle.std.proofs.lemmas.Bool.{cases_eq, cond-true, and_from, not_from_false}
use Rattle.claim_model.specs.Words.{Advice, TxnId, RequestHeader, Envelope, Answer}
use Rattle.claim_model.specs.Context.{Context}
use Rattle.claim_model.specs.Readable.{fits, settles, same_id, answer_envelope, is_request}
use Rattle.claim_model.specs.declared.refusal.Refusal.{Refusal}
use Rattle.claim_model.specs.Numbered.{numbered, renumbered}
use Rattle.claim_model.specs.Rows.{Book}
use Rattle.claim_model.specs.Book.{unadvised, Answered, answered}
use Rattle.claim_model.specs.Journal.{Journal, JournalAtRest, Waits, Has, ticked, due, heard, heard_at, settle_with, started}
use Rattle.claim_model.specs.Table.{Slot, Table, slot_of, Requested, requested, entered, filled, Responded, responded, responded_readable, responded_by, responded_with}
use Rattle.claim_model.specs.Node.{Node, Pharmacy, Switch, Payer, Power, Up, AtRest, Sent, Call, Tick, Take, Adjudicate, Start, Done, to_switch, to_payer_or_back, after_request, after_response, switch_takes, after_hearing, pharmacy_takes, after_answer, payer_takes, advice_in, pharmacy_step, switch_step, payer_step}
use Rattle.claim_model.specs.World.{World, Packet, Ticking, Delivery, Starting, Adjudication, pharmacy_stepped, on_pharmacy, switch_stepped, on_switch, payer_stepped, on_payer, on_node, delivered, adjudicated, step}
use Rattle.claim_model.proofs.Sound.{with_pharmacy, with_switch, with_payer}
use Rattle.claim_model.proofs.Tests.{bytes_self, nat_self, id_self}

-- ---- nodes in the world

pub on_pharmacy_forward : (ctx : Context) (w : World) (n : ℕ) (s next : Power Journal JournalAtRest) (call : Call) (sent : List Sent) → numbered w.pharmacies n ≡ Some s → pharmacy_step ctx s call ≡ Done next sent
    → on_node ctx w (Pharmacy n) call ≡ Done (with_pharmacy w n next sent) sent
on_pharmacy_forward ctx w n s next call sent is e = ap (on_pharmacy ctx w n call) is ∙ ap (pharmacy_stepped w n) e

pub on_switch_forward : (ctx : Context) (w : World) (n : ℕ) (s next : Power Table ℕ) (call : Call) (sent : List Sent) → numbered w.switches n ≡ Some s → switch_step ctx s call ≡ Done next sent
    → on_node ctx w (Switch n) call ≡ Done (with_switch w n next sent) sent
on_switch_forward ctx w n s next call sent is e = ap (on_switch ctx w n call) is ∙ ap (switch_stepped w n) e

pub on_payer_forward : (ctx : Context) (w : World) (n : ℕ) (s next : Power Book Book) (call : Call) (sent : List Sent) → numbered w.payers n ≡ Some s → payer_step ctx s call ≡ Done next sent
    → on_node ctx w (Payer n) call ≡ Done (with_payer w n next sent) sent
on_payer_forward ctx w n s next call sent is e = ap (on_payer ctx w n call) is ∙ ap (payer_stepped w n) e

-- ---- starts and ticks

pub start_pharmacy : (ctx : Context) (w : World) (n : ℕ) (j : JournalAtRest) → numbered w.pharmacies n ≡ Some (AtRest j) → step ctx w (Starting (Pharmacy n)) ≡ Done (with_pharmacy w n (Up (started j)) []) []
unfolding step
start_pharmacy ctx w n j is = on_pharmacy_forward ctx w n (AtRest j) (Up (started j)) Start [] is refl

pub start_switch : (ctx : Context) (w : World) (m cap : ℕ) → numbered w.switches m ≡ Some (AtRest cap) → step ctx w (Starting (Switch m)) ≡ Done (with_switch w m (Up (record { cap = cap; entries = [] })) []) []
unfolding step
start_switch ctx w m cap is = on_switch_forward ctx w m (AtRest cap) (Up (record { cap = cap; entries = [] })) Start [] is refl

pub start_payer : (ctx : Context) (w : World) (p : ℕ) (b : Book) → numbered w.payers p ≡ Some (AtRest b) → step ctx w (Starting (Payer p)) ≡ Done (with_payer w p (Up b) []) []
unfolding step
start_payer ctx w p b is = on_payer_forward ctx w p (AtRest b) (Up b) Start [] is refl

pub tick_pharmacy : (ctx : Context) (w : World) (n : ℕ) (j : Journal) → numbered w.pharmacies n ≡ Some (Up j)
    → step ctx w (Ticking n) ≡ Done (with_pharmacy w n (Up (ticked j)) (map to_switch (due ctx (ticked j)))) (map to_switch (due ctx (ticked j)))
unfolding step
tick_pharmacy ctx w n j is = on_pharmacy_forward ctx w n (Up j) (Up (ticked j)) Tick (map to_switch (due ctx (ticked j))) is refl

-- ---- deliveries

pub deliver : (ctx : Context) (w : World) (k : ℕ) (p : Packet) → numbered w.packets k ≡ Some p → step ctx w (Delivery k) ≡ on_node ctx w p.to (Take p.from p.bytes)
unfolding step
deliver ctx w k p is = ap (delivered ctx w) is

pub adjudicate : (ctx : Context) (w : World) (k : ℕ) (advice : List ℕ) (p : Packet) → numbered w.packets k ≡ Some p → step ctx w (Adjudication k advice) ≡ on_node ctx w p.to (Adjudicate p.from p.bytes advice)
unfolding step
adjudicate ctx w k advice p is = ap (adjudicated ctx w advice) is

-- a packet at a switch that is up: a request
pub request_at_switch : (ctx : Context) (w : World) (m k : ℕ) (from : Node) (bytes : List ℕ) (e : Envelope) (t : Table) (r : Requested) → numbered w.switches m ≡ Some (Up t)
    → numbered w.packets k ≡ Some (record { from = from; to = Switch m; bytes = bytes }) → ctx.read_envelope bytes ≡ Ok e → is_request e ≡ true → requested ctx t e ≡ Ok r
    → step ctx w (Delivery k) ≡ Done (with_switch w m (Up r.table) (to_payer_or_back (Pharmacy e.id.pharmacy) r.routed ∷ [])) (to_payer_or_back (Pharmacy e.id.pharmacy) r.routed ∷ [])
request_at_switch ctx w m k from bytes e t r up stands reads is goes =
    deliver ctx w k (record { from = from; to = Switch m; bytes = bytes }) stands
    ∙ on_switch_forward ctx w m (Up t) (Up r.table) (Take from bytes) _ up
    (ap (switch_takes ctx t) reads
    ∙ (cond-true (is_request e) (after_request e.id (requested ctx t e)) (after_response e.id (responded ctx t e)) is
    ∙ ap (after_request e.id) goes))

cond_false : {A : Type 0} (b : Bool) (x y : A) → b ≡ false → cond b x y ≡ y
cond_false true x y e = absurd (Rattle.std.proofs.lemmas.Bool.true≢false e)
cond_false false x y e = refl

-- an answer
pub answer_at_switch : (ctx : Context) (w : World) (m k : ℕ) (from : Node) (bytes : List ℕ) (e : Envelope) (t : Table) (r : Responded) → numbered w.switches m ≡ Some (Up t)
    → numbered w.packets k ≡ Some (record { from = from; to = Switch m; bytes = bytes }) → ctx.read_envelope bytes ≡ Ok e → is_request e ≡ false → responded ctx t e ≡ Ok r
    → step ctx w (Delivery k) ≡ Done (with_switch w m (Up r.table) (record { to = Pharmacy e.id.pharmacy; bytes = r.bytes } ∷ [])) (record { to = Pharmacy e.id.pharmacy; bytes = r.bytes } ∷ [])
answer_at_switch ctx w m k from bytes e t r up stands reads is goes =
    deliver ctx w k (record { from = from; to = Switch m; bytes = bytes }) stands
    ∙ on_switch_forward ctx w m (Up t) (Up r.table) (Take from bytes) _ up
    (ap (switch_takes ctx t) reads
    ∙ (cond_false (is_request e) (after_request e.id (requested ctx t e)) (after_response e.id (responded ctx t e)) is
    ∙ ap (after_response e.id) goes))

takes_forward : (ctx : Context) (b : Book) (advice : Advice) (from : Node) (bytes : List ℕ) (e : Envelope) (a : Answered) → ctx.read_envelope bytes ≡ Ok e → is_request e ≡ true → answered ctx b advice e.id e.payload ≡ Ok a
    → payer_takes ctx b advice from (ctx.read_envelope bytes) ≡ Done (Up a.book) (record { to = from; bytes = ctx.envelope (answer_envelope e.id a.bytes) } ∷ [])
takes_forward ctx b advice from bytes e a reads is goes =
    ap (payer_takes ctx b advice from) reads
    ∙ (cond-true (is_request e) (after_answer ctx from e.id (answered ctx b advice e.id e.payload)) (Rattle.claim_model.specs.Node.Refused Refusal.Unreadable) is
    ∙ ap (after_answer ctx from e.id) goes)

-- a request at a payer that is up
pub request_at_payer : (ctx : Context) (w : World) (p k : ℕ) (from : Node) (bytes : List ℕ) (e : Envelope) (b : Book) (a : Answered) → numbered w.payers p ≡ Some (Up b)
    → numbered w.packets k ≡ Some (record { from = from; to = Payer p; bytes = bytes }) → ctx.read_envelope bytes ≡ Ok e → is_request e ≡ true → answered ctx b unadvised e.id e.payload ≡ Ok a
    → step ctx w (Delivery k) ≡ Done (with_payer w p (Up a.book) (record { to = from; bytes = ctx.envelope (answer_envelope e.id a.bytes) } ∷ [])) (record { to = from; bytes = ctx.envelope (answer_envelope e.id a.bytes) } ∷ [])
request_at_payer ctx w p k from bytes e b a up stands reads is goes =
    deliver ctx w k (record { from = from; to = Payer p; bytes = bytes }) stands
    ∙ on_payer_forward ctx w p (Up b) (Up a.book) (Take from bytes) _ up
    (takes_forward ctx b unadvised from bytes e a reads is goes)

-- the same with an advice, where the payer asks
pub advised_at_payer : (ctx : Context) (w : World) (p k : ℕ) (advice : List ℕ) (from : Node) (bytes : List ℕ) (e : Envelope) (b : Book) (a : Answered) → b.settings.asks ≡ true → numbered w.payers p ≡ Some (Up b)
    → numbered w.packets k ≡ Some (record { from = from; to = Payer p; bytes = bytes }) → ctx.read_envelope bytes ≡ Ok e → is_request e ≡ true → answered ctx b (advice_in ctx advice) e.id e.payload ≡ Ok a
    → step ctx w (Adjudication k advice) ≡ Done (with_payer w p (Up a.book) (record { to = from; bytes = ctx.envelope (answer_envelope e.id a.bytes) } ∷ [])) (record { to = from; bytes = ctx.envelope (answer_envelope e.id a.bytes) } ∷ [])
advised_at_payer ctx w p k advice from bytes e b a asks up stands reads is goes =
    adjudicate ctx w k advice (record { from = from; to = Payer p; bytes = bytes }) stands
    ∙ on_payer_forward ctx w p (Up b) (Up a.book) (Adjudicate from bytes advice) _ up
    (cond-true b.settings.asks (payer_takes ctx b (advice_in ctx advice) from (ctx.read_envelope bytes)) (Rattle.claim_model.specs.Node.Refused Refusal.NotAsked) asks
    ∙ takes_forward ctx b (advice_in ctx advice) from bytes e a reads is goes)

-- an answer at a pharmacy that is up
pub answer_at_pharmacy : (ctx : Context) (w : World) (n k : ℕ) (from : Node) (bytes : List ℕ) (e : Envelope) (j after : Journal) → numbered w.pharmacies n ≡ Some (Up j)
    → numbered w.packets k ≡ Some (record { from = from; to = Pharmacy n; bytes = bytes }) → ctx.read_envelope bytes ≡ Ok e → heard ctx j e ≡ Ok after
    → step ctx w (Delivery k) ≡ Done (with_pharmacy w n (Up after) []) []
answer_at_pharmacy ctx w n k from bytes e j after up stands reads goes =
    deliver ctx w k (record { from = from; to = Pharmacy n; bytes = bytes }) stands
    ∙ on_pharmacy_forward ctx w n (Up j) (Up after) (Take from bytes) [] up
    (ap (pharmacy_takes ctx j) reads ∙ ap after_hearing goes)

-- ---- an answer that is heard

-- a journal with an answer at an open entry
abbrev pub settled_at : Journal → ℕ → List ℕ → List ℕ → Journal
settled_at j number request answer = record { number = j.number; settings = j.settings; rule = j.rule; entries = renumbered j.entries number (record { request = request; state = Has answer }) }

pub hears : (ctx : Context) (j : Journal) (id : TxnId) (request answer : List ℕ) (phase : ℕ) → j.number ≡ id.pharmacy → numbered j.entries id.number ≡ Some (record { request = request; state = Waits phase }) → settles ctx request answer ≡ true
    → heard ctx j (answer_envelope id answer) ≡ Ok (settled_at j id.number request answer)
unfolding heard
hears ctx j id request answer phase mine stands fits_it =
    let e : Envelope = answer_envelope id answer in
    let own : (id.pharmacy == j.number) ≡ true = subst (λ (m : ℕ). (id.pharmacy == m) ≡ true) (sym mine) (nat_self id.pharmacy) in
    cond-true (id.pharmacy == j.number) (heard_at ctx j e (numbered j.entries id.number)) (Err Refusal.NotMine) own
    ∙ (ap (heard_at ctx j e) stands
    ∙ cond-true (not (is_request e) && settles ctx request answer) (settle_with j id.number (record { request = request; state = Waits phase }) (Ok (Has answer))) (Err Refusal.Unreadable)
    (and_from (not (is_request e)) (settles ctx request answer) refl fits_it))

-- an answer with the request's code and count settles it
pub settles_it : (ctx : Context) (h : RequestHeader) (request answer : List ℕ) (a : Answer) → ctx.header request ≡ Some h → ctx.read_answer answer ≡ Some a → a.header.code ≡ h.code → a.header.count ≡ h.count → settles ctx request answer ≡ true
settles_it ctx h request answer a reads_h reads_a code count =
    ap (λ (q : Option RequestHeader). fits q (ctx.read_answer answer)) reads_h
    ∙ (ap (fits (Some h)) reads_a
    ∙ and_from (bytes_eq a.header.code h.code) (a.header.count == h.count) (subst (λ (x : List ℕ). bytes_eq a.header.code x ≡ true) code (bytes_self a.header.code))
    (subst (λ (x : ℕ). (a.header.count == x) ≡ true) count (nat_self a.header.count)))

-- ---- an answer that comes back to a switch

pub responds : (ctx : Context) (t : Table) (e : Envelope) (a : Answer) (slot : Slot) → is_request e ≡ false → ctx.read_answer e.payload ≡ Some a → slot_of e.id t.entries ≡ Some slot → slot.answer ≡ None
    → responded ctx t e ≡ Ok (record { table = filled t e.id e.payload; bytes = ctx.envelope e })
unfolding responded
responds ctx t e a slot is reads stands waits =
    cond_false (is_request e) (Err Refusal.Unreadable) (responded_readable ctx t e (ctx.read_answer e.payload)) is
    ∙ (ap (responded_readable ctx t e) reads
    ∙ (ap (responded_by ctx t e) stands ∙ ap (responded_with ctx t e) waits))

-- ---- a request at a switch

slot_beyond : (id : TxnId) (xs ys : List (TxnId × Slot)) → slot_of id xs ≡ None → slot_of id (xs ++ ys) ≡ slot_of id ys
slot_beyond id [] ys e = refl
slot_beyond id (x ∷ xs) ys e = go (same_id id x.0) (slot_beyond id xs ys) e
  where
    go : (b : Bool) → (slot_of id xs ≡ None → slot_of id (xs ++ ys) ≡ slot_of id ys) → cond b (Some x.1) (slot_of id xs) ≡ None → cond b (Some x.1) (slot_of id (xs ++ ys)) ≡ slot_of id ys
    go true on h = absurd cc
    go false on h = on h

slot_dropped : (id : TxnId) (xs : List (TxnId × Slot)) → slot_of id xs ≡ None → slot_of id (drop 1 xs) ≡ None
slot_dropped id [] e = e
slot_dropped id (x ∷ xs) e = go (same_id id x.0) e
  where
    go : (b : Bool) → cond b (Some x.1) (slot_of id xs) ≡ None → slot_of id xs ≡ None
    go true h = absurd cc
    go false h = h

-- a new request stands in the table, though a full one lost its oldest
pub entered_stands : (t : Table) (id : TxnId) (slot : Slot) → slot_of id t.entries ≡ None → slot_of id (entered t id slot).entries ≡ Some slot
entered_stands t id slot e = go (nat_lt (length t.entries) t.cap)
  where
    last : slot_of id ((id, slot) ∷ []) ≡ Some slot
    last = cond-true (same_id id id) (Some slot) None (id_self id)

    go : (b : Bool) → slot_of id (cond b t.entries (drop 1 t.entries) ++ (id, slot) ∷ []) ≡ Some slot
    go true = slot_beyond id t.entries ((id, slot) ∷ []) e ∙ last
    go false = slot_beyond id (drop 1 t.entries) ((id, slot) ∷ []) (slot_dropped id t.entries e) ∙ last
