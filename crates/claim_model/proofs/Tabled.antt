-- The in-flight table of a switch has no id twice and at most cap entries, whatever events come.
use Rattle.std.proofs.Common.{◌≡◌, ℕ, zero, suc, ◌<◌, ◌≤◌, Bool, true, false, cond, List, [], ◌∷◌, ◌++◌, map, drop, length, nat_lt, Option, Some, None, Result, Ok, Err, refl, sym, ap, ◌∙◌, subst, inl, inr, arith, length-append, length-drop}
use Rattle.std.specs.Prelude.{◌⊎◌, bytes_eq}
use Rattle.std.specs.List.{AllByRecursion, IsDistinct}
use Rattle.std.specs.Map.{keys_of}
use Rattle.std.proofs.lemmas.Bool.{cases_eq}
use Rattle.std.proofs.lemmas.Bool.Decides.{nat_tests}
use Rattle.std.proofs.lemmas.List.{length-map}
use Rattle.std.proofs.lemmas.Map.Made.{AllPairs-from_IsDistinct}
use Rattle.claim_model.specs.Words.{TxnId, RequestHeader, Envelope, EnvelopeFault, Answer}
use Rattle.claim_model.specs.Context.{Context}
use Rattle.claim_model.specs.Readable.{readable, payer_for, same_id, is_request}
use Rattle.claim_model.specs.Refusal.{Refusal}
use Rattle.claim_model.specs.Numbered.{numbered, renumbered}
use Rattle.claim_model.specs.Table.{Slot, Table, slot_of, Requested, requested_again, entered_where, requested_by, requested_readable, requested, filled, Responded, responded_with, responded_by, responded_readable, responded}
use Rattle.claim_model.specs.Node.{Node, Pharmacy, Switch, Payer, Power, Up, AtRest, Sent, Call, Submit, Tick, Take, Stop, Start, Revise, OfPlan, OfRule, OfCap, Adjudicate, Outcome, Done, Refused, after_request, after_response, switch_takes, pharmacy_step, switch_step, payer_step}
use Rattle.claim_model.specs.Journal.{Journal, JournalAtRest}
use Rattle.claim_model.specs.Rows.{Book}
use Rattle.claim_model.specs.World.{World, Packet, Event, Submission, Ticking, Delivery, Stopping, Starting, Revising, Adjudication, on_pharmacy, on_switch, on_payer, on_node, step, world_after, run}
use Rattle.claim_model.specs.Nodes.{Asked, taking, adjudicating, asked, asked_step}
use Rattle.claim_model.specs.Settings.{WorldSettings, switches_of, opening}
use Rattle.claim_model.specs.InFlight.{IsInFlight, IsGiven, TablesInFlight}
use Rattle.claim_model.proofs.Lists.{all_from, numbered_put, numbered_put_other}
use Rattle.claim_model.proofs.Options.{map_some, same_some, same_ok, cond_ok, cond_ok_not}
use Rattle.claim_model.proofs.Tests.{id_same, id_self}
use Rattle.claim_model.proofs.Runs.{pharmacy_done, switch_done, payer_done}
use Rattle.claim_model.proofs.Steps.{step_asked}

-- ---- one table

-- the same, told by the test on ids
record Keeps (t : Table) : Type 0 where
  ids : IsDistinct same_id (keys_of t.entries)
  few : 0 < t.cap → length t.entries ≤ t.cap

-- a table that came from another: it keeps what that one kept, with the same cap
record Becomes (t after : Table) : Type 0 where
  cap : after.cap ≡ t.cap
  keeps : Keeps after

slot_absent : (b : Bool) (s : Slot) (rest : Option Slot) → cond b (Some s) rest ≡ None → (b ≡ false) × (rest ≡ None)
slot_absent true s rest e = absurd cc
slot_absent false s rest e = (refl, e)

id_differs : (a b : TxnId) → same_id a b ≡ false → same_id b a ≡ false
id_differs a b e = by_test (same_id b a) refl
  where
    by_test : (t : Bool) → same_id b a ≡ t → t ≡ false
    by_test true is = let other : same_id a b ≡ true = subst (λ (x : TxnId). same_id x b ≡ true) (id_same b a is) (id_self b) in cc
    by_test false is = refl

none_dropped : (id : TxnId) (es : List (TxnId × Slot)) → slot_of id es ≡ None → slot_of id (drop 1 es) ≡ None
none_dropped id [] e = refl
none_dropped id (x ∷ es) e = (slot_absent (same_id id x.0) x.1 (slot_of id es) e).1

distinct_dropped : (es : List (TxnId × Slot)) → IsDistinct same_id (keys_of es) → IsDistinct same_id (keys_of (drop 1 es))
unfolding IsDistinct
distinct_dropped [] h = tt
distinct_dropped (x ∷ es) h = h.1

differs_more : (x id : TxnId) (slot : Slot) (es : List (TxnId × Slot)) → same_id id x ≡ false → AllByRecursion (λ y. same_id x y ≡ false) (keys_of es) → AllByRecursion (λ y. same_id x y ≡ false) (keys_of (es ++ (id, slot) ∷ []))
differs_more x id slot [] e all = (id_differs id x e, tt)
differs_more x id slot (y ∷ es) e all = (all.0, differs_more x id slot es e all.1)

distinct_more : (id : TxnId) (slot : Slot) (es : List (TxnId × Slot)) → IsDistinct same_id (keys_of es) → slot_of id es ≡ None → IsDistinct same_id (keys_of (es ++ (id, slot) ∷ []))
unfolding IsDistinct
distinct_more id slot [] h e = (tt, tt)
distinct_more id slot (x ∷ es) h e =
    let p = slot_absent (same_id id x.0) x.1 (slot_of id es) e in
    (differs_more x.0 id slot es p.0 h.0, distinct_more id slot es h.1 p.1)

entered_keeps : (t : Table) (id : TxnId) (slot : Slot) (b : Bool) → Keeps t → slot_of id t.entries ≡ None → nat_lt (length t.entries) t.cap ≡ b
    → Keeps (record { cap = t.cap; entries = cond b t.entries (drop 1 t.entries) ++ (id, slot) ∷ [] })
entered_keeps t id slot true k e is =
    let room : length t.entries < t.cap = room_from (length t.entries) t.cap is in
    record { ids = distinct_more id slot t.entries k.ids e; few = λ some. omega (arith, length-append t.entries ((id, slot) ∷ [])) }
  where
    room_from : (m n : ℕ) → nat_lt m n ≡ true → m < n
    room_from m n e = grind (arith, nat_tests)
entered_keeps t id slot false k e is =
    record {
      ids = distinct_more id slot (drop 1 t.entries) (distinct_dropped t.entries k.ids) (none_dropped id t.entries e);
      few = λ some. let few = k.few some in omega (arith, length-append (drop 1 t.entries) ((id, slot) ∷ []), length-drop 1 t.entries);
    }

entered_becomes : (t : Table) (e : Envelope) (o : Option ℕ) → Keeps t → slot_of e.id t.entries ≡ None → Becomes t (entered_where t e o)
entered_becomes t e None k none = record { cap = refl; keeps = k }
entered_becomes t e (Some payer) k none = record { cap = refl; keeps = entered_keeps t e.id (record { request = e.payload; answer = None }) (nat_lt (length t.entries) t.cap) k none refl }

again_same : (ctx : Context) (t : Table) (e : Envelope) (h : RequestHeader) (o : Option (List ℕ)) → (requested_again ctx t e h o).table ≡ t
again_same ctx t e h (Some answer) = refl
again_same ctx t e h None = refl

becomes_same : (t after : Table) → after ≡ t → Keeps t → Becomes t after
becomes_same t after e k = subst (Becomes t) (sym e) (record { cap = refl; keeps = k })

by_slot : (ctx : Context) (t : Table) (e : Envelope) (h : RequestHeader) (o : Option Slot) (r : Requested) → Keeps t → slot_of e.id t.entries ≡ o → requested_by ctx t e h o ≡ Ok r → Becomes t r.table
by_slot ctx t e h None r k is ok = subst (λ (q : Requested). Becomes t q.table) (same_ok _ r ok) (entered_becomes t e (payer_for ctx e.id h) k is)
by_slot ctx t e h (Some s) r k is ok =
    let p = cond_ok (bytes_eq s.request e.payload) (Ok (requested_again ctx t e h s.answer)) Refusal.NumberReused r ok in
    subst (λ (q : Requested). Becomes t q.table) (same_ok _ r p.1) (becomes_same t _ (again_same ctx t e h s.answer) k)

by_header : (ctx : Context) (t : Table) (e : Envelope) (o : Option RequestHeader) (r : Requested) → Keeps t → requested_readable ctx t e o ≡ Ok r → Becomes t r.table
by_header ctx t e None r k ok = absurd cc
by_header ctx t e (Some h) r k ok = by_slot ctx t e h (slot_of e.id t.entries) r k refl ok

requested_becomes : (ctx : Context) (t : Table) (e : Envelope) (r : Requested) → Keeps t → requested ctx t e ≡ Ok r → Becomes t r.table
unfolding requested
requested_becomes ctx t e r k ok =
    by_header ctx t e (readable ctx e.payload) r k (cond_ok (is_request e) (requested_readable ctx t e (readable ctx e.payload)) Refusal.Unreadable r ok).1

-- responses write into a slot

filled_keys : (id : TxnId) (answer : List ℕ) (es : List (TxnId × Slot)) → keys_of (map (λ e. cond (same_id id e.0) (e.0, record { request = e.1.request; answer = Some answer }) e) es) ≡ keys_of es
filled_keys id answer [] = refl
filled_keys id answer (x ∷ es) = by_test (same_id id x.0) (filled_keys id answer es)
  where
    by_test : (b : Bool) → keys_of (map (λ e. cond (same_id id e.0) (e.0, record { request = e.1.request; answer = Some answer }) e) es) ≡ keys_of es
        → keys_of (cond b (x.0, record { request = x.1.request; answer = Some answer }) x ∷ map (λ e. cond (same_id id e.0) (e.0, record { request = e.1.request; answer = Some answer }) e) es) ≡ x.0 ∷ keys_of es
    by_test true rest = ap (λ (ks : List TxnId). x.0 ∷ ks) rest
    by_test false rest = ap (λ (ks : List TxnId). x.0 ∷ ks) rest

filled_becomes : (t : Table) (id : TxnId) (answer : List ℕ) → Keeps t → Becomes t (filled t id answer)
filled_becomes t id answer k =
    record {
      cap = refl;
      keeps = record {
        ids = subst (IsDistinct same_id) (sym (filled_keys id answer t.entries)) k.ids;
        few = λ some. let few = k.few some in omega (arith, few, length-map t.entries (λ e. cond (same_id id e.0) (e.0, record { request = e.1.request; answer = Some answer }) e));
      };
    }

by_answer : (ctx : Context) (t : Table) (e : Envelope) (o : Option (List ℕ)) (r : Responded) → Keeps t → responded_with ctx t e o ≡ Ok r → Becomes t r.table
by_answer ctx t e None r k ok = subst (λ (q : Responded). Becomes t q.table) (same_ok _ r ok) (filled_becomes t e.id e.payload k)
by_answer ctx t e (Some held) r k ok =
    let p = cond_ok (bytes_eq held e.payload) (Ok (record { table = t; bytes = ctx.envelope e })) Refusal.Differs r ok in
    subst (λ (q : Responded). Becomes t q.table) (same_ok _ r p.1) (record { cap = refl; keeps = k })

by_waiting : (ctx : Context) (t : Table) (e : Envelope) (o : Option Slot) (r : Responded) → Keeps t → responded_by ctx t e o ≡ Ok r → Becomes t r.table
by_waiting ctx t e None r k ok = absurd cc
by_waiting ctx t e (Some s) r k ok = by_answer ctx t e s.answer r k ok

by_reading : (ctx : Context) (t : Table) (e : Envelope) (o : Option Answer) (r : Responded) → Keeps t → responded_readable ctx t e o ≡ Ok r → Becomes t r.table
by_reading ctx t e None r k ok = absurd cc
by_reading ctx t e (Some a) r k ok = by_waiting ctx t e (slot_of e.id t.entries) r k ok

responded_becomes : (ctx : Context) (t : Table) (e : Envelope) (r : Responded) → Keeps t → responded ctx t e ≡ Ok r → Becomes t r.table
unfolding responded
responded_becomes ctx t e r k ok =
    by_reading ctx t e (ctx.read_answer e.payload) r k (cond_ok_not (is_request e) (responded_readable ctx t e (ctx.read_answer e.payload)) Refusal.Unreadable r ok).1

-- ---- a switch, up or at rest

-- its cap is of this kind, and its table keeps what tables keep
abbrev Stands : (ℕ → Type 0) → Power Table ℕ → Type 0
Stands P (Up t) = P t.cap × Keeps t
Stands P (AtRest cap) = P cap

stands_after : (P : ℕ → Type 0) (t after : Table) → P t.cap → Becomes t after → Stands P (Up after)
stands_after P t after is b = (subst P (sym b.cap) is, b.keeps)

by_request : (P : ℕ → Type 0) (ctx : Context) (t : Table) (id : TxnId) (o : Result Requested Refusal) (next : Power Table ℕ) (sent : List Sent) → P t.cap → ((r : Requested) → o ≡ Ok r → Becomes t r.table)
    → after_request id o ≡ Done next sent → Stands P next
by_request P ctx t id (Err f) next sent is b e = absurd cc
by_request P ctx t id (Ok r) next sent is b e = let same : Up r.table ≡ next = cc in subst (Stands P) same (stands_after P t r.table is (b r refl))

by_response : (P : ℕ → Type 0) (ctx : Context) (t : Table) (id : TxnId) (o : Result Responded Refusal) (next : Power Table ℕ) (sent : List Sent) → P t.cap → ((r : Responded) → o ≡ Ok r → Becomes t r.table)
    → after_response id o ≡ Done next sent → Stands P next
by_response P ctx t id (Err f) next sent is b e = absurd cc
by_response P ctx t id (Ok r) next sent is b e = let same : Up r.table ≡ next = cc in subst (Stands P) same (stands_after P t r.table is (b r refl))

by_kind : (P : ℕ → Type 0) (ctx : Context) (t : Table) (v : Envelope) (next : Power Table ℕ) (sent : List Sent) (b : Bool) → P t.cap → Keeps t
    → cond b (after_request v.id (requested ctx t v)) (after_response v.id (responded ctx t v)) ≡ Done next sent → Stands P next
by_kind P ctx t v next sent true is k e = by_request P ctx t v.id (requested ctx t v) next sent is (λ r ok. requested_becomes ctx t v r k ok) e
by_kind P ctx t v next sent false is k e = by_response P ctx t v.id (responded ctx t v) next sent is (λ r ok. responded_becomes ctx t v r k ok) e

by_packet : (P : ℕ → Type 0) (ctx : Context) (t : Table) (o : Result Envelope EnvelopeFault) (next : Power Table ℕ) (sent : List Sent) → P t.cap → Keeps t → switch_takes ctx t o ≡ Done next sent → Stands P next
by_packet P ctx t (Err f) next sent is k e = absurd cc
by_packet P ctx t (Ok v) next sent is k e = by_kind P ctx t v next sent (is_request v) is k e

no_entries_kept : (cap : ℕ) → Keeps (record { cap = cap; entries = [] })
unfolding IsDistinct
no_entries_kept cap = record { ids = tt; few = λ some. omega arith }

-- a call gives no cap but of this kind
abbrev GivesOnly : (ℕ → Type 0) → Call → Type 0
GivesOnly P call = (most : ℕ) → call ≡ Revise (OfCap most) → P most

switch_stands : (P : ℕ → Type 0) (ctx : Context) (s next : Power Table ℕ) (call : Call) (sent : List Sent) → GivesOnly P call → Stands P s → switch_step ctx s call ≡ Done next sent → Stands P next
switch_stands P ctx (Up t) next (Take from bytes) sent g h e = by_packet P ctx t (ctx.read_envelope bytes) next sent h.0 h.1 e
switch_stands P ctx (Up t) next Stop sent g h e = let same : AtRest t.cap ≡ next = cc in subst (Stands P) same h.0
switch_stands P ctx (AtRest cap) next Start sent g h e = let same : Up (record { cap = cap; entries = [] }) ≡ next = cc in subst (Stands P) same (h, no_entries_kept cap)
switch_stands P ctx (AtRest cap) next (Revise (OfCap most)) sent g h e = let same : AtRest most ≡ next = cc in subst (Stands P) same (g most refl)
switch_stands P ctx (Up t) next (Submit text) sent g h e = absurd cc
switch_stands P ctx (Up t) next Tick sent g h e = absurd cc
switch_stands P ctx (Up t) next Start sent g h e = absurd cc
switch_stands P ctx (Up t) next (Revise change) sent g h e = absurd cc
switch_stands P ctx (Up t) next (Adjudicate from bytes advice) sent g h e = absurd cc
switch_stands P ctx (AtRest cap) next (Submit text) sent g h e = absurd cc
switch_stands P ctx (AtRest cap) next Tick sent g h e = absurd cc
switch_stands P ctx (AtRest cap) next (Take from bytes) sent g h e = absurd cc
switch_stands P ctx (AtRest cap) next Stop sent g h e = absurd cc
switch_stands P ctx (AtRest cap) next (Revise (OfPlan change)) sent g h e = absurd cc
switch_stands P ctx (AtRest cap) next (Revise (OfRule rule)) sent g h e = absurd cc
switch_stands P ctx (AtRest cap) next (Adjudicate from bytes advice) sent g h e = absurd cc

-- ---- all switches of a world

abbrev AllStand : (ℕ → ℕ → Type 0) → World → Type 0
AllStand P w = (n : ℕ) (s : Power Table ℕ) → numbered w.switches n ≡ Some s → Stands (P n) s

opens : (P : ℕ → ℕ → Type 0) (caps : List ℕ) → ((n cap : ℕ) → numbered caps n ≡ Some cap → P n cap) → (k : ℕ) (s : Power Table ℕ) → numbered (switches_of caps) k ≡ Some s → Stands (P k) s
opens P caps g zero s e = absurd cc
opens P [] g (suc k) s e = absurd cc
opens P (c ∷ caps) g (suc zero) s e = let same : Up (record { cap = c; entries = [] }) ≡ s = cc in subst (Stands (P 1)) same (g 1 c refl, no_entries_kept c)
opens P (c ∷ caps) g (suc (suc k)) s e = opens (λ n. P (suc n)) caps (λ n cap is. g (suc n) cap (later n cap is)) (suc k) s e
  where
    later : (n cap : ℕ) → numbered caps n ≡ Some cap → numbered (c ∷ caps) (suc n) ≡ Some cap
    later zero cap is = absurd cc
    later (suc n) cap is = is

put_stands : (P : ℕ → ℕ → Type 0) (switches : List (Power Table ℕ)) (n : ℕ) (s next : Power Table ℕ) → ((m : ℕ) (x : Power Table ℕ) → numbered switches m ≡ Some x → Stands (P m) x)
    → numbered switches n ≡ Some s → Stands (P n) next → (m : ℕ) (x : Power Table ℕ) → numbered (renumbered switches n next) m ≡ Some x → Stands (P m) x
put_stands P switches n s next all is h m x e =
    elim (cases_eq n m) [
      | inl same ↦
          let put : next ≡ x = same_some next x (sym (subst (λ (k : ℕ). numbered (renumbered switches n next) k ≡ Some next) same (numbered_put switches n s next is)) ∙ e) in
          subst (λ (k : ℕ). Stands (P k) x) same (subst (Stands (P n)) put h)
      | inr other ↦ all m x (sym (numbered_put_other switches n m next other) ∙ e)
    ]

-- ---- one call

on_pharmacy_stands : (ctx : Context) (P : ℕ → ℕ → Type 0) (w v : World) (n : ℕ) (call : Call) (sent : List Sent) (o : Option (Power Journal JournalAtRest)) → AllStand P w → on_pharmacy ctx w n call o ≡ Done v sent → AllStand P v
on_pharmacy_stands ctx P w v n call sent None all e = absurd cc
on_pharmacy_stands ctx P w v n call sent (Some s) all e = subst (AllStand P) (sym (pharmacy_done w n (pharmacy_step ctx s call) v sent e).2) all

on_payer_stands : (ctx : Context) (P : ℕ → ℕ → Type 0) (w v : World) (n : ℕ) (call : Call) (sent : List Sent) (o : Option (Power Book Book)) → AllStand P w → on_payer ctx w n call o ≡ Done v sent → AllStand P v
on_payer_stands ctx P w v n call sent None all e = absurd cc
on_payer_stands ctx P w v n call sent (Some s) all e = subst (AllStand P) (sym (payer_done w n (payer_step ctx s call) v sent e).2) all

on_switch_stands : (ctx : Context) (P : ℕ → ℕ → Type 0) (w v : World) (n : ℕ) (call : Call) (sent : List Sent) (o : Option (Power Table ℕ)) → GivesOnly (P n) call → AllStand P w → numbered w.switches n ≡ o
    → on_switch ctx w n call o ≡ Done v sent → AllStand P v
on_switch_stands ctx P w v n call sent None g all is e = absurd cc
on_switch_stands ctx P w v n call sent (Some s) g all is e =
    let d = switch_done w n (switch_step ctx s call) v sent e in
    subst (AllStand P) (sym d.2) (put_stands P w.switches n s d.0 all is (switch_stands (P n) ctx s d.0 call sent g (all n s is) d.1))

-- a call on a node gives a switch no cap but of its kind
abbrev AskedOnly : (ℕ → ℕ → Type 0) → Asked → Type 0
AskedOnly P a = (n : ℕ) → a.node ≡ Switch n → GivesOnly (P n) a.call

on_node_stands : (ctx : Context) (P : ℕ → ℕ → Type 0) (w v : World) (node : Node) (call : Call) (sent : List Sent) → ((n : ℕ) → node ≡ Switch n → GivesOnly (P n) call) → AllStand P w → on_node ctx w node call ≡ Done v sent → AllStand P v
on_node_stands ctx P w v (Pharmacy n) call sent g all e = on_pharmacy_stands ctx P w v n call sent (numbered w.pharmacies n) all e
on_node_stands ctx P w v (Switch n) call sent g all e = on_switch_stands ctx P w v n call sent (numbered w.switches n) (g n refl) all refl e
on_node_stands ctx P w v (Payer n) call sent g all e = on_payer_stands ctx P w v n call sent (numbered w.payers n) all e

-- ---- events

-- an event gives a switch no cap but of its kind
abbrev EventOnly : (ℕ → ℕ → Type 0) → Event → Type 0
EventOnly P event = (n most : ℕ) → event ≡ Revising (Switch n) (OfCap most) → P n most

asked_only : (P : ℕ → ℕ → Type 0) (packets : List Packet) (event : Event) (a : Asked) → EventOnly P event → asked packets event ≡ Some a → AskedOnly P a
asked_only P packets (Submission n text) a g e = subst (AskedOnly P) (same_some (record { node = Pharmacy n; call = Submit text }) a e) (λ m d most c. absurd cc)
asked_only P packets (Ticking n) a g e = subst (AskedOnly P) (same_some (record { node = Pharmacy n; call = Tick }) a e) (λ m d most c. absurd cc)
asked_only P packets (Delivery k) a g e = let t = map_some taking (numbered packets k) a e in subst (AskedOnly P) t.2 (λ m d most c. absurd cc)
asked_only P packets (Stopping node) a g e = subst (AskedOnly P) (same_some (record { node = node; call = Stop }) a e) (λ m d most c. absurd cc)
asked_only P packets (Starting node) a g e = subst (AskedOnly P) (same_some (record { node = node; call = Start }) a e) (λ m d most c. absurd cc)
asked_only P packets (Revising node revision) a g e = subst (AskedOnly P) (same_some (record { node = node; call = Revise revision }) a e) (λ m d most c. g m most cc)
asked_only P packets (Adjudication k advice) a g e = let t = map_some (adjudicating advice) (numbered packets k) a e in subst (AskedOnly P) t.2 (λ m d most c. absurd cc)

asked_stands : (ctx : Context) (P : ℕ → ℕ → Type 0) (w v : World) (event : Event) (sent : List Sent) (o : Option Asked) → EventOnly P event → AllStand P w → asked w.packets event ≡ o → asked_step ctx w o ≡ Done v sent → AllStand P v
asked_stands ctx P w v event sent None g all is e = absurd cc
asked_stands ctx P w v event sent (Some a) g all is e = on_node_stands ctx P w v a.node a.call sent (asked_only P w.packets event a g is) all e

outcome_stands : (ctx : Context) (P : ℕ → ℕ → Type 0) (w : World) (event : Event) (o : Outcome World) → EventOnly P event → AllStand P w → step ctx w event ≡ o → AllStand P (world_after w o)
outcome_stands ctx P w event (Refused f) g all e = all
outcome_stands ctx P w event (Done v sent) g all e = asked_stands ctx P w v event sent (asked w.packets event) g all refl (sym (step_asked ctx w event) ∙ e)

run_stands : (ctx : Context) (P : ℕ → ℕ → Type 0) (w : World) (events : List Event) → AllByRecursion (EventOnly P) events → AllStand P w → AllStand P (run ctx w events)
run_stands ctx P w [] g all = all
run_stands ctx P w (event ∷ events) g all = run_stands ctx P (world_after w (step ctx w event)) events g.1 (outcome_stands ctx P w event (step ctx w event) g.0 all refl)

in_flight : (t : Table) → Keeps t → IsInFlight t
in_flight t k = record { ids = AllPairs-from_IsDistinct (λ a b. (id_same a b, λ e. subst (λ (x : TxnId). same_id a x ≡ true) e (id_self a))) (keys_of t.entries) k.ids; few = k.few }

pub tables_in_flight : (ctx : Context) (settings : WorldSettings) (events : List Event) → TablesInFlight settings events (run ctx (opening settings) events)
tables_in_flight ctx settings events n t e =
    let s = run_stands ctx given (opening settings) events (all_from (EventOnly given) events (λ k event is m most same. inr (record { number = k; is = is ∙ ap (λ (x : Event). Some x) same })))
    (opens given settings.switches (λ m cap is. inl is)) n (Up t) e in
    record { cap = s.0; table = in_flight t s.1 }
  where
    given : ℕ → ℕ → Type 0
    given m cap = (numbered settings.switches m ≡ Some cap) ⊎ IsGiven events m cap
