-- Steps of switches that are put in between the calls of other nodes.
use Rattle.std.proofs.Common.{◌≡◌, ℕ, zero, suc, Bool, true, false, cond, List, [], ◌∷◌, ◌++◌, map, drop, Option, Some, None, Result, Ok, Err, refl, sym, ap, ◌∙◌, subst}
use Rattle.std.specs.Prelude.{nat_lt, option_map}
use Rattle.std.proofs.lemmas.Bool.{cond-true}
use Rattle.claim_model.specs.Words.{TxnId, RequestHeader, Envelope, EnvelopeFault, Answer}
use Rattle.claim_model.specs.Context.{Context}
use Rattle.claim_model.specs.declared.refusal.Refusal.{Refusal}
use Rattle.claim_model.specs.Readable.{readable, payer_for, rejection, same_id, is_request, answer_envelope}
use Rattle.claim_model.specs.Table.{Slot, Table, entered_where, routed_by, requested_readable, requested, filled, responded_by, responded_readable, responded}
use Rattle.claim_model.specs.Node.{Node, Pharmacy, Switch, Payer, Up, AtRest, Sent, Call, Take, Stop, Start, Outcome, Done, after_request, after_response, switch_takes}
use Rattle.claim_model.specs.World.{World, Packet, Event, Delivery, Stopping, Starting, packet_from, step, world_after, run}
use Rattle.claim_model.specs.Settings.{WorldSettings, opening}
use Rattle.claim_model.specs.Nodes.{AnyNode, OfSwitch, as_node, node_step, node_at, called, Asked, taking, asked, asked_step}
use Rattle.claim_model.specs.Interleavings.{AllAccepted}
use Rattle.claim_model.specs.Local.{Follows}
use Rattle.claim_model.specs.Promises.{Reached}
use Rattle.claim_model.proofs.Options.{same_some}
use Rattle.claim_model.proofs.Tests.{id_self}
use Rattle.claim_model.proofs.Steps.{accepted, follows, step_asked}
use Rattle.claim_model.proofs.GoingOn.{run_append}
use Rattle.claim_model.proofs.PharmacyStep.{done_same}
use Rattle.crash_safety.specs.Runs.{IsAmong}
use Rattle.crash_safety.specs.Explained.{Turn, packet, turns_at, turns_by, outside, Goes}
use Rattle.crash_safety.proofs.Moving.{is_done}
use Rattle.crash_safety.proofs.Lighter.{among_left, among_right}
use Rattle.crash_safety.proofs.Caps.{empty_switch}

-- one call that is made
pub record OneStep (ctx : Context) (w : World) (node : Node) (call : Call) (sent : List Sent) (next : AnyNode) (event : Event) : Type 0 where
  pub v : World
  pub steps : step ctx w event ≡ Done v sent
  pub follows : Follows ctx w v node call sent
  pub at : node_at v node ≡ Some next

pub one_step : (ctx : Context) (w : World) (event : Event) (node : Node) (call : Call) (now next : AnyNode) (sent : List Sent) → asked w.packets event ≡ Some (record { node = node; call = call }) → node_at w node ≡ Some now
    → node_step ctx now call ≡ Done next sent → OneStep ctx w node call sent next event
one_step ctx w event node call now next sent asks is steps =
    let t = accepted ctx w node call next sent (ap (λ (o : Option AnyNode). called ctx o call) is ∙ steps) in
    let f = follows ctx w t.0 node call sent t.1 in
    let same : f.before ≡ now = same_some f.before now (sym f.was ∙ is) in
    let ends : Done f.after sent ≡ Done next sent = sym f.steps ∙ (ap (λ (x : AnyNode). node_step ctx x call) same ∙ steps) in
    record {
      v = t.0;
      steps = step_asked ctx w event ∙ (ap (asked_step ctx w) asks ∙ t.1);
      follows = f;
      at = f.is ∙ ap (λ (x : AnyNode). Some x) (done_same f.after next sent sent ends).0;
    }

pub reached_on : (ctx : Context) (s : WorldSettings) (w v : World) (event : Event) (sent : List Sent) → Reached ctx s w → step ctx w event ≡ Done v sent → Reached ctx s v
reached_on ctx s w v event sent r steps = record {
  laws = r.laws;
  accepts = r.accepts;
  events = r.events ++ event ∷ [];
  leads = run_append ctx (opening s) r.events (event ∷ []) ∙ (ap (λ (x : World). run ctx x (event ∷ [])) r.leads ∙ ap (world_after w) steps);
}

-- a call in front of a run
pub goes_back : (ctx : Context) (w v : World) (event : Event) (node : Node) (call : Call) (sent : List Sent) (turns : List Turn) → asked w.packets event ≡ Some (record { node = node; call = call }) → step ctx w event ≡ Done v sent
    → Goes ctx v turns → Goes ctx w (turns_at node call sent ++ turns)
goes_back ctx w v event node call sent turns asks steps g = record {
  events = event ∷ g.events;
  accepted = (is_done (step ctx w event) v sent steps, subst (λ (o : Outcome World). AllAccepted ctx (world_after w o) g.events) (sym steps) g.accepted);
  are = ap (λ (o : Outcome World). turns_by (asked w.packets event) o ++ outside ctx (world_after w o) g.events) steps
      ∙ (ap (λ (o : Option Asked). turns_by o (Done v sent) ++ outside ctx v g.events) asks
      ∙ ap (λ (ts : List Turn). turns_at node call sent ++ ts) g.are);
}

-- calls of one switch lead from one world to another
pub record Way (ctx : Context) (s : WorldSettings) (w v : World) (m : ℕ) : Type 0 where
  pub reached : Reached ctx s v
  pub back : (turns : List Turn) → Goes ctx v turns → Goes ctx w turns
  pub others : (node : Node) → (node ≡ Switch m → ⊥) → node_at v node ≡ node_at w node
  pub grows : (p : Packet) → IsAmong w.packets p → IsAmong v.packets p

way_then : (ctx : Context) (s : WorldSettings) (w v u : World) (m : ℕ) → Way ctx s w v m → Way ctx s v u m → Way ctx s w u m
way_then ctx s w v u m a b = record {
  reached = b.reached;
  back = λ turns g. a.back turns (b.back turns g);
  others = λ node d. b.others node d ∙ a.others node d;
  grows = λ p x. b.grows p (a.grows p x);
}

-- one call of a switch
record SwitchWay (ctx : Context) (s : WorldSettings) (w : World) (m : ℕ) (next : AnyNode) (sent : List Sent) : Type 0 where
  v : World
  way : Way ctx s w v m
  at : node_at v (Switch m) ≡ Some next
  new : (p : Packet) → IsAmong (map (packet_from (Switch m)) sent) p → IsAmong v.packets p

switch_way : (ctx : Context) (s : WorldSettings) (w : World) (m : ℕ) (event : Event) (call : Call) (now next : AnyNode) (sent : List Sent) → Reached ctx s w → asked w.packets event ≡ Some (record { node = Switch m; call = call })
    → node_at w (Switch m) ≡ Some now → node_step ctx now call ≡ Done next sent → SwitchWay ctx s w m next sent
switch_way ctx s w m event call now next sent r asks is steps =
    let o = one_step ctx w event (Switch m) call now next sent asks is steps in
    record {
      v = o.v;
      way = record {
        reached = reached_on ctx s w o.v event sent r o.steps;
        back = λ turns g. goes_back ctx w o.v event (Switch m) call sent turns asks o.steps g;
        others = o.follows.others;
        grows = λ p a. subst (λ (ps : List Packet). IsAmong ps p) (sym o.follows.posts) (among_left w.packets (map (packet_from (Switch m)) sent) p a);
      };
      at = o.at;
      new = λ p a. subst (λ (ps : List Packet). IsAmong ps p) (sym o.follows.posts) (among_right w.packets (map (packet_from (Switch m)) sent) p a);
    }

-- a stop and a start
record Emptied (ctx : Context) (s : WorldSettings) (w : World) (m c : ℕ) : Type 0 where
  v : World
  way : Way ctx s w v m
  at : node_at v (Switch m) ≡ Some (empty_switch c)

emptied : (ctx : Context) (s : WorldSettings) (w : World) (m : ℕ) (t : Table) → Reached ctx s w → node_at w (Switch m) ≡ Some (OfSwitch (Up t)) → Emptied ctx s w m t.cap
emptied ctx s w m t r is =
    let a = switch_way ctx s w m (Stopping (Switch m)) Stop (OfSwitch (Up t)) (OfSwitch (AtRest t.cap)) [] r refl is refl in
    let b = switch_way ctx s a.v m (Starting (Switch m)) Start (OfSwitch (AtRest t.cap)) (empty_switch t.cap) [] a.way.reached refl a.at refl in
    record { v = b.v; way = way_then ctx s w a.v b.v m a.way b.way; at = b.at }

-- the table with one request in flight
abbrev pub waiting : ℕ → Envelope → Table
waiting c e = record { cap = c; entries = (e.id, record { request = e.payload; answer = None }) ∷ [] }

nothing_dropped : (b : Bool) → ◌≡◌ {A = List (TxnId × Slot)} (cond b [] (drop 1 [])) []
nothing_dropped true = refl
nothing_dropped false = refl

abbrev empty_table : ℕ → Table
empty_table c = record { cap = c; entries = [] }

forward_step : (ctx : Context) (c : ℕ) (from : Node) (bytes : List ℕ) (e : Envelope) (h : RequestHeader) (n : ℕ) → ctx.read_envelope bytes ≡ Ok e → is_request e ≡ true → readable ctx e.payload ≡ Some h → payer_for ctx e.id h ≡ Some n
    → node_step ctx (empty_switch c) (Take from bytes) ≡ Done (OfSwitch (Up (waiting c e))) (record { to = Payer n; bytes = ctx.envelope e } ∷ [])
unfolding requested
forward_step ctx c from bytes e h n reads is r route =
    ap (λ (o : Result Envelope EnvelopeFault). as_node OfSwitch (switch_takes ctx (empty_table c) o)) reads
    ∙ (ap (λ (b : Bool). as_node OfSwitch (cond b (after_request e.id (cond b (requested_readable ctx (empty_table c) e (readable ctx e.payload)) (Err Refusal.Unreadable))) (after_response e.id (responded ctx (empty_table c) e)))) is
    ∙ (ap (λ (o : Option RequestHeader). as_node OfSwitch (after_request e.id (requested_readable ctx (empty_table c) e o))) r
    ∙ (ap (λ (o : Option ℕ). as_node OfSwitch (after_request e.id (Ok (record { table = entered_where (empty_table c) e o; routed = routed_by ctx e h o })))) route
    ∙ ap (λ (es : List (TxnId × Slot)). Done (OfSwitch (Up (record { cap = c; entries = es ++ (e.id, record { request = e.payload; answer = None }) ∷ [] }))) (record { to = Payer n; bytes = ctx.envelope e } ∷ [])) (nothing_dropped (nat_lt 0 c)))))

reject_step : (ctx : Context) (c : ℕ) (from : Node) (bytes : List ℕ) (e : Envelope) (h : RequestHeader) → ctx.read_envelope bytes ≡ Ok e → is_request e ≡ true → readable ctx e.payload ≡ Some h → payer_for ctx e.id h ≡ None
    → node_step ctx (empty_switch c) (Take from bytes) ≡ Done (empty_switch c) (record { to = Pharmacy e.id.pharmacy; bytes = ctx.envelope (answer_envelope e.id (rejection ctx h)) } ∷ [])
unfolding requested
reject_step ctx c from bytes e h reads is r route =
    ap (λ (o : Result Envelope EnvelopeFault). as_node OfSwitch (switch_takes ctx (empty_table c) o)) reads
    ∙ (ap (λ (b : Bool). as_node OfSwitch (cond b (after_request e.id (cond b (requested_readable ctx (empty_table c) e (readable ctx e.payload)) (Err Refusal.Unreadable))) (after_response e.id (responded ctx (empty_table c) e)))) is
    ∙ (ap (λ (o : Option RequestHeader). as_node OfSwitch (after_request e.id (requested_readable ctx (empty_table c) e o))) r
    ∙ ap (λ (o : Option ℕ). as_node OfSwitch (after_request e.id (Ok (record { table = entered_where (empty_table c) e o; routed = routed_by ctx e h o })))) route))

answer_step : (ctx : Context) (c : ℕ) (from : Node) (bytes : List ℕ) (e r : Envelope) (x : Answer) → ctx.read_envelope bytes ≡ Ok r → is_request r ≡ false → r.id ≡ e.id → ctx.read_answer r.payload ≡ Some x
    → node_step ctx (OfSwitch (Up (waiting c e))) (Take from bytes) ≡ Done (OfSwitch (Up (filled (waiting c e) r.id r.payload))) (record { to = Pharmacy r.id.pharmacy; bytes = ctx.envelope r } ∷ [])
unfolding responded
answer_step ctx c from bytes e r x reads is same answer =
    let slot : Slot = record { request = e.payload; answer = None } in
    let found : same_id r.id e.id ≡ true = ap (λ (id : TxnId). same_id id e.id) same ∙ id_self e.id in
    ap (λ (o : Result Envelope EnvelopeFault). as_node OfSwitch (switch_takes ctx (waiting c e) o)) reads
    ∙ (ap (λ (b : Bool). as_node OfSwitch (cond b (after_request r.id (requested ctx (waiting c e) r)) (after_response r.id (cond b (Err Refusal.Unreadable) (responded_readable ctx (waiting c e) r (ctx.read_answer r.payload)))))) is
    ∙ (ap (λ (o : Option Answer). as_node OfSwitch (after_response r.id (responded_readable ctx (waiting c e) r o))) answer
    ∙ ap (λ (o : Option Slot). as_node OfSwitch (after_response r.id (responded_by ctx (waiting c e) r o))) (cond-true (same_id r.id e.id) (Some slot) None found)))

-- a switch hands a packet on, and is up
pub record Relays (ctx : Context) (s : WorldSettings) (w : World) (m : ℕ) (p : Packet) : Type 0 where
  pub v : World
  pub way : Way ctx s w v m
  pub table : Table
  pub at : node_at v (Switch m) ≡ Some (OfSwitch (Up table))
  pub sent : IsAmong v.packets p

-- and it waits for the answer
pub record Forwards (ctx : Context) (s : WorldSettings) (w : World) (m c n : ℕ) (e : Envelope) : Type 0 where
  pub v : World
  pub way : Way ctx s w v m
  pub at : node_at v (Switch m) ≡ Some (OfSwitch (Up (waiting c e)))
  pub sent : IsAmong v.packets (packet (Switch m) (Payer n) (ctx.envelope e))

first_among : (p : Packet) → IsAmong (p ∷ []) p
first_among p = record { number = suc zero; is = refl }

delivers : (packets : List Packet) (from to : Node) (bytes : List ℕ) → (a : IsAmong packets (packet from to bytes)) → asked packets (Delivery a.number) ≡ Some (record { node = to; call = Take from bytes })
delivers packets from to bytes a = ap (option_map taking) a.is

pub forwards : (ctx : Context) (s : WorldSettings) (w : World) (m : ℕ) (t : Table) (from : Node) (bytes : List ℕ) (e : Envelope) (h : RequestHeader) (n : ℕ) → Reached ctx s w → node_at w (Switch m) ≡ Some (OfSwitch (Up t))
    → IsAmong w.packets (packet from (Switch m) bytes) → ctx.read_envelope bytes ≡ Ok e → is_request e ≡ true → readable ctx e.payload ≡ Some h → payer_for ctx e.id h ≡ Some n → Forwards ctx s w m t.cap n e
forwards ctx s w m t from bytes e h n r is among reads request readable_is route =
    let a = emptied ctx s w m t r is in
    let there = a.way.grows (packet from (Switch m) bytes) among in
    let sent : List Sent = record { to = Payer n; bytes = ctx.envelope e } ∷ [] in
    let b = switch_way ctx s a.v m (Delivery there.number) (Take from bytes) (empty_switch t.cap) (OfSwitch (Up (waiting t.cap e))) sent a.way.reached (delivers a.v.packets from (Switch m) bytes there) a.at
    (forward_step ctx t.cap from bytes e h n reads request readable_is route) in
    record { v = b.v; way = way_then ctx s w a.v b.v m a.way b.way; at = b.at; sent = b.new (packet (Switch m) (Payer n) (ctx.envelope e)) (first_among (packet (Switch m) (Payer n) (ctx.envelope e))) }

pub rejects : (ctx : Context) (s : WorldSettings) (w : World) (m : ℕ) (t : Table) (from : Node) (bytes : List ℕ) (e : Envelope) (h : RequestHeader) → Reached ctx s w → node_at w (Switch m) ≡ Some (OfSwitch (Up t))
    → IsAmong w.packets (packet from (Switch m) bytes) → ctx.read_envelope bytes ≡ Ok e → is_request e ≡ true → readable ctx e.payload ≡ Some h → payer_for ctx e.id h ≡ None
    → Relays ctx s w m (packet (Switch m) (Pharmacy e.id.pharmacy) (ctx.envelope (answer_envelope e.id (rejection ctx h))))
rejects ctx s w m t from bytes e h r is among reads request readable_is route =
    let a = emptied ctx s w m t r is in
    let there = a.way.grows (packet from (Switch m) bytes) among in
    let out = ctx.envelope (answer_envelope e.id (rejection ctx h)) in
    let b = switch_way ctx s a.v m (Delivery there.number) (Take from bytes) (empty_switch t.cap) (empty_switch t.cap) (record { to = Pharmacy e.id.pharmacy; bytes = out } ∷ []) a.way.reached (delivers a.v.packets from (Switch m) bytes there) a.at
    (reject_step ctx t.cap from bytes e h reads request readable_is route) in
    record { v = b.v; way = way_then ctx s w a.v b.v m a.way b.way; table = empty_table t.cap; at = b.at; sent = b.new (packet (Switch m) (Pharmacy e.id.pharmacy) out) (first_among (packet (Switch m) (Pharmacy e.id.pharmacy) out)) }

-- the request once more, and then the answer
pub answers : (ctx : Context) (s : WorldSettings) (w : World) (m : ℕ) (c n : ℕ) (e r : Envelope) (x : Answer) (from : Node) (bytes : List ℕ) → Forwards ctx s w m c n e
    → IsAmong w.packets (packet from (Switch m) bytes) → ctx.read_envelope bytes ≡ Ok r → is_request r ≡ false → r.id ≡ e.id → ctx.read_answer r.payload ≡ Some x
    → Relays ctx s w m (packet (Switch m) (Pharmacy r.id.pharmacy) (ctx.envelope r))
answers ctx s w m c n e r x from bytes f among reads is same answer =
    let there = f.way.grows (packet from (Switch m) bytes) among in
    let b = switch_way ctx s f.v m (Delivery there.number) (Take from bytes) (OfSwitch (Up (waiting c e))) (OfSwitch (Up (filled (waiting c e) r.id r.payload))) (record { to = Pharmacy r.id.pharmacy; bytes = ctx.envelope r } ∷ [])
    f.way.reached (delivers f.v.packets from (Switch m) bytes there) f.at (answer_step ctx c from bytes e r x reads is same answer) in
    record {
      v = b.v;
      way = way_then ctx s w f.v b.v m f.way b.way;
      table = filled (waiting c e) r.id r.payload;
      at = b.at;
      sent = b.new (packet (Switch m) (Pharmacy r.id.pharmacy) (ctx.envelope r)) (first_among (packet (Switch m) (Pharmacy r.id.pharmacy) (ctx.envelope r)));
    }
