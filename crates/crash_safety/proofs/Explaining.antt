-- An explained order of calls of pharmacies and payers is a run: each switch is stopped and started before it hands a packet on.
use Rattle.std.proofs.Common.{◌≡◌, ℕ, ◌≤◌, Bool, true, false, cond, List, [], ◌∷◌, ◌++◌, length, Option, Some, None, Result, Ok, Err, refl, sym, ap, ◌∙◌, subst, inl, inr, arith}
use Rattle.std.specs.Prelude.{option_map}
use Rattle.std.specs.List.{AllByRecursion}
use Rattle.claim_model.specs.Words.{RequestHeader, Envelope, EnvelopeFault, Answer}
use Rattle.claim_model.specs.Context.{Context}
use Rattle.claim_model.specs.Laws.{Laws}
use Rattle.claim_model.specs.Readable.{readable, payer_for, rejection, fits, is_request, answer_envelope}
use Rattle.claim_model.specs.Numbered.{numbered}
use Rattle.claim_model.specs.Journal.{Journal, JournalAtRest, stopped, heard}
use Rattle.claim_model.specs.Table.{Table}
use Rattle.claim_model.specs.Node.{Node, Pharmacy, Switch, Payer, Power, Up, AtRest, Sent, Call, Submit, Tick, Take, Stop, Start, Revise, OfPlan, OfRule, OfCap, Adjudicate, Done, pharmacy_takes, pharmacy_step}
use Rattle.claim_model.specs.World.{World, Packet, Event, Submission, Ticking, Delivery, Stopping, Starting, Revising, Adjudication}
use Rattle.claim_model.specs.Settings.{WorldSettings, Accepts, opening}
use Rattle.claim_model.specs.Held.{journal_in}
use Rattle.claim_model.specs.Carried.{Carries}
use Rattle.claim_model.specs.Nodes.{AnyNode, OfPharmacy, OfSwitch, as_node, node_step, node_at, same_node, taking, adjudicating, asked}
use Rattle.claim_model.specs.Logs.{Logged, node_after, Makes}
use Rattle.claim_model.specs.Promises.{Reached}
use Rattle.claim_model.proofs.Lists.{all_at, all_weaker, numbered_exists}
use Rattle.claim_model.proofs.Options.{map_some, same_some, same_ok}
use Rattle.claim_model.proofs.Names.{told_apart, same_self}
use Rattle.claim_model.proofs.Decided.{rejection_spells}
use Rattle.claim_model.proofs.Journals.{heard_settles}
use Rattle.claim_model.proofs.PharmacyStep.{carries_reads, after_hearing_done}
use Rattle.claim_model.proofs.Runs.{reached_sound}
use Rattle.claim_model.proofs.Phases.{IsThere}
use Rattle.claim_model.proofs.Addressed.{Addressed}
use Rattle.claim_model.proofs.Posts.{reached_posts}
use Rattle.crash_safety.specs.Runs.{IsAmong}
use Rattle.crash_safety.specs.Explained.{Turn, sent_in, log_among, packet, Heard, Answer as Heard_answer, Rejection as Heard_rejection, IsExplained, Explained, IsThereIn, IsExplainedOrder, turns_at, Goes}
use Rattle.crash_safety.proofs.Sound.{nothing_numbered}
use Rattle.crash_safety.proofs.Lighter.{among_left, among_right}
use Rattle.crash_safety.proofs.Caps.{opens_empty}
use Rattle.crash_safety.proofs.Ways.{OneStep, one_step, reached_on, goes_back, waiting, Relays, Forwards, forwards, rejects, answers}
use Rattle.crash_safety.proofs.Sources.{among_split, carries_at, Source, source_later, NoSwitch, as_node_done, PayerTook, payer_took, payer_advised, new_sources}

-- ---- what a world on the way is

-- every switch is up
abbrev pub AllUp : World → Type 0
AllUp w = (m : ℕ) (x : AnyNode) → node_at w (Switch m) ≡ Some x → (t : Table) × (x ≡ OfSwitch (Up t))

switch_there : (ctx : Context) (s : WorldSettings) (w : World) (from : Node) (m : ℕ) (bytes : List ℕ) (e : Envelope) → Reached ctx s w → AllUp w → IsAmong w.packets (packet from (Switch m) bytes) → ctx.read_envelope bytes ≡ Ok e
    → (t : Table) × (node_at w (Switch m) ≡ Some (OfSwitch (Up t)))
switch_there ctx s w from m bytes e r up a reads =
    let p = reached_posts ctx s w r in
    let there : IsThere m (length s.switches) = all_at (Addressed ctx s) w.packets a.number (packet from (Switch m) bytes) p.packets a.is e reads in
    let within : m ≤ length w.switches = omega (arith, there.within, p.switches) in
    let x = numbered_exists w.switches m there.above within in
    let n : node_at w (Switch m) ≡ Some (OfSwitch x.0) = ap (option_map OfSwitch) x.1 in
    let t = up m (OfSwitch x.0) n in
    (t.0, n ∙ ap (λ (y : AnyNode). Some y) t.1)

-- a world on the way, with the packets of the turns so far, and the turns that are left
record Ready (ctx : Context) (s : WorldSettings) (w : World) (packets : List Packet) (turns : List Turn) : Type 0 where
  reached : Reached ctx s w
  among : (p : Packet) → IsAmong packets p → IsAmong w.packets p
  up : AllUp w
  sources : (k m : ℕ) (bytes : List ℕ) → IsAmong packets (packet (Payer k) (Switch m) bytes) → Source ctx packets m bytes
  makes : (node : Node) (now : AnyNode) → NoSwitch node → node_at w node ≡ Some now → Makes ctx now (log_among turns node)
  there : AllByRecursion (λ (t : Turn). NoSwitch t.node → IsThereIn w t) turns

-- a call can be made, once switches have handed a packet on
record Enabled (ctx : Context) (s : WorldSettings) (w : World) (node : Node) (call : Call) : Type 0 where
  v : World
  reached : Reached ctx s v
  back : (turns : List Turn) → Goes ctx v turns → Goes ctx w turns
  others : (x : Node) → ((m : ℕ) → x ≡ Switch m → ⊥) → node_at v x ≡ node_at w x
  grows : (p : Packet) → IsAmong w.packets p → IsAmong v.packets p
  up : AllUp v
  event : Event
  asks : asked v.packets event ≡ Some (record { node = node; call = call })

by_itself : (ctx : Context) (s : WorldSettings) (w : World) (node : Node) (call : Call) (event : Event) → Reached ctx s w → AllUp w → asked w.packets event ≡ Some (record { node = node; call = call }) → Enabled ctx s w node call
by_itself ctx s w node call event r up asks = record { v = w; reached = r; back = λ turns g. g; others = λ x d. refl; grows = λ p a. a; up = up; event = event; asks = asks }

-- a packet can come, once switches have handed it on
record Comes_to (ctx : Context) (s : WorldSettings) (w : World) (node from : Node) (bytes : List ℕ) : Type 0 where
  v : World
  reached : Reached ctx s v
  back : (turns : List Turn) → Goes ctx v turns → Goes ctx w turns
  others : (x : Node) → ((m : ℕ) → x ≡ Switch m → ⊥) → node_at v x ≡ node_at w x
  grows : (p : Packet) → IsAmong w.packets p → IsAmong v.packets p
  up : AllUp v
  sent : IsAmong v.packets (packet from node bytes)

relayed : (ctx : Context) (s : WorldSettings) (w : World) (m : ℕ) (node from : Node) (bytes : List ℕ) (p : Packet) → AllUp w → Relays ctx s w m p → p ≡ packet (Switch m) node bytes → from ≡ Switch m → Comes_to ctx s w node from bytes
relayed ctx s w m node from bytes p up x is same =
    let sent : IsAmong x.v.packets (packet from node bytes) = subst (IsAmong x.v.packets) (is ∙ ap (λ (f : Node). packet f node bytes) (sym same)) x.sent in
    record {
      v = x.v;
      reached = x.way.reached;
      back = x.way.back;
      others = λ y d. x.way.others y (d m);
      grows = x.way.grows;
      up = λ k y e. elim (told_apart (Switch m) (Switch k)) [
        | inl t ↦ (x.table, same_some y (OfSwitch (Up x.table)) (sym e ∙ (ap (node_at x.v) (sym t.1) ∙ x.at)))
        | inr t ↦ up k y (sym (x.way.others (Switch k) (λ f. t.1 (sym f))) ∙ e)
      ];
      sent = sent;
    }

by_packet : (ctx : Context) (s : WorldSettings) (w : World) (node from : Node) (bytes : List ℕ) → Comes_to ctx s w node from bytes → Enabled ctx s w node (Take from bytes)
by_packet ctx s w node from bytes c =
    record { v = c.v; reached = c.reached; back = c.back; others = c.others; grows = c.grows; up = c.up; event = Delivery c.sent.number; asks = ap (option_map taking) c.sent.is }

by_advice : (ctx : Context) (s : WorldSettings) (w : World) (node from : Node) (bytes advice : List ℕ) → Comes_to ctx s w node from bytes → Enabled ctx s w node (Adjudicate from bytes advice)
by_advice ctx s w node from bytes advice c =
    record { v = c.v; reached = c.reached; back = c.back; others = c.others; grows = c.grows; up = c.up; event = Adjudication c.sent.number advice; asks = ap (option_map (adjudicating advice)) c.sent.is }

by_relay : (ctx : Context) (s : WorldSettings) (w : World) (m : ℕ) (node from : Node) (bytes : List ℕ) (p : Packet) → AllUp w → Relays ctx s w m p → p ≡ packet (Switch m) node bytes → from ≡ Switch m → Enabled ctx s w node (Take from bytes)
by_relay ctx s w m node from bytes p up x is same = by_packet ctx s w node from bytes (relayed ctx s w m node from bytes p up x is same)

relays_of : (ctx : Context) (s : WorldSettings) (w : World) (m c n : ℕ) (e : Envelope) → Forwards ctx s w m c n e → Relays ctx s w m (packet (Switch m) (Payer n) (ctx.envelope e))
relays_of ctx s w m c n e f = record { v = f.v; way = f.way; table = waiting c e; at = f.at; sent = f.sent }

-- the packet comes to the payer once the switch has handed it on
payer_gets : (ctx : Context) (s : WorldSettings) (w : World) (n : ℕ) (from : Node) (bytes : List ℕ) (next : AnyNode) (sent : List Sent) (m k : ℕ) → Reached ctx s w → AllUp w → PayerTook ctx w n from bytes next sent
    → from ≡ Switch m → IsAmong w.packets (packet (Pharmacy k) (Switch m) bytes) → Comes_to ctx s w (Payer n) from bytes
payer_gets ctx s w n from bytes next sent m k r up t same a =
    let e = t.carries.envelope in
    let reads = carries_reads ctx w bytes r.laws t.carries in
    let at = switch_there ctx s w (Pharmacy k) m bytes e r up a reads in
    let routed : payer_for ctx e.id t.ruled.header ≡ Some n = t.ruled.routed ∙ ap (λ (x : ℕ). Some x) t.payer in
    let f = forwards ctx s w m at.0 (Pharmacy k) bytes e t.ruled.header n r at.1 a reads t.asks t.ruled.reads routed in
    relayed ctx s w m (Payer n) from bytes (packet (Switch m) (Payer n) (ctx.envelope e)) up (relays_of ctx s w m at.0.cap n e f) (ap (packet (Switch m) (Payer n)) (sym t.carries.spells)) same

payer_enabled : (ctx : Context) (s : WorldSettings) (w : World) (n : ℕ) (from : Node) (bytes : List ℕ) (now next : AnyNode) (sent : List Sent) (m k : ℕ) → Reached ctx s w → AllUp w → node_at w (Payer n) ≡ Some now
    → node_step ctx now (Take from bytes) ≡ Done next sent → from ≡ Switch m → IsAmong w.packets (packet (Pharmacy k) (Switch m) bytes) → Enabled ctx s w (Payer n) (Take from bytes)
payer_enabled ctx s w n from bytes now next sent m k r up is steps same a =
    let t = payer_took ctx s w n from bytes now next sent r (carries_at ctx s w (packet (Pharmacy k) (Switch m) bytes) r a) is steps in
    by_packet ctx s w (Payer n) from bytes (payer_gets ctx s w n from bytes next sent m k r up t same a)

payer_enabled_advised : (ctx : Context) (s : WorldSettings) (w : World) (n : ℕ) (from : Node) (bytes advice : List ℕ) (now next : AnyNode) (sent : List Sent) (m k : ℕ) → Reached ctx s w → AllUp w → node_at w (Payer n) ≡ Some now
    → node_step ctx now (Adjudicate from bytes advice) ≡ Done next sent → from ≡ Switch m → IsAmong w.packets (packet (Pharmacy k) (Switch m) bytes) → Enabled ctx s w (Payer n) (Adjudicate from bytes advice)
payer_enabled_advised ctx s w n from bytes advice now next sent m k r up is steps same a =
    let t = payer_advised ctx s w n from bytes advice now next sent r (carries_at ctx s w (packet (Pharmacy k) (Switch m) bytes) r a) is steps in
    by_advice ctx s w (Payer n) from bytes advice (payer_gets ctx s w n from bytes next sent m k r up t same a)

-- ---- calls of pharmacies

record PharmacyHeard (ctx : Context) (n : ℕ) (bytes : List ℕ) (sent : List Sent) : Type 0 where
  envelope : Envelope
  reads : ctx.read_envelope bytes ≡ Ok envelope
  answers_it : is_request envelope ≡ false
  own : envelope.id.pharmacy ≡ n
  answer : Answer
  answer_is : ctx.read_answer envelope.payload ≡ Some answer
  silent : sent ≡ []

fits_reads : (o : Option RequestHeader) (p : Option Answer) → fits o p ≡ true → (x : Answer) × (p ≡ Some x)
fits_reads (Some h) (Some a) e = (a, refl)
fits_reads (Some h) None e = absurd cc
fits_reads None (Some a) e = absurd cc
fits_reads None None e = absurd cc

heard_in : (ctx : Context) (n : ℕ) (j : Journal) (bytes : List ℕ) (o : Result Envelope EnvelopeFault) (next : Power Journal JournalAtRest) (sent : List Sent) → j.number ≡ n → ctx.read_envelope bytes ≡ o → pharmacy_takes ctx j o ≡ Done next sent
    → PharmacyHeard ctx n bytes sent
heard_in ctx n j bytes (Err f) next sent number reads e = absurd cc
heard_in ctx n j bytes (Ok r) next sent number reads e =
    let d = after_hearing_done (heard ctx j r) next sent e in
    let h = heard_settles ctx j r d.0 d.1 in
    let a = fits_reads (ctx.header h.0.entry.request) (ctx.read_answer r.payload) h.0.fits in
    record { envelope = r; reads = reads; answers_it = h.1; own = h.2 ∙ number; answer = a.0; answer_is = a.1; silent = d.3 }

pharmacy_heard_by : (ctx : Context) (n : ℕ) (from : Node) (bytes : List ℕ) (j : Power Journal JournalAtRest) (next : AnyNode) (sent : List Sent) → (journal_in j).number ≡ n → as_node OfPharmacy (pharmacy_step ctx j (Take from bytes)) ≡ Done next sent
    → PharmacyHeard ctx n bytes sent
unfolding stopped
pharmacy_heard_by ctx n from bytes (AtRest j) next sent number e = absurd cc
pharmacy_heard_by ctx n from bytes (Up j) next sent number e =
    let d = as_node_done OfPharmacy (pharmacy_takes ctx j (ctx.read_envelope bytes)) next sent e in
    heard_in ctx n j bytes (ctx.read_envelope bytes) d.0 sent number refl d.1

pharmacy_heard : (ctx : Context) (s : WorldSettings) (w : World) (n : ℕ) (from : Node) (bytes : List ℕ) (now next : AnyNode) (sent : List Sent) → Reached ctx s w → node_at w (Pharmacy n) ≡ Some now
    → node_step ctx now (Take from bytes) ≡ Done next sent → PharmacyHeard ctx n bytes sent
pharmacy_heard ctx s w n from bytes now next sent r is e =
    let j = map_some OfPharmacy (numbered w.pharmacies n) now is in
    pharmacy_heard_by ctx n from bytes j.0 next sent ((reached_sound ctx s w r).pharmacies n j.0 j.1).number (ap (λ (x : AnyNode). node_step ctx x (Take from bytes)) j.2 ∙ e)

-- the fixed rejection of a request that stands in a packet reads back
rejection_reads : (ctx : Context) (w : World) (bytes : List ℕ) (c : Carries ctx w bytes) (h : RequestHeader) → Laws ctx → readable ctx c.envelope.payload ≡ Some h
    → ctx.read_envelope (ctx.envelope (answer_envelope c.envelope.id (rejection ctx h))) ≡ Ok (answer_envelope c.envelope.id (rejection ctx h))
rejection_reads ctx w bytes c h laws is =
    laws.envelopes (answer_envelope c.envelope.id (rejection ctx h))
    (record { pharmacy = c.fits.pharmacy; pharmacy_fits = c.fits.pharmacy_fits; number = c.fits.number; number_fits = c.fits.number_fits; payload = (rejection_spells ctx c.envelope.payload h laws is).short })

pharmacy_enabled : (ctx : Context) (s : WorldSettings) (w : World) (packets : List Packet) (n : ℕ) (from : Node) (bytes : List ℕ) (now next : AnyNode) (sent : List Sent) (m : ℕ) → Reached ctx s w → AllUp w
    → ((p : Packet) → IsAmong packets p → IsAmong w.packets p) → ((k l : ℕ) (b : List ℕ) → IsAmong packets (packet (Payer k) (Switch l) b) → Source ctx packets l b) → node_at w (Pharmacy n) ≡ Some now
    → node_step ctx now (Take from bytes) ≡ Done next sent → from ≡ Switch m → Heard ctx packets n m bytes → Enabled ctx s w (Pharmacy n) (Take from bytes)
pharmacy_enabled ctx s w packets n from bytes now next sent m r up among sources is steps same (Heard_answer payer a) =
    let x = pharmacy_heard ctx s w n from bytes now next sent r is steps in
    let q = packet (Payer payer) (Switch m) bytes in
    let here = among q a in
    let c = carries_at ctx s w q r here in
    let e : c.envelope ≡ x.envelope = same_ok c.envelope x.envelope (sym (carries_reads ctx w bytes r.laws c) ∙ x.reads) in
    let spelled : ctx.envelope x.envelope ≡ bytes = ap ctx.envelope (sym e) ∙ sym c.spells in
    let src = sources payer m bytes a in
    let asked_there = among (packet (Pharmacy src.pharmacy) (Switch m) src.request) src.among in
    let at = switch_there ctx s w (Pharmacy src.pharmacy) m src.request src.envelope r up asked_there src.reads in
    let f = forwards ctx s w m at.0 (Pharmacy src.pharmacy) src.request src.envelope src.header src.payer r at.1 asked_there src.reads src.asks src.readable_is src.routed in
    let g = answers ctx s w m at.0.cap src.payer src.envelope x.envelope x.answer (Payer payer) bytes f here x.reads x.answers_it (src.same x.envelope x.reads) x.answer_is in
    by_relay ctx s w m (Pharmacy n) from bytes (packet (Switch m) (Pharmacy x.envelope.id.pharmacy) (ctx.envelope x.envelope)) up g
    (ap (λ (k : ℕ). packet (Switch m) (Pharmacy k) (ctx.envelope x.envelope)) x.own ∙ ap (packet (Switch m) (Pharmacy n)) spelled) same
pharmacy_enabled ctx s w packets n from bytes now next sent m r up among sources is steps same (Heard_rejection request e h a reads asks readable_is route spelled) =
    let x = pharmacy_heard ctx s w n from bytes now next sent r is steps in
    let q = packet (Pharmacy n) (Switch m) request in
    let here = among q a in
    let c = carries_at ctx s w q r here in
    let same_e : c.envelope ≡ e = same_ok c.envelope e (sym (carries_reads ctx w request r.laws c) ∙ reads) in
    let readable_c : readable ctx c.envelope.payload ≡ Some h = ap (λ (y : Envelope). readable ctx y.payload) same_e ∙ readable_is in
    let back = rejection_reads ctx w request c h r.laws readable_c in
    let spelled_c : bytes ≡ ctx.envelope (answer_envelope c.envelope.id (rejection ctx h)) = spelled ∙ ap (λ (y : Envelope). ctx.envelope (answer_envelope y.id (rejection ctx h))) (sym same_e) in
    let same_x : answer_envelope c.envelope.id (rejection ctx h) ≡ x.envelope = same_ok _ x.envelope (sym back ∙ (ap ctx.read_envelope (sym spelled_c) ∙ x.reads)) in
    let own : e.id.pharmacy ≡ n = ap (λ (y : Envelope). y.id.pharmacy) (sym same_e) ∙ (ap (λ (y : Envelope). y.id.pharmacy) same_x ∙ x.own) in
    let at = switch_there ctx s w (Pharmacy n) m request e r up here reads in
    let g = rejects ctx s w m at.0 (Pharmacy n) request e h r at.1 here reads asks readable_is route in
    by_relay ctx s w m (Pharmacy n) from bytes (packet (Switch m) (Pharmacy e.id.pharmacy) (ctx.envelope (answer_envelope e.id (rejection ctx h)))) up g
    (ap (λ (k : ℕ). packet (Switch m) (Pharmacy k) (ctx.envelope (answer_envelope e.id (rejection ctx h)))) own ∙ ap (packet (Switch m) (Pharmacy n)) (sym spelled)) same

-- ---- any call

enabled : (ctx : Context) (s : WorldSettings) (w : World) (packets : List Packet) (node : Node) (call : Call) (now next : AnyNode) (sent : List Sent) → Reached ctx s w → AllUp w
    → ((p : Packet) → IsAmong packets p → IsAmong w.packets p) → ((k l : ℕ) (b : List ℕ) → IsAmong packets (packet (Payer k) (Switch l) b) → Source ctx packets l b) → node_at w node ≡ Some now
    → node_step ctx now call ≡ Done next sent → IsExplained ctx packets node call → Enabled ctx s w node call
enabled ctx s w packets (Pharmacy n) (Take from bytes) now next sent r up among sources is steps x = pharmacy_enabled ctx s w packets n from bytes now next sent x.0 r up among sources is steps x.1 x.2
enabled ctx s w packets (Pharmacy n) (Submit text) now next sent r up among sources is steps x = by_itself ctx s w (Pharmacy n) (Submit text) (Submission n text) r up refl
enabled ctx s w packets (Pharmacy n) Tick now next sent r up among sources is steps x = by_itself ctx s w (Pharmacy n) Tick (Ticking n) r up refl
enabled ctx s w packets (Pharmacy n) Stop now next sent r up among sources is steps x = by_itself ctx s w (Pharmacy n) Stop (Stopping (Pharmacy n)) r up refl
enabled ctx s w packets (Pharmacy n) Start now next sent r up among sources is steps x = by_itself ctx s w (Pharmacy n) Start (Starting (Pharmacy n)) r up refl
enabled ctx s w packets (Pharmacy n) (Revise (OfPlan change)) now next sent r up among sources is steps x = absurd x
enabled ctx s w packets (Pharmacy n) (Revise (OfRule rule)) now next sent r up among sources is steps x = by_itself ctx s w (Pharmacy n) (Revise (OfRule rule)) (Revising (Pharmacy n) (OfRule rule)) r up refl
enabled ctx s w packets (Pharmacy n) (Revise (OfCap most)) now next sent r up among sources is steps x = absurd x
enabled ctx s w packets (Pharmacy n) (Adjudicate from bytes advice) now next sent r up among sources is steps x = absurd x
enabled ctx s w packets (Payer n) (Take from bytes) now next sent r up among sources is steps x =
    payer_enabled ctx s w n from bytes now next sent x.0 x.2.0 r up is steps x.1 (among (packet (Pharmacy x.2.0) (Switch x.0) bytes) x.2.1)
enabled ctx s w packets (Payer n) (Submit text) now next sent r up among sources is steps x = absurd x
enabled ctx s w packets (Payer n) Tick now next sent r up among sources is steps x = absurd x
enabled ctx s w packets (Payer n) Stop now next sent r up among sources is steps x = by_itself ctx s w (Payer n) Stop (Stopping (Payer n)) r up refl
enabled ctx s w packets (Payer n) Start now next sent r up among sources is steps x = by_itself ctx s w (Payer n) Start (Starting (Payer n)) r up refl
enabled ctx s w packets (Payer n) (Revise (OfPlan change)) now next sent r up among sources is steps x = by_itself ctx s w (Payer n) (Revise (OfPlan change)) (Revising (Payer n) (OfPlan change)) r up refl
enabled ctx s w packets (Payer n) (Revise (OfRule rule)) now next sent r up among sources is steps x = absurd x
enabled ctx s w packets (Payer n) (Revise (OfCap most)) now next sent r up among sources is steps x = absurd x
enabled ctx s w packets (Payer n) (Adjudicate from bytes advice) now next sent r up among sources is steps x =
    payer_enabled_advised ctx s w n from bytes advice now next sent x.0 x.2.0 r up is steps x.1 (among (packet (Pharmacy x.2.0) (Switch x.0) bytes) x.2.1)
enabled ctx s w packets (Switch m) call now next sent r up among sources is steps x = absurd x

-- ---- turn by turn

not_switch : (ctx : Context) (packets : List Packet) (node : Node) (call : Call) → IsExplained ctx packets node call → (m : ℕ) → node ≡ Switch m → ⊥
not_switch ctx packets (Pharmacy n) call x m e = cc
not_switch ctx packets (Payer n) call x m e = cc
not_switch ctx packets (Switch k) call x m e = x

same_turn : (ctx : Context) (packets : List Packet) (node : Node) (logged : Logged) (turns : List Turn) → IsExplained ctx packets node logged.call → turns_at node logged.call logged.sent ++ turns ≡ record { node = node; logged = logged } ∷ turns
same_turn ctx packets (Pharmacy n) logged turns x = refl
same_turn ctx packets (Payer n) logged turns x = refl
same_turn ctx packets (Switch m) logged turns x = absurd x

own_first : (t : Turn) (turns : List Turn) → log_among (t ∷ turns) t.node ≡ t.logged ∷ log_among turns t.node
own_first t turns = ap (λ (b : Bool). cond b (t.logged ∷ []) [] ++ log_among turns t.node) (same_self t.node)

other_same : (t : Turn) (turns : List Turn) (node : Node) → same_node t.node node ≡ false → log_among (t ∷ turns) node ≡ log_among turns node
other_same t turns node e = ap (λ (b : Bool). cond b (t.logged ∷ []) [] ++ log_among turns node) e

there_still : (w u : World) (node : Node) (next : AnyNode) (turns : List Turn) → node_at u node ≡ Some next → ((y : Node) → NoSwitch y → (y ≡ node → ⊥) → node_at u y ≡ node_at w y)
    → AllByRecursion (λ (t : Turn). NoSwitch t.node → IsThereIn w t) turns → AllByRecursion (λ (t : Turn). NoSwitch t.node → IsThereIn u t) turns
there_still w u node next [] at others all = tt
there_still w u node next (t ∷ turns) at others all = (
  λ apart. elim (told_apart node t.node) [
    | inl same ↦ (next, ap (node_at u) (sym same.1) ∙ at)
    | inr other ↦ let x = all.0 apart in (x.0, others t.node apart (λ e. other.1 (sym e)) ∙ x.1)
  ],
  there_still w u node next turns at others all.1,
)

makes_still : (ctx : Context) (w u : World) (t : Turn) (turns : List Turn) (next : AnyNode) → node_at u t.node ≡ Some next → ((y : Node) → NoSwitch y → (y ≡ t.node → ⊥) → node_at u y ≡ node_at w y)
    → ((node : Node) (now : AnyNode) → NoSwitch node → node_at w node ≡ Some now → Makes ctx now (log_among (t ∷ turns) node)) → Makes ctx next (log_among turns t.node)
    → (node : Node) (now : AnyNode) → NoSwitch node → node_at u node ≡ Some now → Makes ctx now (log_among turns node)
makes_still ctx w u t turns next at others makes made node now apart is =
    elim (told_apart t.node node) [
      | inl same ↦
          let now_is : next ≡ now = same_some next now (sym at ∙ (ap (node_at u) same.1 ∙ is)) in
          subst (λ (x : Node). Makes ctx now (log_among turns x)) same.1 (subst (λ (x : AnyNode). Makes ctx x (log_among turns t.node)) now_is made)
      | inr other ↦
          subst (Makes ctx now) (other_same t turns node other.0) (makes node now apart (sym (others node apart (λ e. other.1 (sym e))) ∙ is))
    ]

-- the world after a turn
behind : (ctx : Context) (s : WorldSettings) (w : World) (packets : List Packet) (t : Turn) (turns : List Turn) (now next : AnyNode) → Ready ctx s w packets (t ∷ turns) → IsExplained ctx packets t.node t.logged.call → node_at w t.node ≡ Some now
    → node_step ctx now t.logged.call ≡ Done next t.logged.sent → Makes ctx next (log_among turns t.node) → (e : Enabled ctx s w t.node t.logged.call) → (o : OneStep ctx e.v t.node t.logged.call t.logged.sent next e.event)
    → Ready ctx s o.v (packets ++ sent_in t) turns
behind ctx s w packets t turns now next ready x is steps made e o =
    let node = t.node in
    let new = sent_in t in
    let apart = not_switch ctx packets node t.logged.call x in
    let r = reached_on ctx s e.v o.v e.event t.logged.sent e.reached o.steps in
    let at_u : (y : Node) → NoSwitch y → (y ≡ node → ⊥) → node_at o.v y ≡ node_at w y = λ y f d. o.follows.others y d ∙ e.others y f in
    record {
      reached = r;
      among = λ p a. subst (λ (ps : List Packet). IsAmong ps p) (sym o.follows.posts)
          (elim (among_split packets new p a) [
            | inl old ↦ among_left e.v.packets new p (e.grows p (ready.among p old))
            | inr fresh ↦ among_right e.v.packets new p fresh
          ]);
      up = λ m y f. e.up m y (sym (o.follows.others (Switch m) (λ g. apart m (sym g))) ∙ f);
      sources = λ k m bytes a. elim (among_split packets new (packet (Payer k) (Switch m) bytes) a) [
        | inl old ↦ source_later ctx packets new m bytes (ready.sources k m bytes old)
        | inr fresh ↦ new_sources ctx s w o.v packets node t.logged.call now next t.logged.sent ready.reached r ready.among is o.at steps x k m bytes fresh
      ];
      makes = makes_still ctx w o.v t turns next o.at at_u ready.makes made;
      there = there_still w o.v node next turns o.at at_u ready.there.1;
    }

go : (ctx : Context) (s : WorldSettings) (w : World) (packets : List Packet) (turns : List Turn) → Ready ctx s w packets turns → Explained ctx packets turns → Goes ctx w turns
go ctx s w packets [] ready x = record { events = []; accepted = tt; are = refl }
go ctx s w packets (t ∷ turns) ready x =
    let node = t.node in
    let call = t.logged.call in
    let sent = t.logged.sent in
    let apart = not_switch ctx packets node call x.0 in
    let at_w = ready.there.0 apart in
    let now = at_w.0 in
    let is : node_at w node ≡ Some now = at_w.1 in
    let made : Makes ctx now (t.logged ∷ log_among turns node) = subst (Makes ctx now) (own_first t turns) (ready.makes node now apart is) in
    let next = node_after now (node_step ctx now call) in
    let steps : node_step ctx now call ≡ Done next sent = made.0 in
    let e = enabled ctx s w packets node call now next sent ready.reached ready.up ready.among ready.sources is steps x.0 in
    let o = one_step ctx e.v e.event node call now next sent e.asks (e.others node apart ∙ is) steps in
    e.back (t ∷ turns)
    (subst (Goes ctx e.v) (same_turn ctx packets node t.logged turns x.0)
    (goes_back ctx e.v o.v e.event node call sent turns e.asks o.steps
    (go ctx s o.v (packets ++ sent_in t) turns (behind ctx s w packets t turns now next ready x.0 is steps made.1 e o) x.1)))

pub explained_goes : (ctx : Context) (s : WorldSettings) (turns : List Turn) → Laws ctx → Accepts ctx s → IsExplainedOrder ctx s turns → Goes ctx (opening s) turns
explained_goes ctx s turns laws accepts x =
    go ctx s (opening s) [] turns
    (record {
      reached = record { laws = laws; accepts = accepts; events = []; leads = refl };
      among = λ p a. absurd (nothing_numbered a.number p a.is);
      up = λ m y e. let c = opens_empty s m y e in (record { cap = c.0; entries = [] }, c.1);
      sources = λ k m bytes a. absurd (nothing_numbered a.number (packet (Payer k) (Switch m) bytes) a.is);
      makes = λ node now apart is. x.makes node now is;
      there = all_weaker (IsThereIn (opening s)) (λ (t : Turn). NoSwitch t.node → IsThereIn (opening s) t) (λ t y apart. y) turns x.there;
    })
    x.explained
