-- A whole recovery, put together from its stages.
use Rattle.std.proofs.Common.{◌≡◌, ℕ, Bool, true, ◌&&◌, inl, inr, ltb-true, ◌+◌, ◌*◌, ◌/◌, ◌<◌, ◌≤◌, List, [], ◌∷◌, length, Option, Some, None, refl, sym, ap, ◌∙◌, subst, arith}
use Rattle.std.specs.Prelude.{option_map, option_and_then}
use Rattle.claim_model.specs.Words.{TxnId}
use Rattle.std.specs.Prelude.{nat_lt, nat_le}
use Rattle.std.proofs.lemmas.Bool.{and_parts}
use Rattle.claim_model.specs.Context.{Context}
use Rattle.claim_model.specs.Readable.{payer_for, request_envelope, answer_envelope}
use Rattle.claim_model.specs.Numbered.{numbered}
use Rattle.claim_model.specs.Journal.{PharmacySettings, RetryRule, opening_rule, Journal, JournalAtRest, Kept, Entry, circle, stopped, is_rounds, most_rounds, have_switches, most_nodes}
use Rattle.claim_model.specs.Table.{Slot, Table, Routed, Forward, Back, filled, Requested, requested, Responded}
use Rattle.claim_model.specs.Node.{Pharmacy, Switch, Payer, Power, Up, Sent, to_payer_or_back}
use Rattle.claim_model.specs.World.{World, Event, Delivery, Starting, Adjudication, packet_from}
use Rattle.claim_model.specs.Settings.{WorldSettings}
use Rattle.claim_model.specs.Held.{journal_at}
use Rattle.claim_model.specs.Promises.{Reached}
use Rattle.claim_model.proofs.Lists.{numbered_put, all_at}
use Rattle.claim_model.proofs.Options.{same_some}
use Rattle.claim_model.proofs.Sound.{with_switch, SoundSwitch}
use Rattle.claim_model.proofs.Decided.{origin}
use Rattle.claim_model.proofs.Phases.{PhaseFits, HasRule}
use Rattle.claim_model.proofs.Posts.{reached_posts}
use Rattle.claim_model.proofs.Runs.{reached_sound}
use Rattle.claim_recovery.specs.Help.{IsTimely, Timely}
use Rattle.claim_recovery.specs.Recovered.{WouldAnswer, Answerable}
use Rattle.claim_recovery.proofs.Paths.{Path, path_join, path_delivery, path_grows, packet_new, reached_by}
use Rattle.claim_recovery.proofs.Forward.{request_at_switch, answer_at_switch, responds}
use Rattle.claim_recovery.proofs.Unchanged.{Same, same_switch, same_then, Booked, booked_same, same_booked, booked_then}
use Rattle.claim_recovery.proofs.Phasing.{phase_below}
use Rattle.claim_recovery.proofs.Waits.{IsWaiting, IsAsked}
use Rattle.claim_recovery.proofs.AtSwitch.{IsKnown, reply_fits, later_by, up_on, Goes, Replies, Passes, handled}
use Rattle.claim_recovery.proofs.AtPayer.{PayerUp, payer_up, Replied, payer_replies}
use Rattle.claim_recovery.proofs.Home.{IsAnswered, Closed, Heard, home}

pub stopped_rule : (j : Journal) → (stopped j).rule ≡ j.rule
unfolding stopped
stopped_rule j = refl

-- which events the stages after the tick need
pub record Allows (may : Event → Type 0) (old : ℕ) : Type 0 where
  pub delivery : (k : ℕ) → old < k → may (Delivery k)
  pub adjudication : (k : ℕ) (advice : List ℕ) → old < k → may (Adjudication k advice)
  pub payer : (p : ℕ) → may (Starting (Payer p))

pub waits_on : (w v : World) (id : TxnId) (request : List ℕ) → v.pharmacies ≡ w.pharmacies → IsWaiting w id request → IsWaiting v id request
waits_on w v id request e x = record { journal = x.journal; up = subst (λ (ps : List (Power Journal JournalAtRest)). numbered ps id.pharmacy ≡ Some (Up x.journal)) (sym e) x.up; phase = x.phase; stands = x.stands }

pub known_on : (ctx : Context) (w v : World) (id : TxnId) (request : List ℕ) → journal_at v id.pharmacy ≡ journal_at w id.pharmacy → IsKnown ctx w id request → IsKnown ctx v id request
known_on ctx w v id request e x =
    record {
      fits = x.fits;
      header = x.header;
      reads = x.reads;
      asks = ap (λ (o : Option JournalAtRest). option_map (λ (k : Kept). k.request) (option_and_then (λ (j : JournalAtRest). numbered j.entries id.number) o)) e ∙ x.asks;
    }

-- ---- from the switch to the way home

pub record Arrived (ctx : Context) (may : Event → Type 0) (w : World) (old : ℕ) (id : TxnId) (request : List ℕ) (deliveries starts : ℕ) : Type 0 where
  pub world : World
  pub path : Path ctx may w world 0 deliveries starts
  pub booked : Booked ctx id request w world
  pub waits : IsWaiting world id request
  pub answer : List ℕ
  pub answered : IsAnswered ctx world old id answer

-- the answer of the payer goes through the switch
through : (ctx : Context) (given : WorldSettings) (may : Event → Type 0) (w : World) (old : ℕ) (id : TxnId) (request : List ℕ) (m : ℕ) (t : Table) (slot : Slot) → Reached ctx given w → old ≤ length w.packets → Allows may old
    → numbered w.switches m ≡ Some (Up t) → Rattle.claim_model.specs.Table.slot_of id t.entries ≡ Some slot → slot.answer ≡ None → IsKnown ctx w id request → IsWaiting w id request → (x : Replied ctx may w old id request m) → Arrived ctx may w old id request 2 0
through ctx given may w old id request m t slot r before allows up stands waits known x y =
    let v : World = y.world in
    let rv : Reached ctx given v = reached_by ctx given may w v 0 1 0 r y.path in
    let o = origin ctx given v id y.answer rv.laws (reached_sound ctx given v rv) y.decided_is in
    let up_v : numbered v.switches m ≡ Some (Up t) = up_on w v m t y.switches up in
    let e = answer_envelope id y.answer in
    let after : Responded = record { table = filled t id y.answer; bytes = ctx.envelope e } in
    let sent : List Sent = record { to = Pharmacy id.pharmacy; bytes = ctx.envelope e } ∷ [] in
    let u : World = with_switch v m (Up (filled t id y.answer)) sent in
    let reads = rv.laws.envelopes e (reply_fits id request y.answer known.fits o.0.spells.short) in
    let path : Path ctx may v u 0 1 0 =
    path_delivery ctx may v u y.packet sent (allows.delivery y.packet y.fresh)
    (answer_at_switch ctx v m y.packet y.from (ctx.envelope e) e t after up_v y.stands reads refl (responds ctx t e o.0.spells.answer slot refl o.0.spells.reads stands waits)) in
    let grown = path_grows ctx may w v 0 1 0 y.path in
    record {
      world = u;
      path = path_join ctx may w v u 0 1 0 0 1 0 0 2 0 y.path path refl refl refl;
      booked = booked_then ctx id request w v u y.booked (same_switch id.pharmacy v m (Up (filled t id y.answer)) sent);
      waits = waits_on w u id request y.pharmacies x;
      answer = y.answer;
      answered = record {
        decided_is = (later_by ctx given may v u 0 1 0 rv path).decides id y.answer y.decided_is;
        from = Switch m;
        packet = length v.packets + 1;
        fresh = omega (arith, before, grown);
        stands = packet_new v.packets (Switch m) (record { to = Pharmacy id.pharmacy; bytes = ctx.envelope e });
      };
    }

-- with at most three deliveries and one start
pub record ArrivedSoon (ctx : Context) (may : Event → Type 0) (w : World) (old : ℕ) (id : TxnId) (request : List ℕ) : Type 0 where
  pub deliveries : ℕ
  pub starts : ℕ
  pub deliveries_few : deliveries ≤ 3
  pub starts_few : starts ≤ 1
  pub arrived : Arrived ctx may w old id request deliveries starts

-- from where the switch has handled the request
arrived_by : (ctx : Context) (given : WorldSettings) (may : Event → Type 0) (w : World) (old : ℕ) (id : TxnId) (request : List ℕ) (m : ℕ) (t : Table) (q : Requested) → Reached ctx given w → old ≤ length w.packets → Allows may old
    → numbered w.switches m ≡ Some (Up t) → (known : IsKnown ctx w id request) → IsWaiting w id request → Answerable ctx w id request
    → Path ctx may w (with_switch w m (Up q.table) (to_payer_or_back (Pharmacy id.pharmacy) q.routed ∷ [])) 0 1 0 → Goes ctx w id request known.header q → ArrivedSoon ctx may w old id request
arrived_by ctx given may w old id request m t q r before allows up known x answerable path (Replies a d routed) =
    let sent : List Sent = to_payer_or_back (Pharmacy id.pharmacy) q.routed ∷ [] in
    let v : World = with_switch w m (Up q.table) sent in
    record {
      deliveries = 1;
      starts = 0;
      deliveries_few = omega arith;
      starts_few = omega arith;
      arrived = record {
        world = v;
        path = path;
        booked = booked_same ctx id request w v (same_switch id.pharmacy w m (Up q.table) sent);
        waits = waits_on w v id request refl x;
        answer = a;
        answered = record {
          decided_is = (later_by ctx given may w v 0 1 0 r path).decides id a d;
          from = Switch m;
          packet = length w.packets + 1;
          fresh = omega (arith, before);
          stands = packet_new w.packets (Switch m) (to_payer_or_back (Pharmacy id.pharmacy) q.routed) ∙ ap (λ (z : Routed). Some (packet_from (Switch m) (to_payer_or_back (Pharmacy id.pharmacy) z))) routed;
        };
      };
    }
arrived_by ctx given may w old id request m t q r before allows up known x answerable path (Passes p route routed slot stands waits) =
    let n : ℕ = id.pharmacy in
    let sent : List Sent = to_payer_or_back (Pharmacy n) q.routed ∷ [] in
    let v : World = with_switch w m (Up q.table) sent in
    let same_v : Same n w v = same_switch n w m (Up q.table) sent in
    let rv : Reached ctx given v = reached_by ctx given may w v 0 1 0 r path in
    let packet : numbered v.packets (length w.packets + 1) ≡ Some (record { from = Switch m; to = Payer p; bytes = ctx.envelope (request_envelope id request) }) =
    packet_new w.packets (Switch m) (to_payer_or_back (Pharmacy n) q.routed) ∙ ap (λ (z : Routed). Some (packet_from (Switch m) (to_payer_or_back (Pharmacy n) z))) routed in
    let would : WouldAnswer ctx w p id request = answerable known.header p known.reads route in
    let pay : PayerUp ctx may v p would.book = payer_up ctx may v p would.book (allows.payer p) would.there in
    let u : World = pay.world in
    let ru : Reached ctx given u = reached_by ctx given may v u 0 0 pay.starts rv pay.path in
    let same_u : Same n w u = same_then n w v u same_v (pay.same n) in
    let grown_v = path_grows ctx may w v 0 1 0 path in
    let grown = path_grows ctx may v u 0 0 pay.starts pay.path in
    let known_u : IsKnown ctx u id request = known_on ctx w u id request same_u.journal known in
    let before_u : old ≤ length u.packets = omega (arith, before, grown_v, grown) in
    let fresh : old < length w.packets + 1 = omega (arith, before) in
    let replied : Replied ctx may u old id request m =
    payer_replies ctx given may u old id request m p (length w.packets + 1) would.book would.handed would.answer ru before_u fresh allows.delivery allows.adjudication known_u (ap (payer_for ctx id) (same_some known_u.header known.header (sym known_u.reads ∙ known.reads)) ∙ route) pay.up would.answers
    (pay.packets (length w.packets + 1) _ packet) in
    let up_v : numbered v.switches m ≡ Some (Up q.table) = numbered_put w.switches m (Up t) (Up q.table) up in
    let up_u : numbered u.switches m ≡ Some (Up q.table) = up_on v u m q.table pay.switches up_v in
    let a : Arrived ctx may u old id request 2 0 = through ctx given may u old id request m q.table slot ru before_u allows up_u stands waits known_u (waits_on w u id request pay.pharmacies x) replied in
    let sum : 0 + pay.starts ≡ pay.starts = omega arith in
    let sum' : pay.starts + 0 ≡ pay.starts = omega arith in
    let first : Path ctx may w u 0 1 pay.starts = path_join ctx may w v u 0 1 0 0 0 pay.starts 0 1 pay.starts path pay.path refl refl sum in
    record {
      deliveries = 3;
      starts = pay.starts;
      deliveries_few = omega arith;
      starts_few = pay.few;
      arrived = record {
        world = a.world;
        path = path_join ctx may w u a.world 0 1 pay.starts 0 2 0 0 3 pay.starts first a.path refl refl sum';
        booked = same_booked ctx id request w u a.world same_u a.booked;
        waits = a.waits;
        answer = a.answer;
        answered = a.answered;
      };
    }

-- from a packet at a switch that is up
arrived : (ctx : Context) (given : WorldSettings) (may : Event → Type 0) (w : World) (old : ℕ) (id : TxnId) (request : List ℕ) (m : ℕ) (t : Table) → Reached ctx given w → old ≤ length w.packets → Allows may old
    → numbered w.switches m ≡ Some (Up t) → IsKnown ctx w id request → IsWaiting w id request → Answerable ctx w id request → IsAsked ctx w old id request m → ArrivedSoon ctx may w old id request
arrived ctx given may w old id request m t r before allows up known x answerable asks =
    let sound : SoundSwitch ctx w (Up t) = (reached_sound ctx given w r).switches m (Up t) up in
    let h = handled ctx w id request known.header t known.asks known.reads sound in
    let e = request_envelope id request in
    let sent : List Sent = to_payer_or_back (Pharmacy id.pharmacy) h.result.routed ∷ [] in
    let path = path_delivery ctx may w (with_switch w m (Up h.result.table) sent) asks.packet sent (allows.delivery asks.packet asks.fresh)
    (request_at_switch ctx w m asks.packet (Pharmacy id.pharmacy) (ctx.envelope e) e t h.result up asks.stands (r.laws.envelopes e known.fits) refl h.is) in
    arrived_by ctx given may w old id request m t h.result r before allows up known x answerable path h.goes

-- ---- to the end

-- events that lead to a world in which this entry has an answer, with what they left as it was
pub record Ended (ctx : Context) (may : Event → Type 0) (w : World) (id : TxnId) (request : List ℕ) (ticks deliveries starts : ℕ) : Type 0 where
  pub world : World
  pub path : Path ctx may w world ticks deliveries starts
  pub between : World
  pub booked : Booked ctx id request w between
  pub answer : List ℕ
  pub closed : Closed between world id request answer

-- with at most this many of each
pub record EndedSoon (ctx : Context) (may : Event → Type 0) (w : World) (id : TxnId) (request : List ℕ) (ticks starts : ℕ) : Type 0 where
  pub tick_count : ℕ
  pub delivery_count : ℕ
  pub start_count : ℕ
  pub ticks_few : tick_count ≤ ticks
  pub deliveries_few : delivery_count ≤ 4
  pub starts_few : start_count ≤ starts
  pub ended : Ended ctx may w id request tick_count delivery_count start_count

-- from a switch that is up, to the end
pub ended : (ctx : Context) (given : WorldSettings) (may : Event → Type 0) (w : World) (old : ℕ) (id : TxnId) (request : List ℕ) (m : ℕ) (t : Table) → Reached ctx given w → old ≤ length w.packets → Allows may old
    → numbered w.switches m ≡ Some (Up t) → IsKnown ctx w id request → IsWaiting w id request → Answerable ctx w id request → IsAsked ctx w old id request m → EndedSoon ctx may w id request 0 1
ended ctx given may w old id request m t r before allows up known x answerable asks =
    let s = arrived ctx given may w old id request m t r before allows up known x answerable asks in
    let a : Arrived ctx may w old id request s.deliveries s.starts = s.arrived in
    let v : World = a.world in
    let rv : Reached ctx given v = reached_by ctx given may w v 0 s.deliveries s.starts r a.path in
    let h : Heard ctx may v id request a.answer = home ctx given may v old id request a.answer rv allows.delivery (known_on ctx w v id request a.booked.journal known) a.waits a.answered in
    let few = s.deliveries_few in
    let sum : s.starts + 0 ≡ s.starts = omega arith in
    record {
      tick_count = 0;
      delivery_count = s.deliveries + 1;
      start_count = s.starts;
      ticks_few = omega arith;
      deliveries_few = omega (arith, few);
      starts_few = s.starts_few;
      ended = record {
        world = h.world;
        path = path_join ctx may w v h.world 0 s.deliveries s.starts 0 1 0 0 (s.deliveries + 1) s.starts a.path h.path refl refl sum;
        between = v;
        booked = a.booked;
        answer = a.answer;
        closed = h.closed;
      };
    }

-- what came before, where nothing but phases and powers changed
pub ended_after : (ctx : Context) (may : Event → Type 0) (u w : World) (id : TxnId) (request : List ℕ) (t s ticks starts : ℕ) → Path ctx may u w t 0 s → Same id.pharmacy u w → EndedSoon ctx may w id request ticks starts → EndedSoon ctx may u id request (t + ticks) (s + starts)
ended_after ctx may u w id request t s ticks starts path same e =
    let f = e.ticks_few in
    let g = e.starts_few in
    let x = e.ended in
    let sum : 0 + e.delivery_count ≡ e.delivery_count = omega arith in
    record {
      tick_count = t + e.tick_count;
      delivery_count = e.delivery_count;
      start_count = s + e.start_count;
      ticks_few = omega (arith, f);
      deliveries_few = e.deliveries_few;
      starts_few = omega (arith, g);
      ended = record {
        world = x.world;
        path = path_join ctx may u w x.world t 0 s e.tick_count e.delivery_count e.start_count (t + e.tick_count) e.delivery_count (s + e.start_count) path x.path refl sum refl;
        between = x.between;
        booked = same_booked ctx id request u w x.between same x.booked;
        answer = x.answer;
        closed = x.closed;
      };
    }

pub ended_within : (ctx : Context) (may : Event → Type 0) (w : World) (id : TxnId) (request : List ℕ) (ticks starts ticks' starts' : ℕ) → ticks ≤ ticks' → starts ≤ starts' → EndedSoon ctx may w id request ticks starts → EndedSoon ctx may w id request ticks' starts'
ended_within ctx may w id request ticks starts ticks' starts' a b e =
    let f = e.ticks_few in
    let g = e.starts_few in
    record { tick_count = e.tick_count; delivery_count = e.delivery_count; start_count = e.start_count; ticks_few = omega (arith, f); deliveries_few = e.deliveries_few; starts_few = omega (arith, g); ended = e.ended }

pub answerable_on : (ctx : Context) (w v : World) (id : TxnId) (request : List ℕ) → Same id.pharmacy w v → Answerable ctx w id request → Answerable ctx v id request
answerable_on ctx w v id request same answerable header payer reads route =
    let a = answerable header payer reads route in record { book = a.book; there = same.books payer ∙ a.there; handed = a.handed; answer = a.answer; answers = a.answers }

-- ---- what the rule says

-- a number of 1 to the most rounds is one at least
some_rounds : (n : ℕ) → is_rounds n ≡ true → 0 < n
some_rounds n e = ltb-true 0 n (and_parts (nat_lt 0 n) (nat_le n most_rounds) e).0

timely_by : (ctx : Context) (given : WorldSettings) (n : ℕ) (j : JournalAtRest) → Timely given → numbered given.pharmacies n ≡ Some j.settings → HasRule ctx j → IsTimely j.rule
timely_by ctx given n j timely at (inl as_opened) =
    subst IsTimely (sym as_opened) (all_at (λ (s : PharmacySettings). IsTimely (opening_rule s)) given.pharmacies n j.settings timely at)
timely_by ctx given n j timely at (inr taken) =
    let a = and_parts (is_rounds j.rule.again) (is_rounds j.rule.tries && (have_switches ctx.switches j.rule.nodes && nat_le (length j.rule.nodes) most_nodes)) taken in
    let b = and_parts (is_rounds j.rule.tries) (have_switches ctx.switches j.rule.nodes && nat_le (length j.rule.nodes) most_nodes) a.1 in
    record { again = some_rounds j.rule.again a.0; tries = some_rounds j.rule.tries b.0 }

pub timely_at : (ctx : Context) (given : WorldSettings) (w : World) (id : TxnId) (request : List ℕ) → Reached ctx given w → Timely given → (x : IsWaiting w id request) → IsTimely x.journal.rule
timely_at ctx given w id request r timely x =
    let sj = (reached_sound ctx given w r).pharmacies id.pharmacy (Up x.journal) x.up in
    subst IsTimely (stopped_rule x.journal) (timely_by ctx given id.pharmacy (stopped x.journal) timely sj.settings ((reached_posts ctx given w r).rules id.pharmacy (Up x.journal) x.up))

pub below_circle : (ctx : Context) (given : WorldSettings) (w : World) (id : TxnId) (request : List ℕ) → Reached ctx given w → Timely given → (x : IsWaiting w id request) → x.phase < circle x.journal.rule
below_circle ctx given w id request r timely x =
    let t = timely_at ctx given w id request r timely x in
    let fits : x.phase / (x.journal.rule.again * x.journal.rule.tries) < length x.journal.rule.nodes =
    all_at (λ (e : Entry). PhaseFits x.journal.rule e.state) x.journal.entries id.number _ ((reached_posts ctx given w r).phases id.pharmacy (Up x.journal) x.up) x.stands in
    phase_below x.journal.rule x.phase t.again t.tries fits
