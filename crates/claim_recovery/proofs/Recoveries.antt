-- From every reached world: the pharmacy is up, the request is sent, and its answer comes home.
use Rattle.std.proofs.Common.{◌≡◌, ℕ, suc, ◌+◌, ◌*◌, ◌%◌, ◌≤◌, true, false, List, length, Option, Some, None, slice_get, refl, sym, ap, ◌∙◌, subst, arith}
use Rattle.std.specs.Prelude.{Bool, nat_eq, option_map, option_and_then}
use Rattle.claim_model.specs.Words.{TxnId}
use Rattle.claim_model.specs.Context.{Context}
use Rattle.claim_model.specs.Readable.{request_envelope}
use Rattle.claim_model.specs.Numbered.{numbered}
use Rattle.claim_model.specs.Journal.{RetryRule, Journal, JournalAtRest, Kept, circle, switch_at, stopped}
use Rattle.claim_model.specs.Table.{Table}
use Rattle.claim_model.specs.Node.{Node, Pharmacy, Switch, Power, Up}
use Rattle.claim_model.specs.World.{World, Packet, Event, Ticking, Starting}
use Rattle.claim_model.specs.Settings.{WorldSettings}
use Rattle.claim_model.specs.Held.{journal_in, journal_at, book_at, entry_of, held}
use Rattle.claim_model.specs.Promises.{Reached}
use Rattle.claim_model.proofs.Lists.{numbered_exists, get_within, all_at}
use Rattle.claim_model.proofs.Options.{same_some}
use Rattle.claim_model.proofs.Tests.{nat_self}
use Rattle.claim_model.proofs.Phases.{IsThere}
use Rattle.claim_model.proofs.Addressed.{Addressed}
use Rattle.claim_model.proofs.Posts.{Posted, reached_posts}
use Rattle.claim_recovery.specs.Help.{Timely, HelpsOne, HelpsWithoutSwitch}
use Rattle.claim_recovery.specs.Recovered.{IsOpen, Answerable, RecoveredBy, Recovered, RecoveredThrough, LeavesOthers, RecoveredAlone}
use Rattle.claim_recovery.proofs.Paths.{Path, path_grows, reached_by}
use Rattle.claim_recovery.proofs.Unchanged.{Same, Booked, left_after, open_on}
use Rattle.claim_recovery.proofs.Phasing.{next_time, turn, turn_due, turn_switch}
use Rattle.claim_recovery.proofs.Waits.{IsWaiting, Woken, woken, IsAsked, Asked, asked_at}
use Rattle.claim_recovery.proofs.AtSwitch.{IsKnown, open_known, SwitchUp, up_on, switch_is_up, switch_up}
use Rattle.claim_recovery.proofs.Course.{Allows, waits_on, known_on, Ended, EndedSoon, ended, ended_after, ended_within, answerable_on, stopped_rule, timely_at, below_circle}
use Rattle.claim_recovery.proofs.Home.{Closed}

-- a packet that was sent to a switch was sent to one that is there
switch_there : (ctx : Context) (given : WorldSettings) (w : World) (old : ℕ) (id : TxnId) (request : List ℕ) (m : ℕ) → Reached ctx given w → IsKnown ctx w id request → IsAsked ctx w old id request m → (s : Power Table ℕ) × (numbered w.switches m ≡ Some s)
switch_there ctx given w old id request m r known asks =
    let p : Posted ctx given w = reached_posts ctx given w r in
    let packet : Packet = record { from = Pharmacy id.pharmacy; to = Switch m; bytes = ctx.envelope (request_envelope id request) } in
    let a : Addressed ctx given packet = all_at (Addressed ctx given) w.packets asks.packet packet p.packets asks.stands in
    let there : IsThere m (length given.switches) = a (request_envelope id request) (r.laws.envelopes (request_envelope id request) known.fits) in
    let within = there.within in
    let as_many = p.switches in
    numbered_exists w.switches m there.above (omega (arith, within, as_many))

-- from a packet at a switch, which is up or is brought up
sent_on : (ctx : Context) (given : WorldSettings) (may : Event → Type 0) (w : World) (old : ℕ) (id : TxnId) (request : List ℕ) (m starts : ℕ) → Reached ctx given w → old ≤ length w.packets → Allows may old
    → IsKnown ctx w id request → IsWaiting w id request → Answerable ctx w id request → IsAsked ctx w old id request m → (up : SwitchUp ctx may w m) → up.starts ≤ starts → EndedSoon ctx may w id request 0 (starts + 1)
sent_on ctx given may w old id request m starts r before allows known x answerable asks up few =
    let v : World = up.world in
    let rv : Reached ctx given v = reached_by ctx given may w v 0 0 up.starts r up.path in
    let same : Same id.pharmacy w v = up.same id.pharmacy in
    let grown = path_grows ctx may w v 0 0 up.starts up.path in
    let asks_v : IsAsked ctx v old id request m = record { packet = asks.packet; fresh = asks.fresh; stands = up.packets asks.packet _ asks.stands } in
    let e : EndedSoon ctx may v id request 0 1 =
    ended ctx given may v old id request m up.table rv (omega (arith, before, grown)) allows up.up (known_on ctx w v id request same.journal known) (waits_on w v id request up.pharmacies x) (answerable_on ctx w v id request same answerable) asks_v in
    ended_within ctx may w id request (0 + 0) (up.starts + 1) 0 (starts + 1) (omega arith) (omega (arith, few)) (ended_after ctx may w v id request 0 up.starts 0 1 up.path same e)

-- from an open entry that was just sent
asked_on : (ctx : Context) (given : WorldSettings) (may : Event → Type 0) (w : World) (id : TxnId) (request : List ℕ) (ticks m starts : ℕ) → Reached ctx given w → Allows may (length w.packets) → IsKnown ctx w id request → Answerable ctx w id request
    → (a : Asked ctx may w id request ticks m) → (up : SwitchUp ctx may a.world m) → up.starts ≤ starts → EndedSoon ctx may w id request ticks (starts + 1)
asked_on ctx given may w id request ticks m starts r allows known answerable a up few =
    let v : World = a.world in
    let rv : Reached ctx given v = reached_by ctx given may w v ticks 0 0 r a.path in
    let grown = path_grows ctx may w v ticks 0 0 a.path in
    let e : EndedSoon ctx may v id request 0 (starts + 1) =
    sent_on ctx given may v (length w.packets) id request m starts rv grown allows (known_on ctx w v id request a.same.journal known) a.waits (answerable_on ctx w v id request a.same answerable) a.asks up few in
    ended_within ctx may w id request (ticks + 0) (0 + (starts + 1)) ticks (starts + 1) (omega arith) (omega arith) (ended_after ctx may w v id request ticks 0 0 (starts + 1) a.path a.same e)

-- a later moment has the same leave
allows_on : (may : Event → Type 0) (old new : ℕ) → old ≤ new → Allows may old → Allows may new
allows_on may old new before a = record { delivery = λ k h. a.delivery k (omega (arith, before, h)); adjudication = λ k advice h. a.adjudication k advice (omega (arith, before, h)); payer = a.payer }

-- the rule of the journal of a pharmacy that is up
same_rule : (w v : World) (id : TxnId) (journal : JournalAtRest) (j : Journal) → journal_at w id.pharmacy ≡ Some journal → journal_at v id.pharmacy ≡ journal_at w id.pharmacy → numbered v.pharmacies id.pharmacy ≡ Some (Up j) → j.rule ≡ journal.rule
same_rule w v id journal j there same up =
    let e : stopped j ≡ journal = same_some (stopped j) journal (sym (ap (option_map journal_in) up) ∙ (same ∙ there)) in
    sym (stopped_rule j) ∙ ap (λ (q : JournalAtRest). q.rule) e

-- ---- with one wait at most

pub recovers : (ctx : Context) (given : WorldSettings) (may : Event → Type 0) (w : World) (id : TxnId) (request : List ℕ) (journal : JournalAtRest) → Reached ctx given w → Timely given → journal_at w id.pharmacy ≡ Some journal → IsOpen w id request → Answerable ctx w id request
    → Allows may (length w.packets) → may (Ticking id.pharmacy) → ((node : Node) → may (Starting node)) → EndedSoon ctx may w id request journal.rule.again 3
recovers ctx given may w id request journal r timely there o answerable allows tick start =
    let x : Woken ctx may w id request = woken ctx may w id request (start (Pharmacy id.pharmacy)) o in
    let v : World = x.world in
    let rv : Reached ctx given v = reached_by ctx given may w v 0 0 x.starts r x.path in
    let j : Journal = x.waits.journal in
    let t = timely_at ctx given v id request rv timely x.waits in
    let below = below_circle ctx given v id request rv timely x.waits in
    let next = next_time j.rule x.waits.phase t.again in
    let known : IsKnown ctx v id request = open_known ctx given v id request rv (open_on w v id request x.same.journal o) in
    let phase : ℕ = (x.waits.phase + suc next.ticks) % circle j.rule in
    let a : Asked ctx may v id request (suc next.ticks) (switch_at j.rule phase) = asked_at ctx given may v id request next.ticks phase (switch_at j.rule phase) rv tick x.waits below refl next.due_then refl in
    let grown = path_grows ctx may w v 0 0 x.starts x.path in
    let u : World = a.world in
    let ru : Reached ctx given u = reached_by ctx given may v u (suc next.ticks) 0 0 rv a.path in
    let s = switch_there ctx given u (length v.packets) id request (switch_at j.rule phase) ru (known_on ctx v u id request a.same.journal known) a.asks in
    let up : SwitchUp ctx may u (switch_at j.rule phase) = switch_up ctx may u (switch_at j.rule phase) s.0 (start (Switch (switch_at j.rule phase))) s.1 in
    let e : EndedSoon ctx may v id request (suc next.ticks) (1 + 1) =
    asked_on ctx given may v id request (suc next.ticks) (switch_at j.rule phase) 1 rv (allows_on may (length w.packets) (length v.packets) grown allows) known (answerable_on ctx w v id request x.same answerable) a up up.few in
    let rule : j.rule ≡ journal.rule = same_rule w v id journal j there x.same.journal x.waits.up in
    let again : j.rule.again ≡ journal.rule.again = ap (λ (q : RetryRule). q.again) rule in
    let few = next.few in
    let one = x.few in
    ended_within ctx may w id request (0 + suc next.ticks) (x.starts + (1 + 1)) journal.rule.again 3 (omega (arith, few, again)) (omega (arith, one)) (ended_after ctx may w v id request 0 x.starts (suc next.ticks) (1 + 1) x.path x.same e)

-- ---- through a listed switch that is up

pub recovers_through : (ctx : Context) (given : WorldSettings) (may : Event → Type 0) (w : World) (id : TxnId) (request : List ℕ) (journal : JournalAtRest) (place m : ℕ) (table : Table) → Reached ctx given w → Timely given → journal_at w id.pharmacy ≡ Some journal → IsOpen w id request
    → Answerable ctx w id request → slice_get journal.rule.nodes place ≡ Some m → numbered w.switches m ≡ Some (Up table) → Allows may (length w.packets) → may (Ticking id.pharmacy) → may (Starting (Pharmacy id.pharmacy)) → EndedSoon ctx may w id request (circle journal.rule) 2
recovers_through ctx given may w id request journal place m table r timely there o answerable listed is_up allows tick start =
    let x : Woken ctx may w id request = woken ctx may w id request start o in
    let v : World = x.world in
    let rv : Reached ctx given v = reached_by ctx given may w v 0 0 x.starts r x.path in
    let j : Journal = x.waits.journal in
    let rule : j.rule ≡ journal.rule = same_rule w v id journal j there x.same.journal x.waits.up in
    let listed_j : slice_get j.rule.nodes place ≡ Some m = subst (λ (q : RetryRule). slice_get q.nodes place ≡ Some m) (sym rule) listed in
    let t = timely_at ctx given v id request rv timely x.waits in
    let below = below_circle ctx given v id request rv timely x.waits in
    let its = turn j.rule x.waits.phase place t.again t.tries below (get_within j.rule.nodes place m listed_j) in
    let known : IsKnown ctx v id request = open_known ctx given v id request rv (open_on w v id request x.same.journal o) in
    let a : Asked ctx may v id request (suc its.ticks) m =
    asked_at ctx given may v id request its.ticks (place * (j.rule.again * j.rule.tries)) m rv tick x.waits below its.there (turn_due j.rule place) (turn_switch j.rule place m t.again t.tries listed_j) in
    let grown = path_grows ctx may w v 0 0 x.starts x.path in
    let u : World = a.world in
    let up_u : numbered u.switches m ≡ Some (Up table) = up_on v u m table a.switches (up_on w v m table x.switches is_up) in
    let up : SwitchUp ctx may u m = switch_is_up ctx may u m table up_u in
    let e : EndedSoon ctx may v id request (suc its.ticks) (0 + 1) =
    asked_on ctx given may v id request (suc its.ticks) m 0 rv (allows_on may (length w.packets) (length v.packets) grown allows) known (answerable_on ctx w v id request x.same answerable) a up (omega arith) in
    let whole : circle j.rule ≡ circle journal.rule = ap circle rule in
    let few = its.few in
    let one = x.few in
    ended_within ctx may w id request (0 + suc its.ticks) (x.starts + (0 + 1)) (circle journal.rule) 2 (omega (arith, few, whole)) (omega (arith, one)) (ended_after ctx may w v id request 0 x.starts (suc its.ticks) (0 + 1) x.path x.same e)

-- ---- the theorems

pub held_own : (b : Bool) (o : Option (List ℕ)) → b ≡ true → elim b [ true ↦ o | false ↦ None ] ≡ o
held_own true o e = refl
held_own false o e = absurd (Rattle.std.proofs.lemmas.Bool.false≢true e)

held_at : (ctx : Context) (w : World) (id : TxnId) (request answer : List ℕ) → entry_of w id ≡ Some (record { request = request; answer = Some answer }) → held ctx w (Pharmacy id.pharmacy) id ≡ Some answer
unfolding held
held_at ctx w id request answer e =
    held_own (nat_eq id.pharmacy id.pharmacy) (option_and_then (λ (k : Kept). k.answer) (entry_of w id)) (nat_self id.pharmacy)
    ∙ ap (option_and_then (λ (k : Kept). k.answer)) e

abbrev recovered_by : (ctx : Context) (may : Event → Type 0) (w : World) (id : TxnId) (request : List ℕ) (ticks starts : ℕ) → EndedSoon ctx may w id request ticks starts → RecoveredBy ctx w id may ticks starts
recovered_by ctx may w id request ticks starts e =
    let x : Ended ctx may w id request e.tick_count e.delivery_count e.start_count = e.ended in
    let p : Path ctx may w x.world e.tick_count e.delivery_count e.start_count = x.path in
    let t = p.ticks_are in
    let d = p.deliveries_are in
    let s = p.starts_are in
    let t' = e.ticks_few in
    let d' = e.deliveries_few in
    let s' = e.starts_few in
    record {
      events = p.events;
      done = p.done;
      help = p.help;
      ticks_few = omega (arith, t, t');
      deliveries_few = omega (arith, d, d');
      starts_few = omega (arith, s, s');
      answer = x.answer;
      settled = subst (λ (v : World). held ctx v (Pharmacy id.pharmacy) id ≡ Some x.answer) (sym p.leads) (held_at ctx x.world id request x.answer x.closed.settled);
    }

pub left_by : (ctx : Context) (id : TxnId) (request answer : List ℕ) (u v w : World) → Booked ctx id request u v → Closed v w id request answer → LeavesOthers ctx u w id request
left_by ctx id request answer u v w b c =
    record {
      pharmacies = λ n d. c.pharmacies n d ∙ b.pharmacies n d;
      entries = λ k d. c.entries k d ∙ ap (option_and_then (λ (j : JournalAtRest). numbered j.entries k)) b.journal;
      asks = ap (option_map (λ (k : Kept). k.request)) c.settled;
      rule = c.rule ∙ ap (option_map (λ (j : JournalAtRest). j.rule)) b.journal;
      books = λ n. left_after ctx id request n (book_at u n) (book_at v n) (book_at w n) (b.books n) (c.books n);
    }

helps_one : (old n : ℕ) → Allows (HelpsOne old n) old
helps_one old n = record { delivery = λ k h. h; adjudication = λ k advice h. h; payer = λ p. tt }

helps_without : (old n : ℕ) → Allows (HelpsWithoutSwitch old n) old
helps_without old n = record { delivery = λ k h. h; adjudication = λ k advice h. h; payer = λ p. tt }

recovered_ends : (ctx : Context) (given : WorldSettings) (w : World) (id : TxnId) (request : List ℕ) (journal : JournalAtRest) → Reached ctx given w → Timely given → journal_at w id.pharmacy ≡ Some journal → IsOpen w id request → Answerable ctx w id request
    → EndedSoon ctx (HelpsOne (length w.packets) id.pharmacy) w id request journal.rule.again 3
recovered_ends ctx given w id request journal r timely there o answerable =
    recovers ctx given (HelpsOne (length w.packets) id.pharmacy) w id request journal r timely there o answerable (helps_one (length w.packets) id.pharmacy) refl (λ node. tt)

pub recovered : (ctx : Context) (given : WorldSettings) (w : World) (id : TxnId) (request : List ℕ) (journal : JournalAtRest) → Reached ctx given w → Timely given → journal_at w id.pharmacy ≡ Some journal → IsOpen w id request → Answerable ctx w id request → Recovered ctx w journal id
recovered ctx given w id request journal r timely there o answerable =
    recovered_by ctx (HelpsOne (length w.packets) id.pharmacy) w id request journal.rule.again 3 (recovered_ends ctx given w id request journal r timely there o answerable)

-- an end, told as a recovery with what it leaves
alone_by : (ctx : Context) (w : World) (journal : JournalAtRest) (id : TxnId) (request : List ℕ) → EndedSoon ctx (HelpsOne (length w.packets) id.pharmacy) w id request journal.rule.again 3 → RecoveredAlone ctx w journal id request
alone_by ctx w journal id request e =
    let x = e.ended in
    record {
      recovered = recovered_by ctx (HelpsOne (length w.packets) id.pharmacy) w id request journal.rule.again 3 e;
      others = subst (λ (v : World). LeavesOthers ctx w v id request) (sym x.path.leads) (left_by ctx id request x.answer w x.between x.world x.booked x.closed);
    }

pub recovered_alone : (ctx : Context) (given : WorldSettings) (w : World) (id : TxnId) (request : List ℕ) (journal : JournalAtRest) → Reached ctx given w → Timely given → journal_at w id.pharmacy ≡ Some journal → IsOpen w id request → Answerable ctx w id request → RecoveredAlone ctx w journal id request
recovered_alone ctx given w id request journal r timely there o answerable = alone_by ctx w journal id request (recovered_ends ctx given w id request journal r timely there o answerable)

pub recovered_through : (ctx : Context) (given : WorldSettings) (w : World) (id : TxnId) (request : List ℕ) (journal : JournalAtRest) (place m : ℕ) (table : Table) → Reached ctx given w → Timely given → journal_at w id.pharmacy ≡ Some journal → IsOpen w id request → Answerable ctx w id request
    → slice_get journal.rule.nodes place ≡ Some m → numbered w.switches m ≡ Some (Up table) → RecoveredThrough ctx w journal id
recovered_through ctx given w id request journal place m table r timely there o answerable listed up =
    recovered_by ctx (HelpsWithoutSwitch (length w.packets) id.pharmacy) w id request (circle journal.rule) 2
    (recovers_through ctx given (HelpsWithoutSwitch (length w.packets) id.pharmacy) w id request journal place m table r timely there o answerable listed up (helps_without (length w.packets) id.pharmacy) refl tt)
