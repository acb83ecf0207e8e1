-- The first two stages of a recovery: the pharmacy is up, and a tick sends the open entry.
use Rattle.std.proofs.Common.{◌≡◌, ℕ, zero, suc, ◌+◌, ◌%◌, ◌<◌, ◌≤◌, List, [], map, length, Option, Some, None, slice_get, refl, sym, ap, ◌∙◌, subst, arith}
use Rattle.std.specs.Prelude.{option_map}
use Rattle.claim_model.specs.Words.{TxnId}
use Rattle.claim_model.specs.Context.{Context}
use Rattle.claim_model.specs.Readable.{request_envelope}
use Rattle.claim_model.specs.Numbered.{numbered}
use Rattle.claim_model.specs.Journal.{RetryRule, State, Waits, Has, Entry, Journal, JournalAtRest, Kept, circle, switch_at, sending, ticked_state, ticked, due, answer_in, kept_entry, stopped, started}
use Rattle.claim_model.specs.Node.{Pharmacy, Switch, Power, Up, AtRest, to_switch}
use Rattle.claim_model.specs.World.{World, Packet, Event, Ticking, Starting, packet_from}
use Rattle.claim_model.specs.Settings.{WorldSettings}
use Rattle.claim_model.specs.Held.{journal_in, journal_at}
use Rattle.claim_model.specs.Promises.{Reached}
use Rattle.claim_model.proofs.Lists.{numbered_map, numbered_put, get_map}
use Rattle.claim_model.proofs.Options.{map_some, then_some}
use Rattle.claim_model.proofs.Journals.{ticked_same, started_same}
use Rattle.claim_model.proofs.Sound.{with_pharmacy}
use Rattle.claim_model.proofs.Runs.{reached_sound}
use Rattle.claim_recovery.specs.Recovered.{IsOpen}
use Rattle.claim_recovery.proofs.Paths.{Path, path_none, path_then, path_tick, path_start, path_grows, reached_by}
use Rattle.claim_recovery.proofs.Forward.{start_pharmacy, tick_pharmacy}
use Rattle.claim_recovery.proofs.Unchanged.{Same, same_self, same_then, same_pharmacy}
use Rattle.claim_recovery.proofs.Phasing.{numbered_beyond, IsSent, due_has, phase_next, phase_here}

-- the pharmacy is up with an open entry
pub record IsWaiting (w : World) (id : TxnId) (request : List ℕ) : Type 0 where
  pub journal : Journal
  pub up : numbered w.pharmacies id.pharmacy ≡ Some (Up journal)
  pub phase : ℕ
  pub stands : numbered journal.entries id.number ≡ Some (record { request = request; state = Waits phase })

-- ---- the pharmacy is up

open_state : (j : Journal) (number : ℕ) (request asked : List ℕ) (s : State) → numbered j.entries number ≡ Some (record { request = asked; state = s }) → ◌≡◌ {A = Kept} (record { request = asked; answer = answer_in s }) (record { request = request; answer = None })
    → (phase : ℕ) × (numbered j.entries number ≡ Some (record { request = request; state = Waits phase }))
open_state j number request asked (Waits phase) is same =
    (phase, is ∙ ap (λ (r : List ℕ). Some (record { request = r; state = Waits phase })) (ap (λ (k : Kept). k.request) same))
open_state j number request asked (Has answer) is same = absurd (some_none (ap (λ (k : Kept). k.answer) same))
  where
    some_none : {a : List ℕ} → ◌≡◌ {A = Option (List ℕ)} (Some a) None → ⊥
    some_none h = cc

pub open_entry : (j : Journal) (number : ℕ) (request : List ℕ) → numbered (stopped j).entries number ≡ Some (record { request = request; answer = None })
    → (phase : ℕ) × (numbered j.entries number ≡ Some (record { request = request; state = Waits phase }))
unfolding stopped
open_entry j number request e =
    let m = map_some kept_entry (numbered j.entries number) (record { request = request; answer = None }) (sym (numbered_map kept_entry j.entries number) ∙ e) in
    open_state j number request m.0.request m.0.state m.1 m.2

pub record Woken (ctx : Context) (may : Event → Type 0) (w : World) (id : TxnId) (request : List ℕ) : Type 0 where
  pub world : World
  pub starts : ℕ
  pub few : starts ≤ 1
  pub path : Path ctx may w world 0 0 starts
  pub same : Same id.pharmacy w world
  pub switches : world.switches ≡ w.switches
  pub waits : IsWaiting world id request

woken_by : (ctx : Context) (may : Event → Type 0) (w : World) (id : TxnId) (request : List ℕ) (s : Power Journal JournalAtRest) → may (Starting (Pharmacy id.pharmacy)) → numbered w.pharmacies id.pharmacy ≡ Some s
    → numbered (journal_in s).entries id.number ≡ Some (record { request = request; answer = None }) → Woken ctx may w id request
woken_by ctx may w id request (Up j) m is stands =
    let e = open_entry j id.number request stands in
    record {
      world = w;
      starts = 0;
      few = omega arith;
      path = path_none ctx may w;
      same = same_self id.pharmacy w;
      switches = refl;
      waits = record { journal = j; up = is; phase = e.0; stands = e.1 };
    }
woken_by ctx may w id request (AtRest j) m is stands =
    let n : ℕ = id.pharmacy in
    let e = open_entry (started j) id.number request (subst (λ (x : JournalAtRest). numbered x.entries id.number ≡ Some (record { request = request; answer = None })) (sym (started_same j)) stands) in
    record {
      world = with_pharmacy w n (Up (started j)) [];
      starts = 1;
      few = omega arith;
      path = path_start ctx may w (with_pharmacy w n (Up (started j)) []) (Pharmacy n) [] m (start_pharmacy ctx w n j is);
      same = same_pharmacy w n (AtRest j) (Up (started j)) [] is (started_same j);
      switches = refl;
      waits = record { journal = started j; up = numbered_put w.pharmacies n (AtRest j) (Up (started j)) is; phase = e.0; stands = e.1 };
    }

-- the pharmacy of an open entry is up, or is started
pub woken : (ctx : Context) (may : Event → Type 0) (w : World) (id : TxnId) (request : List ℕ) → may (Starting (Pharmacy id.pharmacy)) → IsOpen w id request → Woken ctx may w id request
woken ctx may w id request m o =
    let j = then_some (λ (q : JournalAtRest). numbered q.entries id.number) (journal_at w id.pharmacy) (record { request = request; answer = None }) o in
    let s = map_some journal_in (numbered w.pharmacies id.pharmacy) j.0 j.1 in
    woken_by ctx may w id request s.0 m s.1 (subst (λ (x : JournalAtRest). numbered x.entries id.number ≡ Some (record { request = request; answer = None })) (sym s.2) j.2)

-- ---- ticks

-- after this many ticks
pub record Ticked (ctx : Context) (may : Event → Type 0) (w : World) (id : TxnId) (request : List ℕ) (rule : RetryRule) (phase ticks : ℕ) : Type 0 where
  pub world : World
  pub path : Path ctx may w world ticks 0 0
  pub same : Same id.pharmacy w world
  pub switches : world.switches ≡ w.switches
  pub journal : Journal
  pub up : numbered world.pharmacies id.pharmacy ≡ Some (Up journal)
  pub rule_is : journal.rule ≡ rule
  pub stands : numbered journal.entries id.number ≡ Some (record { request = request; state = Waits ((phase + ticks) % circle rule) })

ticked_entry : (j : Journal) (number phase : ℕ) (request : List ℕ) → numbered j.entries number ≡ Some (record { request = request; state = Waits phase })
    → numbered (ticked j).entries number ≡ Some (record { request = request; state = Waits ((phase + 1) % circle j.rule) })
unfolding ticked
ticked_entry j number phase request e =
    numbered_map (λ (x : Entry). record { request = x.request; state = ticked_state (circle j.rule) x.state }) j.entries number
    ∙ ap (option_map (λ (x : Entry). record { request = x.request; state = ticked_state (circle j.rule) x.state })) e

ticked_rule : (j : Journal) → (ticked j).rule ≡ j.rule
unfolding ticked
ticked_rule j = refl

-- one tick more
tick_more : (ctx : Context) (may : Event → Type 0) (w : World) (id : TxnId) (request : List ℕ) (rule : RetryRule) (phase ticks : ℕ) → may (Ticking id.pharmacy) → Ticked ctx may w id request rule phase ticks
    → Ticked ctx may w id request rule phase (suc ticks)
tick_more ctx may w id request rule phase ticks m t =
    let n : ℕ = id.pharmacy in
    let j : Journal = t.journal in
    let sent = map to_switch (due ctx (ticked j)) in
    let v : World = with_pharmacy t.world n (Up (ticked j)) sent in
    let count : ticks + 1 ≡ suc ticks = omega arith in
    let one : Path ctx may t.world v 1 0 0 = path_tick ctx may t.world v n sent m (tick_pharmacy ctx t.world n j t.up) in
    let next : numbered (ticked j).entries id.number ≡ Some (record { request = request; state = Waits (((phase + ticks) % circle rule + 1) % circle rule) }) =
    subst (λ (s : RetryRule). numbered (ticked j).entries id.number ≡ Some (record { request = request; state = Waits (((phase + ticks) % circle rule + 1) % circle s) })) t.rule_is
    (ticked_entry j id.number ((phase + ticks) % circle rule) request t.stands) in
    record {
      world = v;
      path = subst (λ (k : ℕ). Path ctx may w v k 0 0) count (path_then ctx may w t.world v ticks 0 0 1 0 0 t.path one);
      same = same_then n w t.world v t.same (same_pharmacy t.world n (Up j) (Up (ticked j)) sent t.up (ticked_same j));
      switches = t.switches;
      journal = ticked j;
      up = numbered_put t.world.pharmacies n (Up j) (Up (ticked j)) t.up;
      rule_is = ticked_rule j ∙ t.rule_is;
      stands = next ∙ ap (λ (x : ℕ). Some (record { request = request; state = Waits x })) (phase_next phase ticks (circle rule));
    }

pub ticks_on : (ctx : Context) (may : Event → Type 0) (w : World) (id : TxnId) (request : List ℕ) (ticks : ℕ) → may (Ticking id.pharmacy) → (x : IsWaiting w id request) → x.phase < circle x.journal.rule
    → Ticked ctx may w id request x.journal.rule x.phase ticks
ticks_on ctx may w id request zero m x below =
    record {
      world = w;
      path = path_none ctx may w;
      same = same_self id.pharmacy w;
      switches = refl;
      journal = x.journal;
      up = x.up;
      rule_is = refl;
      stands = x.stands ∙ ap (λ (p : ℕ). Some (record { request = request; state = Waits p })) (sym (phase_here x.phase (circle x.journal.rule) below));
    }
ticks_on ctx may w id request (suc ticks) m x below = tick_more ctx may w id request x.journal.rule x.phase ticks m (ticks_on ctx may w id request ticks m x below)

-- ---- the entry is sent

-- a packet with the request was sent to a switch, after the first `old` ones
pub record IsAsked (ctx : Context) (w : World) (old : ℕ) (id : TxnId) (request : List ℕ) (m : ℕ) : Type 0 where
  pub packet : ℕ
  pub fresh : old < packet
  pub stands : numbered w.packets packet ≡ Some (record { from = Pharmacy id.pharmacy; to = Switch m; bytes = ctx.envelope (request_envelope id request) })

pub record Asked (ctx : Context) (may : Event → Type 0) (w : World) (id : TxnId) (request : List ℕ) (ticks m : ℕ) : Type 0 where
  pub world : World
  pub path : Path ctx may w world ticks 0 0
  pub same : Same id.pharmacy w world
  pub switches : world.switches ≡ w.switches
  pub waits : IsWaiting world id request
  pub asks : IsAsked ctx world (length w.packets) id request m

ticked_number : (j : Journal) → (ticked j).number ≡ (stopped j).number
unfolding ticked stopped
ticked_number j = refl

-- the packet of a sending, by the pharmacy's number and the switch of the phase
packet_is : (ctx : Context) (j : Journal) (n number phase m : ℕ) (request : List ℕ) → j.number ≡ n → switch_at j.rule phase ≡ m
    → ◌≡◌ {A = Option Packet} (Some (packet_from (Pharmacy n) (to_switch (sending ctx j number phase request)))) (Some (record { from = Pharmacy n; to = Switch m; bytes = ctx.envelope (request_envelope (record { pharmacy = n; number = number }) request) }))
packet_is ctx j n number phase m request mine to =
    ap (λ (k : ℕ). Some (record { from = Pharmacy n; to = Switch k; bytes = ctx.envelope (request_envelope (record { pharmacy = j.number; number = number }) request) })) to
    ∙ ap (λ (k : ℕ). Some (record { from = Pharmacy n; to = Switch m; bytes = ctx.envelope (request_envelope (record { pharmacy = k; number = number }) request) })) mine

-- the tick at which the phase is a multiple of again sends the request to the switch of that phase
pub asked_at : (ctx : Context) (given : WorldSettings) (may : Event → Type 0) (w : World) (id : TxnId) (request : List ℕ) (ticks phase m : ℕ) → Reached ctx given w → may (Ticking id.pharmacy) → (x : IsWaiting w id request) → x.phase < circle x.journal.rule
    → (x.phase + suc ticks) % circle x.journal.rule ≡ phase → phase % x.journal.rule.again ≡ 0 → switch_at x.journal.rule phase ≡ m → Asked ctx may w id request (suc ticks) m
asked_at ctx given may w id request ticks phase m r ok x below at_phase is_due to =
    let n : ℕ = id.pharmacy in
    let s : RetryRule = x.journal.rule in
    let t = ticks_on ctx may w id request ticks ok x below in
    let j : Journal = t.journal in
    let sent = map to_switch (due ctx (ticked j)) in
    let v : World = with_pharmacy t.world n (Up (ticked j)) sent in
    let rule : (ticked j).rule ≡ s = ticked_rule j ∙ t.rule_is in
    let count : ticks + 1 ≡ suc ticks = omega arith in
    let path : Path ctx may w v (suc ticks) 0 0 =
    subst (λ (k : ℕ). Path ctx may w v k 0 0) count (path_then ctx may w t.world v ticks 0 0 1 0 0 t.path (path_tick ctx may t.world v n sent ok (tick_pharmacy ctx t.world n j t.up))) in
    let next : numbered (ticked j).entries id.number ≡ Some (record { request = request; state = Waits (((x.phase + ticks) % circle s + 1) % circle s) }) =
    subst (λ (q : RetryRule). numbered (ticked j).entries id.number ≡ Some (record { request = request; state = Waits (((x.phase + ticks) % circle s + 1) % circle q) })) t.rule_is
    (ticked_entry j id.number ((x.phase + ticks) % circle s) request t.stands) in
    let stands : numbered (ticked j).entries id.number ≡ Some (record { request = request; state = Waits phase }) =
    next ∙ ap (λ (p : ℕ). Some (record { request = request; state = Waits p })) (phase_next x.phase ticks (circle s) ∙ at_phase) in
    let is_sent : IsSent ctx (ticked j) id.number phase request (due ctx (ticked j)) =
    due_has ctx (ticked j) id.number phase request stands (ap (λ (q : RetryRule). phase % q.again) rule ∙ is_due) in
    let up : numbered v.pharmacies n ≡ Some (Up (ticked j)) = numbered_put t.world.pharmacies n (Up j) (Up (ticked j)) t.up in
    let number : (ticked j).number ≡ n = ticked_number j ∙ ((reached_sound ctx given t.world (reached_by ctx given may w t.world ticks 0 0 r t.path)).pharmacies n (Up j) t.up).number in
    let grown = path_grows ctx may w t.world ticks 0 0 t.path in
    let place : slice_get (map (packet_from (Pharmacy n)) sent) is_sent.place ≡ Some (packet_from (Pharmacy n) (to_switch (sending ctx (ticked j) id.number phase request))) =
    get_map (packet_from (Pharmacy n)) sent is_sent.place ∙ ap (option_map (packet_from (Pharmacy n))) (get_map to_switch (due ctx (ticked j)) is_sent.place ∙ ap (option_map to_switch) is_sent.stands) in
    let packet : numbered v.packets (length t.world.packets + is_sent.place + 1) ≡ Some (packet_from (Pharmacy n) (to_switch (sending ctx (ticked j) id.number phase request))) =
    numbered_beyond t.world.packets (map (packet_from (Pharmacy n)) sent) is_sent.place _ place in
    let switch : switch_at (ticked j).rule phase ≡ m = ap (λ (q : RetryRule). switch_at q phase) rule ∙ to in
    record {
      world = v;
      path = path;
      same = same_then n w t.world v t.same (same_pharmacy t.world n (Up j) (Up (ticked j)) sent t.up (ticked_same j));
      switches = t.switches;
      waits = record { journal = ticked j; up = up; phase = phase; stands = stands };
      asks = record {
        packet = length t.world.packets + is_sent.place + 1;
        fresh = omega (arith, grown);
        stands = packet ∙ packet_is ctx (ticked j) n id.number phase m request number switch;
      };
    }
