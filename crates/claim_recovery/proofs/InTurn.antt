-- Each place of a pharmacy's list comes within one circle of ticks.
use Rattle.std.proofs.Common.{◌≡◌, ℕ, suc, ◌*◌, List, [], ◌∷◌, length, Option, Some, slice_get, refl, sym, ap, ◌∙◌, arith}
use Rattle.std.specs.Prelude.{option_map, option_and_then}
use Rattle.std.specs.List.{AllByRecursion}
use Rattle.claim_model.specs.Words.{TxnId}
use Rattle.claim_model.specs.Context.{Context}
use Rattle.claim_model.specs.Numbered.{numbered}
use Rattle.claim_model.specs.Journal.{Journal, JournalAtRest, circle}
use Rattle.claim_model.specs.Readable.{request_envelope}
use Rattle.claim_model.specs.Node.{Pharmacy, Switch, Power, Up}
use Rattle.claim_model.specs.World.{World, Packet, Event, Submission, Ticking, Delivery, Stopping, Starting, Revising, Adjudication, run}
use Rattle.claim_model.specs.Settings.{WorldSettings}
use Rattle.claim_model.specs.Held.{journal_in}
use Rattle.claim_model.specs.Promises.{Reached}
use Rattle.claim_model.proofs.Lists.{get_within}
use Rattle.claim_recovery.specs.Help.{Timely, is_tick, how_many}
use Rattle.claim_recovery.specs.Recovered.{IsOpen}
use Rattle.claim_recovery.specs.Turn.{IsTickOf, SentTo}
use Rattle.claim_recovery.proofs.Phasing.{turn, turn_due, turn_switch}
use Rattle.claim_recovery.proofs.Waits.{IsWaiting, open_entry, Asked, asked_at}
use Rattle.claim_recovery.proofs.Course.{timely_at, below_circle}

-- ticks alone are as many as the list is long
ticks_alone : (n : ℕ) (events : List Event) → AllByRecursion (IsTickOf n) events → how_many is_tick events ≡ length events
ticks_alone n [] all = refl
ticks_alone n (Submission m text ∷ events) all = absurd all.0
ticks_alone n (Ticking m ∷ events) all = ap suc (ticks_alone n events all.1)
ticks_alone n (Delivery k ∷ events) all = absurd all.0
ticks_alone n (Stopping node ∷ events) all = absurd all.0
ticks_alone n (Starting node ∷ events) all = absurd all.0
ticks_alone n (Revising m change ∷ events) all = absurd all.0
ticks_alone n (Adjudication k advice ∷ events) all = absurd all.0

stands_by : (u v : World) (k : ℕ) (p : Packet) → u ≡ v → numbered v.packets k ≡ Some p → numbered u.packets k ≡ Some p
stands_by u v k p e stands = ap (λ (x : World). numbered x.packets k) e ∙ stands

pub sent_in_turn : (ctx : Context) (given : WorldSettings) (w : World) (id : TxnId) (request : List ℕ) (j : Journal) (place switch : ℕ) → Reached ctx given w → Timely given → numbered w.pharmacies id.pharmacy ≡ Some (Up j) → IsOpen w id request → slice_get j.rule.nodes place ≡ Some switch
    → SentTo ctx w id request switch (circle j.rule)
sent_in_turn ctx given w id request j place switch r timely up o listed =
    let n : ℕ = id.pharmacy in
    let e = open_entry j id.number request (sym (ap (λ (q : Option (Power Journal JournalAtRest)). option_and_then (λ (q : JournalAtRest). numbered q.entries id.number) (option_map journal_in q)) up) ∙ o) in
    let x : IsWaiting w id request = record { journal = j; up = up; phase = e.0; stands = e.1 } in
    let t = timely_at ctx given w id request r timely x in
    let its = turn j.rule e.0 place t.again t.tries (below_circle ctx given w id request r timely x) (get_within j.rule.nodes place switch listed) in
    let a : Asked ctx (IsTickOf n) w id request (suc its.ticks) switch =
    asked_at ctx given (IsTickOf n) w id request its.ticks (place * (j.rule.again * j.rule.tries)) switch r refl x (below_circle ctx given w id request r timely x) its.there (turn_due j.rule place) (turn_switch j.rule place switch t.again t.tries listed) in
    let count = ticks_alone n a.path.events a.path.help in
    let ticks = a.path.ticks_are in
    let few = its.few in
    record {
      events = a.path.events;
      done = a.path.done;
      ticks_alone = a.path.help;
      few = omega (arith, count, ticks, few);
      packet = a.asks.packet;
      fresh = a.asks.fresh;
      stands = stands_by (run ctx w a.path.events) a.world a.asks.packet (record { from = Pharmacy n; to = Switch switch; bytes = ctx.envelope (request_envelope id request) }) a.path.leads a.asks.stands;
    }
