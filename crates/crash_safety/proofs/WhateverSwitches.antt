-- What is promised of pharmacies and payers whatever switches are, at one moment and at two.
use Rattle.std.proofs.Common.{◌≡◌, ℕ, List, [], ◌∷◌, ◌++◌, map, Option, Some, None, refl, sym, ap, ◌∙◌, subst, ◌⊎◌, inl, inr}
use Rattle.claim_model.specs.Words.{TxnId, Envelope}
use Rattle.claim_model.specs.Context.{Context}
use Rattle.claim_model.specs.Readable.{readable, payer_for, rejection, is_request, answer_envelope}
use Rattle.claim_model.specs.Held.{decided, held}
use Rattle.claim_model.specs.Carried.{Carries, IsVouched}
use Rattle.claim_model.specs.Local.{Follows}
use Rattle.claim_model.specs.Laws.{Laws}
use Rattle.claim_model.specs.Node.{Node, Pharmacy, Switch, Payer, Call, Submit, Tick, Take, Stop, Start, Revise, Adjudicate, Sent, Outcome, Done, Refused}
use Rattle.claim_model.specs.World.{World, Packet, Event, packet_from, step, world_after, run}
use Rattle.claim_model.specs.Settings.{WorldSettings, Accepts, opening}
use Rattle.claim_model.specs.Nodes.{node_at, Asked, asked}
use Rattle.claim_model.specs.Logs.{Logged}
use Rattle.claim_model.specs.Promises.{Reached, OneStandingPayment, ReversedByOwner, CountedPaymentsStand, StandingAreCounted, StaysDecided}
use Rattle.claim_model.proofs.Lists.{all_at, all_weaker}
use Rattle.claim_model.proofs.Options.{same_ok}
use Rattle.claim_model.proofs.Ends.{Unchanged, One_call, ended}
use Rattle.claim_model.proofs.Serving.{packets_grow}
use Rattle.claim_model.proofs.Replaying.{run_unchanged}
use Rattle.claim_model.proofs.GoingOn.{run_append}
use Rattle.claim_model.proofs.Sound.{SoundPacket, Sound}
use Rattle.claim_model.proofs.Decided.{decided_unrouted}
use Rattle.claim_model.proofs.PharmacyStep.{carries_reads}
use Rattle.claim_model.proofs.SwitchStep.{request_says, carries_answer}
use Rattle.claim_model.proofs.Runs.{run_sound, reached_sound}
use Rattle.claim_model.proofs.Held.{one_answer}
use Rattle.claim_model.proofs.Stays.{stays_decided}
use Rattle.claim_model.proofs.Walking.{leads_from}
use Rattle.claim_model.proofs.Owners.{one_standing, reversed_by_owner}
use Rattle.claim_model.proofs.Counting.{counted_stand}
use Rattle.claim_model.proofs.CountedInFull.{standing_counted}
use Rattle.crash_safety.specs.Network.{Network, replayed, beginning}
use Rattle.crash_safety.specs.Runs.{IsAmong, on_disks}
use Rattle.crash_safety.specs.Explained.{Turn, log_among, packet, Heard, Answer as Heard_answer, Rejection as Heard_rejection, IsExplained, turns_by, outside}
use Rattle.crash_safety.specs.Greedy.{sent_among}
use Rattle.crash_safety.specs.Told.{ComesAgain, From_row, Fixed, IsFinal}
use Rattle.crash_safety.specs.Handing.{Happening, handing, OrdersDisks, AreOutside, WhateverSwitchesAre, LaterWhateverSwitchesAre, IsOutside, OneAnswerOutside, IsFinalOutside, ToldWhateverSwitchesAre}
use Rattle.crash_safety.proofs.Sound.{nothing_numbered}
use Rattle.crash_safety.proofs.Worlds.{same_world, reached}
use Rattle.crash_safety.proofs.Telling.{told_decided, final_at}
use Rattle.crash_safety.proofs.Lighter.{among_left, among_right}
use Rattle.crash_safety.proofs.Sources.{among_split, NoSwitch}
use Rattle.crash_safety.proofs.Explaining.{explained_goes}
use Rattle.crash_safety.proofs.Tracking.{outside_unchanged, outside_called, logs_outside}
use Rattle.crash_safety.proofs.Handed.{IsOrdered}
use Rattle.crash_safety.proofs.Happening.{happens_all, begins_ordered, all_append_after, orders}

-- ---- two moments of one run

record Parted (ctx : Context) (w : World) (events : List Event) (turns : List Turn) : Type 0 where
  first : List Event
  rest : List Event
  is : events ≡ first ++ rest
  are : outside ctx w first ≡ turns

nothing_first : (t : Turn) (turns : List Turn) (A : Type 0) → [] ≡ t ∷ turns → A
nothing_first t turns A e = absurd cc

same_turn : (t u : Turn) (ts us : List Turn) → t ∷ ts ≡ u ∷ us → t ≡ u
same_turn t u ts us e = cc

same_turns : (t u : Turn) (ts us : List Turn) → t ∷ ts ≡ u ∷ us → ts ≡ us
same_turns t u ts us e = cc

turns_by_one : (o : Option Asked) (e : Outcome World) → (turns_by o e ≡ []) ⊎ ((t : Turn) × (turns_by o e ≡ t ∷ []))
turns_by_one None e = inl refl
turns_by_one (Some a) (Refused why) = inl refl
turns_by_one (Some a) (Done next sent) = by_node a.node
  where
    by_node : (node : Node) → (Rattle.crash_safety.specs.Explained.turns_at node a.call sent ≡ []) ⊎ ((t : Turn) × (Rattle.crash_safety.specs.Explained.turns_at node a.call sent ≡ t ∷ []))
    by_node (Pharmacy n) = inr (_, refl)
    by_node (Switch n) = inl refl
    by_node (Payer n) = inr (_, refl)

part : (ctx : Context) (w : World) (events : List Event) (turns more : List Turn) → outside ctx w events ≡ turns ++ more → Parted ctx w events turns
part ctx w events [] more e = record { first = []; rest = events; is = refl; are = refl }
part ctx w [] (t ∷ turns) more e = nothing_first t (turns ++ more) (Parted ctx w [] (t ∷ turns)) e
part ctx w (event ∷ events) (t ∷ turns) more e =
    let v = world_after w (step ctx w event) in
    let now = turns_by (asked w.packets event) (step ctx w event) in
    elim (turns_by_one (asked w.packets event) (step ctx w event)) [
      | inl none ↦
          let p = part ctx v events (t ∷ turns) more (sym (ap (λ (ts : List Turn). ts ++ outside ctx v events) none) ∙ e) in
          record { first = event ∷ p.first; rest = p.rest; is = ap (λ (es : List Event). event ∷ es) p.is; are = ap (λ (ts : List Turn). ts ++ outside ctx v p.first) none ∙ p.are }
      | inr one ↦
          let f : one.0 ∷ outside ctx v events ≡ t ∷ (turns ++ more) = sym (ap (λ (ts : List Turn). ts ++ outside ctx v events) one.1) ∙ e in
          let p = part ctx v events turns more (same_turns one.0 t (outside ctx v events) (turns ++ more) f) in
          record {
            first = event ∷ p.first;
            rest = p.rest;
            is = ap (λ (es : List Event). event ∷ es) p.is;
            are = ap (λ (ts : List Turn). ts ++ outside ctx v p.first) one.1
                ∙ (ap (λ (ts : List Turn). one.0 ∷ ts) p.are ∙ ap (λ (u : Turn). u ∷ turns) (same_turn one.0 t (outside ctx v events) (turns ++ more) f));
          }
    ]

-- the packets of the turns are in the run
outside_sent : (ctx : Context) (w : World) (events : List Event) (p : Packet) → IsAmong (sent_among (outside ctx w events)) p → IsAmong (run ctx w events).packets p
outside_sent ctx w [] p a = absurd (nothing_numbered a.number p a.is)
outside_sent ctx w (event ∷ events) p a =
    elim (ended ctx w event) [
      | Unchanged why q ↦
          subst (λ (x : World). IsAmong x.packets p) (sym (run_unchanged ctx w event events (Refused why) q))
          (outside_sent ctx w events p (subst (λ (ts : List Turn). IsAmong (sent_among ts) p) (outside_unchanged ctx w event events why q) a))
      | One_call c v sent h q f ↦
          subst (λ (x : World). IsAmong x.packets p) (sym (run_unchanged ctx w event events (Done v sent) q))
          (by_call ctx w v events c.node c.call sent p f (subst (λ (ts : List Turn). IsAmong (sent_among ts) p) (outside_called ctx w v event events c sent h q) a) (outside_sent ctx v events p))
    ]
  where
    first_sent : (ctx : Context) (w v : World) (events : List Event) (node : Node) (call : Call) (sent : List Sent) (p : Packet) → Follows ctx w v node call sent → IsAmong (map (packet_from node) sent) p → IsAmong (run ctx v events).packets p
    first_sent ctx w v events node call sent p f a =
        let grown = packets_grow ctx v events in
        subst (λ (ps : List Packet). IsAmong ps p) (sym grown.is)
        (among_left v.packets grown.more p (subst (λ (ps : List Packet). IsAmong ps p) (sym f.posts) (among_right w.packets (map (packet_from node) sent) p a)))

    by_call : (ctx : Context) (w v : World) (events : List Event) (node : Node) (call : Call) (sent : List Sent) (p : Packet) → Follows ctx w v node call sent
        → IsAmong (sent_among (Rattle.crash_safety.specs.Explained.turns_at node call sent ++ outside ctx v events)) p → (IsAmong (sent_among (outside ctx v events)) p → IsAmong (run ctx v events).packets p) → IsAmong (run ctx v events).packets p
    by_call ctx w v events (Switch m) call sent p f a go = go a
    by_call ctx w v events (Pharmacy n) call sent p f a go =
        elim (among_split (map (packet_from (Pharmacy n)) sent) (sent_among (outside ctx v events)) p a) [
          | inl here ↦ first_sent ctx w v events (Pharmacy n) call sent p f here
          | inr later ↦ go later
        ]
    by_call ctx w v events (Payer n) call sent p f a go =
        elim (among_split (map (packet_from (Payer n)) sent) (sent_among (outside ctx v events)) p a) [
          | inl here ↦ first_sent ctx w v events (Payer n) call sent p f here
          | inr later ↦ go later
        ]

-- one run at two moments
record Moments (ctx : Context) (s : WorldSettings) (all more : List Happening) : Type 0 where
  turns : List Turn
  further : List Turn
  now : IsOrdered ctx s (handing ctx s all) turns
  later : IsOrdered ctx s (handing ctx s (all ++ more)) (turns ++ further)
  first : List Event
  rest : List Event
  are : outside ctx (opening s) first ≡ turns
  are_later : outside ctx (opening s) (first ++ rest) ≡ turns ++ further

moments : (ctx : Context) (s : WorldSettings) (all more : List Happening) → Laws ctx → Accepts ctx s → Moments ctx s all more
moments ctx s all more laws accepts =
    let first = happens_all ctx s beginning [] all laws accepts (begins_ordered ctx s) in
    let second = happens_all ctx s (handing ctx s all) first.more more laws accepts first.ordered in
    let later : IsOrdered ctx s (handing ctx s (all ++ more)) (first.more ++ second.more) = subst (λ (n : Network). IsOrdered ctx s n (first.more ++ second.more)) (sym (all_append_after ctx s beginning all more)) second.ordered in
    let g = explained_goes ctx s (first.more ++ second.more) laws accepts later.order in
    with_part ctx s all more first.more second.more first.ordered later g.events g.are (part ctx (opening s) g.events first.more second.more g.are)
  where
    with_part : (ctx : Context) (s : WorldSettings) (all more : List Happening) (turns further : List Turn) → IsOrdered ctx s (handing ctx s all) turns → IsOrdered ctx s (handing ctx s (all ++ more)) (turns ++ further) → (events : List Event)
        → outside ctx (opening s) events ≡ turns ++ further → Parted ctx (opening s) events turns → Moments ctx s all more
    with_part ctx s all more turns further now later events are p = record {
      turns = turns;
      further = further;
      now = now;
      later = later;
      first = p.first;
      rest = p.rest;
      are = p.are;
      are_later = ap (outside ctx (opening s)) (sym p.is) ∙ are;
    }

-- ---- promises

abbrev pub with_switches : World → World → World
with_switches r w = record { pharmacies = r.pharmacies; switches = w.switches; payers = r.payers; packets = w.packets }

node_is : (ctx : Context) (s : WorldSettings) (n : Network) (turns : List Turn) (events : List Event) (node : Node) → outside ctx (opening s) events ≡ turns → NoSwitch node → log_among turns node ≡ on_disks n node
    → node_at (run ctx (opening s) events) node ≡ replayed ctx s node (on_disks n node)
node_is ctx s n turns events node are d logs =
    leads_from ctx (opening s) events node (node_at (opening s) node) refl
    ∙ ap (λ (log : List Logged). replayed ctx s node log) (sym (logs_outside ctx (opening s) events node d) ∙ (ap (λ (ts : List Turn). log_among ts node) are ∙ logs))

world_is : (ctx : Context) (s : WorldSettings) (n : Network) (turns : List Turn) (w : World) (events : List Event) → outside ctx (opening s) events ≡ turns → OrdersDisks ctx s n turns → AreOutside ctx s n w → w ≡ with_switches (run ctx (opening s) events) w
world_is ctx s n turns w events are o a = same_world w (with_switches (run ctx (opening s) events) w) each
  where
    each : (node : Node) → node_at w node ≡ node_at (with_switches (run ctx (opening s) events) w) node
    each (Pharmacy k) = a.pharmacies k ∙ sym (node_is ctx s n turns events (Pharmacy k) are (λ m e. cc) (o.pharmacies k))
    each (Payer k) = a.payers k ∙ sym (node_is ctx s n turns events (Payer k) are (λ m e. cc) (o.payers k))
    each (Switch k) = refl

whatever : (P : Context → World → Type 0) → ((ctx : Context) (r w : World) → P ctx r → P ctx (with_switches r w)) → Rattle.claim_model.specs.Promises.Always P → WhateverSwitchesAre P
whatever P carry always = λ ctx s all w laws accepts a.
    let n = handing ctx s all in
    let x = happens_all ctx s beginning [] all laws accepts (begins_ordered ctx s) in
    let o = orders ctx s n x.more x.ordered in
    let g = explained_goes ctx s x.more laws accepts o.order in
    let r = run ctx (opening s) g.events in
    let reached : Reached ctx s r = record { laws = laws; accepts = accepts; events = g.events; leads = refl } in
    subst (P ctx) (sym (world_is ctx s n x.more w g.events g.are o a)) (carry ctx r w (always ctx s r reached))

one_standing_with : (ctx : Context) (r w : World) → OneStandingPayment ctx r → OneStandingPayment ctx (with_switches r w)
one_standing_with ctx r w o = record { one = o.one }

reversed_with : (ctx : Context) (r w : World) → ReversedByOwner ctx r → ReversedByOwner ctx (with_switches r w)
reversed_with ctx r w o = record {
  reversed = λ n b k q auth prescription book stands ruling.
      let x = o.reversed n b k q auth prescription book stands ruling in
      record { payment = x.payment; found = x.found; journal = x.journal; there = x.there; qualifier = x.qualifier; provider = x.provider };
}

counted_with : (ctx : Context) (r w : World) → CountedPaymentsStand ctx r → CountedPaymentsStand ctx (with_switches r w)
counted_with ctx r w o = record {
  counts = λ n j k c journal stands.
      let x = o.counts n j k c journal stands in
      record { book = x.book; there = x.there; payment = x.payment; found = x.found; fill = x.fill; amounts = x.amounts; reversed = x.reversed; reversals = x.reversals };
}

in_full_with : (ctx : Context) (r w : World) → StandingAreCounted ctx r → StandingAreCounted ctx (with_switches r w)
in_full_with ctx r w o = record { counted = o.counted }

pub one_standing_whatever : WhateverSwitchesAre OneStandingPayment
one_standing_whatever = whatever OneStandingPayment one_standing_with one_standing

pub reversed_whatever : WhateverSwitchesAre ReversedByOwner
reversed_whatever = whatever ReversedByOwner reversed_with reversed_by_owner

pub counted_whatever : WhateverSwitchesAre CountedPaymentsStand
counted_whatever = whatever CountedPaymentsStand counted_with counted_stand

pub in_full_whatever : WhateverSwitchesAre StandingAreCounted
in_full_whatever = whatever StandingAreCounted in_full_with standing_counted

-- ---- promises of two moments

later_whatever : (P : Context → World → World → Type 0) → ((ctx : Context) (r q w v : World) → P ctx r q → P ctx (with_switches r w) (with_switches q v)) → ((ctx : Context) (s : WorldSettings) (r : World) (events : List Event) → Reached ctx s r → P ctx r (run ctx r events))
    → LaterWhateverSwitchesAre P
later_whatever P carry always = λ ctx s all more w v laws accepts a b.
    let m = moments ctx s all more laws accepts in
    let r = run ctx (opening s) m.first in
    let q = run ctx (opening s) (m.first ++ m.rest) in
    let reached : Reached ctx s r = record { laws = laws; accepts = accepts; events = m.first; leads = refl } in
    let goes : P ctx r q = subst (P ctx r) (sym (run_append ctx (opening s) m.first m.rest)) (always ctx s r m.rest reached) in
    let is = world_is ctx s (handing ctx s all) m.turns w m.first m.are (orders ctx s (handing ctx s all) m.turns m.now) a in
    let later = world_is ctx s (handing ctx s (all ++ more)) (m.turns ++ m.further) v (m.first ++ m.rest) m.are_later (orders ctx s (handing ctx s (all ++ more)) (m.turns ++ m.further) m.later) b in
    subst (λ (x : World). P ctx x v) (sym is) (subst (P ctx (with_switches r w)) (sym later) (carry ctx r q w v goes))

held_same : (ctx : Context) (r w : World) (node : Node) (id : TxnId) → IsOutside node → held ctx (with_switches r w) node id ≡ held ctx r node id
unfolding held
held_same ctx r w (Pharmacy n) id d = refl
held_same ctx r w (Payer n) id d = refl
held_same ctx r w (Switch n) id d = absurd d

one_answer_with : (ctx : Context) (r q w v : World) → OneAnswerOutside ctx r q → OneAnswerOutside ctx (with_switches r w) (with_switches q v)
one_answer_with ctx r q w v o = record { bytes = λ a b id x y d e f g. o.bytes a b id x y d e (sym (held_same ctx r w a id d) ∙ f) (sym (held_same ctx q v b id e) ∙ g) }

pub one_answer_whatever : LaterWhateverSwitchesAre OneAnswerOutside
one_answer_whatever = later_whatever OneAnswerOutside one_answer_with (λ ctx s r events reached. record { bytes = λ a b id x y d e f g. (one_answer ctx s r events reached).bytes a b id x y f g })

stays_with : (r q w v : World) → StaysDecided r q → StaysDecided (with_switches r w) (with_switches q v)
stays_with r q w v o = record {
  journals = λ n j e. let x = o.journals n j e in record { journal = x.journal; there = x.there; number = x.number; settings = x.settings; entries = x.entries };
  books = λ n b e. let x = o.books n b e in record { book = x.book; there = x.there; payer = x.payer; settings = x.settings; more = x.more; rows = x.rows };
}

pub stays_whatever : LaterWhateverSwitchesAre (λ (ctx : Context) (w v : World). StaysDecided w v)
stays_whatever = later_whatever (λ (ctx : Context) (w v : World). StaysDecided w v) (λ ctx r q w v o. stays_with r q w v o) (λ ctx s r events reached. stays_decided ctx r events)

-- ---- what was told

carries_among : (ctx : Context) (s : WorldSettings) (v : World) (p : Packet) → Sound ctx s v → IsAmong v.packets p → Carries ctx v p.bytes
carries_among ctx s v p x a = all_at (SoundPacket ctx v) v.packets a.number p x.packets a.is

heard_carries : (ctx : Context) (s : WorldSettings) (v : World) (packets : List Packet) (n m : ℕ) (bytes : List ℕ) → Laws ctx → Sound ctx s v → ((p : Packet) → IsAmong packets p → IsAmong v.packets p) → Heard ctx packets n m bytes → Carries ctx v bytes
heard_carries ctx s v packets n m bytes laws x f (Heard_answer payer a) = carries_among ctx s v (packet (Payer payer) (Switch m) bytes) x (f (packet (Payer payer) (Switch m) bytes) a)
heard_carries ctx s v packets n m bytes laws x f (Heard_rejection request e h a reads asks readable_is route spelled) =
    let q = packet (Pharmacy n) (Switch m) request in
    let c = carries_among ctx s v q x (f q a) in
    let same : c.envelope ≡ e = same_ok c.envelope e (sym (carries_reads ctx v request laws c) ∙ reads) in
    let says = request_says ctx v request c (ap is_request same ∙ asks) in
    let reads_c : readable ctx c.envelope.payload ≡ Some h = ap (λ (y : Envelope). readable ctx y.payload) same ∙ readable_is in
    let d = decided_unrouted ctx v c.envelope.id c.envelope.payload h says reads_c (ap (λ (y : Envelope). payer_for ctx y.id h) same ∙ route) in
    subst (Carries ctx v) (ap (λ (y : Envelope). ctx.envelope (answer_envelope y.id (rejection ctx h))) same ∙ sym spelled) (carries_answer ctx s v request c (rejection ctx h) laws x d)

sound_explained : (ctx : Context) (s : WorldSettings) (v : World) (packets : List Packet) (n : ℕ) (call : Call) → Laws ctx → Sound ctx s v → ((p : Packet) → IsAmong packets p → IsAmong v.packets p) → IsExplained ctx packets (Pharmacy n) call → IsVouched ctx v call
sound_explained ctx s v packets n (Take from bytes) laws x f e = heard_carries ctx s v packets n e.0 bytes laws x f e.2
sound_explained ctx s v packets n (Submit text) laws x f e = tt
sound_explained ctx s v packets n Tick laws x f e = tt
sound_explained ctx s v packets n Stop laws x f e = tt
sound_explained ctx s v packets n Start laws x f e = tt
sound_explained ctx s v packets n (Revise revision) laws x f e = tt
sound_explained ctx s v packets n (Adjudicate from bytes advice) laws x f e = absurd e

again_with : (ctx : Context) (r w : World) (id : TxnId) (a : List ℕ) → ComesAgain ctx r id a → ComesAgain ctx (with_switches r w) id a
again_with ctx r w id a (From_row request h payer b asks reads route book is) = From_row request h payer b asks reads route book is
again_with ctx r w id a (Fixed request h asks reads route is) = Fixed request h asks reads route is

final_with : (ctx : Context) (r w : World) (id : TxnId) (a : List ℕ) → IsFinal ctx r id a → IsFinalOutside ctx (with_switches r w) id a
unfolding decided
final_with ctx r w id a f = record { decided_is = f.decided_is; only = λ node x d e. f.only node x (sym (held_same ctx r w node id d) ∙ e); again = again_with ctx r w id a f.again }

pub told_whatever : ToldWhateverSwitchesAre
told_whatever = λ ctx s all more id a w laws accepts told b.
    let m = moments ctx s all more laws accepts in
    let n = handing ctx s all in
    let node = Pharmacy id.pharmacy in
    let v = run ctx (opening s) m.first in
    let q = run ctx (opening s) (m.first ++ m.rest) in
    let sound = reached_sound ctx s v (reached ctx s m.first laws accepts) in
    let apart : NoSwitch node = λ k e. cc in
    let there = node_is ctx s n m.turns m.first node m.are apart (m.now.logs node apart) in
    let among : (p : Packet) → IsAmong (sent_among m.turns) p → IsAmong v.packets p = λ p x. outside_sent ctx (opening s) m.first p (subst (λ (ts : List Turn). IsAmong (sent_among ts) p) (sym m.are) x) in
    let well = m.now.each node apart in
    let calls = all_weaker (λ (l : Logged). IsExplained ctx (sent_among m.turns) node l.call) (λ (l : Logged). IsVouched ctx v l.call) (λ l x. sound_explained ctx s v (sent_among m.turns) id.pharmacy l.call laws sound among x) (n.at node).unsynced well.explained in
    let d = told_decided ctx s v n id a laws sound told there calls well.memory in
    let later : decided ctx q id ≡ Some a = subst (λ (x : World). decided ctx x id ≡ Some a) (sym (run_append ctx (opening s) m.first m.rest)) ((run_sound ctx s v m.rest laws accepts sound).later.decides id a d) in
    let final = final_at ctx s q id a laws (reached_sound ctx s q (reached ctx s (m.first ++ m.rest) laws accepts)) later in
    let is = world_is ctx s (handing ctx s (all ++ more)) (m.turns ++ m.further) w (m.first ++ m.rest) m.are_later (orders ctx s (handing ctx s (all ++ more)) (m.turns ++ m.further) m.later) b in
    subst (λ (x : World). IsFinalOutside ctx x id a) (sym is) (final_with ctx q w id a final)
