-- A network in which switches have no disk, beside one in which each call of a switch is synced as soon as it is made, and a death is a stop, the cap of the settings, and a start.
use Rattle.std.proofs.Common.{◌≡◌, ℕ, cond, List, [], ◌∷◌, ◌++◌, map, Option, Some, None, refl, sym, ap, ◌∙◌, subst}
use Rattle.std.specs.Prelude.{option_map, flat_map}
use Rattle.std.specs.List.{AllByRecursion}
use Rattle.std.proofs.lemmas.List.{map-append}
use Rattle.std.proofs.lemmas.Grind.{flat_map-append}
use Rattle.claim_model.specs.Context.{Context}
use Rattle.claim_model.specs.Numbered.{numbered}
use Rattle.claim_model.specs.Node.{Node, Pharmacy, Switch, Payer, OfCap, Up, AtRest, Call, Stop, Start, Revise, Outcome, Done, Refused}
use Rattle.claim_model.specs.World.{Packet, Event, Stopping, Starting, Revising, packet_from}
use Rattle.claim_model.specs.Settings.{WorldSettings, opening}
use Rattle.claim_model.specs.Nodes.{AnyNode, OfPharmacy, OfSwitch, OfPayer, node_step, node_at, same_node, Asked, asked}
use Rattle.claim_model.specs.Logs.{Logged, node_after, replay, Makes, posted_by}
use Rattle.claim_model.proofs.Lists.{numbered_append, all_at, all_append, all_weaker, all_from}
use Rattle.claim_model.proofs.Options.{same_some}
use Rattle.crash_safety.specs.Network.{Process, Network, Move, Calling, Syncing, Saying, Crashing, Restarting, file, replayed, put, after_call, calls, calling, one_synced, saying, crashed, restarted, beginning, moved, after, network}
use Rattle.crash_safety.specs.Runs.{IsAmong}
use Rattle.crash_safety.specs.Diskless.{moved_light, after_light, light, or_else}
use Rattle.crash_safety.proofs.Replaying.{replay_more, makes_more}
use Rattle.crash_safety.proofs.Sound.{at_each}
use Rattle.crash_safety.proofs.Moving.{some_is}
use Rattle.crash_safety.proofs.Courses.{after_append, one_further}
use Rattle.crash_safety.proofs.Appending.{Appended, appends_by, append_one}
use Rattle.crash_safety.proofs.Caps.{IsSwitch, replay_stays, empty_switch, opens_empty}

-- packets among more

pub among_left : (xs ys : List Packet) (p : Packet) → IsAmong xs p → IsAmong (xs ++ ys) p
among_left xs ys p a = record { number = a.number; is = numbered_append xs ys a.number p a.is }

pub among_right : (xs ys : List Packet) (p : Packet) → IsAmong ys p → IsAmong (xs ++ ys) p
among_right [] ys p a = a
among_right (x ∷ xs) ys p a = one_further (xs ++ ys) p x (among_right xs ys p a)

pub all_themselves : (xs : List Packet) → AllByRecursion (IsAmong xs) xs
all_themselves xs = all_from (IsAmong xs) xs (λ n p e. record { number = n; is = e })

pub posted_append : (node : Node) (a b : List Logged) → posted_by node (a ++ b) ≡ posted_by node a ++ posted_by node b
posted_append node a b = ap (map (packet_from node)) (flat_map-append (λ (l : Logged). l.sent) a b) ∙ map-append (packet_from node) (flat_map (λ (l : Logged). l.sent) a) (flat_map (λ (l : Logged). l.sent) b)

-- what was sent stays among what a longer log sent
sent_longer : (node : Node) (short long : List Logged) (l : Logged) → AllByRecursion (IsAmong (posted_by node long)) (posted_by node short)
    → AllByRecursion (IsAmong (posted_by node (long ++ l ∷ []))) (posted_by node (short ++ l ∷ []))
sent_longer node short long l all =
    let one = posted_by node (l ∷ []) in
    let old = posted_by node long in
    subst (λ (ps : List Packet). AllByRecursion (IsAmong ps) (posted_by node (short ++ l ∷ []))) (sym (posted_append node long (l ∷ [])))
    (subst (AllByRecursion (IsAmong (old ++ one))) (sym (posted_append node short (l ∷ [])))
    (all_append (IsAmong (old ++ one)) (posted_by node short) one
    (all_weaker (IsAmong old) (IsAmong (old ++ one)) (λ p a. among_left old one p a) (posted_by node short) all)
    (all_weaker (IsAmong one) (IsAmong (old ++ one)) (λ p a. among_right old one p a) one (all_themselves one))))

-- a switch of the network with disks, all of whose calls are synced, and which is this node
pub record Stage (ctx : Context) (s : WorldSettings) (m : Network) (k : ℕ) (before now : AnyNode) : Type 0 where
  pub opens : node_at (opening s) (Switch k) ≡ Some before
  pub idle : (m.at (Switch k)).unsynced ≡ []
  pub makes : Makes ctx before (m.at (Switch k)).synced
  pub is : replay ctx before (m.at (Switch k)).synced ≡ now

-- one call more
pub record Staged (ctx : Context) (s : WorldSettings) (m : Network) (k : ℕ) (before next : AnyNode) (l : Logged) (event : Event) : Type 0 where
  pub stage : Stage ctx s (after ctx s m (appends_by (Switch k) event)) k before next
  pub appended : Appended m (after ctx s m (appends_by (Switch k) event)) (Switch k) l

pub staged : (ctx : Context) (s : WorldSettings) (m : Network) (k : ℕ) (before now next : AnyNode) (l : Logged) (event : Event) → Stage ctx s m k before now → node_step ctx now l.call ≡ Done next l.sent
    → asked m.wire event ≡ Some (record { node = Switch k; call = l.call }) → Staged ctx s m k before next l event
staged ctx s m k before now next l event st steps asks =
    let log = (m.at (Switch k)).synced in
    let here : node_step ctx (replay ctx before log) l.call ≡ Done next l.sent = ap (λ (x : AnyNode). node_step ctx x l.call) st.is ∙ steps in
    let makes = makes_more ctx before next log l st.makes here in
    let a = append_one ctx s m (Switch k) before l event st.idle st.opens makes asks in
    record {
      stage = record {
        opens = st.opens;
        idle = a.idle;
        makes = subst (Makes ctx before) (sym a.own) makes;
        is = ap (replay ctx before) a.own ∙ (replay_more ctx before log l ∙ ap (node_after (replay ctx before log)) here);
      };
      appended = a;
    }

-- a switch that begins anew
pub record Fresh (ctx : Context) (s : WorldSettings) (m : Network) (k : ℕ) (before : AnyNode) : Type 0 where
  pub more : List Move
  pub stage : Stage ctx s (after ctx s m more) k before before
  pub others : (other : Node) → (Switch k ≡ other → ⊥) → (after ctx s m more).at other ≡ m.at other
  pub wire : (after ctx s m more).wire ≡ m.wire

-- it is so by now
anew : (ctx : Context) (s : WorldSettings) (m : Network) (k : ℕ) (before : AnyNode) → Stage ctx s m k before before → Fresh ctx s m k before
anew ctx s m k before st = record { more = []; stage = st; others = λ other d. refl; wire = refl }

-- after one call more
further : (ctx : Context) (s : WorldSettings) (m : Network) (k : ℕ) (before next : AnyNode) (l : Logged) (event : Event) → Staged ctx s m k before next l event → Fresh ctx s (after ctx s m (appends_by (Switch k) event)) k before
    → Fresh ctx s m k before
further ctx s m k before next l event one rest =
    let moves = appends_by (Switch k) event in
    let joined : after ctx s m (moves ++ rest.more) ≡ after ctx s (after ctx s m moves) rest.more = after_append ctx s m moves rest.more in
    record {
      more = moves ++ rest.more;
      stage = subst (λ (x : Network). Stage ctx s x k before before) (sym joined) rest.stage;
      others = λ other d. ap (λ (x : Network). x.at other) joined ∙ (rest.others other d ∙ one.appended.others other d);
      wire = ap (λ (x : Network). x.wire) joined ∙ (rest.wire ∙ one.appended.wire);
    }

-- from rest: the cap that its settings gave it, and a start
started_from : (ctx : Context) (s : WorldSettings) (m : Network) (k c rest : ℕ) (before : AnyNode) → before ≡ empty_switch c → Stage ctx s m k before (OfSwitch (AtRest rest)) → Fresh ctx s m k before
started_from ctx s m k c rest before is st =
    let capped = after ctx s m (appends_by (Switch k) (Revising (Switch k) (OfCap c))) in
    let one = staged ctx s m k before (OfSwitch (AtRest rest)) (OfSwitch (AtRest c)) (record { call = Revise (OfCap c); sent = [] }) (Revising (Switch k) (OfCap c)) st refl refl in
    let two = staged ctx s capped k before (OfSwitch (AtRest c)) before (record { call = Start; sent = [] }) (Starting (Switch k)) one.stage (ap (λ (x : AnyNode). Done x []) (sym is)) refl in
    further ctx s m k before (OfSwitch (AtRest c)) (record { call = Revise (OfCap c); sent = [] }) (Revising (Switch k) (OfCap c)) one
    (further ctx s capped k before before (record { call = Start; sent = [] }) (Starting (Switch k)) two
    (anew ctx s (after ctx s capped (appends_by (Switch k) (Starting (Switch k)))) k before two.stage))

fresh_power : (ctx : Context) (s : WorldSettings) (m : Network) (k c : ℕ) (before : AnyNode) (now : AnyNode) → before ≡ empty_switch c → IsSwitch now → Stage ctx s m k before now → Fresh ctx s m k before
fresh_power ctx s m k c before (OfPharmacy node) is switch st = absurd switch
fresh_power ctx s m k c before (OfPayer node) is switch st = absurd switch
fresh_power ctx s m k c before (OfSwitch (AtRest rest)) is switch st = started_from ctx s m k c rest before is st
fresh_power ctx s m k c before (OfSwitch (Up t)) is switch st =
    let one = staged ctx s m k before (OfSwitch (Up t)) (OfSwitch (AtRest t.cap)) (record { call = Stop; sent = [] }) (Stopping (Switch k)) st refl refl in
    further ctx s m k before (OfSwitch (AtRest t.cap)) (record { call = Stop; sent = [] }) (Stopping (Switch k)) one
    (started_from ctx s (after ctx s m (appends_by (Switch k) (Stopping (Switch k)))) k c t.cap before is one.stage)

pub fresh : (ctx : Context) (s : WorldSettings) (m : Network) (k : ℕ) (before now : AnyNode) → Stage ctx s m k before now → Fresh ctx s m k before
fresh ctx s m k before now st =
    let e = opens_empty s k before st.opens in
    let switch : IsSwitch before = subst IsSwitch (sym e.1) tt in
    fresh_power ctx s m k e.0 before now e.1 (subst IsSwitch st.is (replay_stays ctx before (m.at (Switch k)).synced switch)) st

-- a process of a switch without a disk, and the one with a disk
pub record IsSwitchBeside (ctx : Context) (s : WorldSettings) (k : ℕ) (p q : Process) : Type 0 where
  pub idle : q.unsynced ≡ []
  pub nothing : p.synced ≡ []
  pub stands : replayed ctx s (Switch k) q.synced ≡ or_else p.memory (node_at (opening s) (Switch k))
  pub makes : (before : AnyNode) → node_at (opening s) (Switch k) ≡ Some before → Makes ctx before q.synced
  pub sent : AllByRecursion (IsAmong (posted_by (Switch k) q.synced)) (posted_by (Switch k) p.unsynced)

-- a network without disks at switches, and one with them
pub record IsBeside (ctx : Context) (s : WorldSettings) (n m : Network) : Type 0 where
  pub wire : m.wire ≡ n.wire
  pub pharmacies : (k : ℕ) → m.at (Pharmacy k) ≡ n.at (Pharmacy k)
  pub switches : (k : ℕ) → IsSwitchBeside ctx s k (n.at (Switch k)) (m.at (Switch k))
  pub payers : (k : ℕ) → m.at (Payer k) ≡ n.at (Payer k)

-- the moves by which the one with disks catches up
pub record Catches (ctx : Context) (s : WorldSettings) (n m : Network) : Type 0 where
  pub more : List Move
  pub is : IsBeside ctx s n (after ctx s m more)

module _ (ctx : Context) (s : WorldSettings) where
  put_pharmacy : (n m : Network) (k : ℕ) (p q : Process) → IsBeside ctx s n m → q ≡ p → IsBeside ctx s (put n (Pharmacy k) p) (put m (Pharmacy k) q)
  put_pharmacy n m k p q i e = record {
    wire = i.wire;
    pharmacies = λ j.
        ap (λ (x : Process). cond (same_node (Pharmacy k) (Pharmacy j)) x (m.at (Pharmacy j))) e
        ∙ ap (λ (x : Process). cond (same_node (Pharmacy k) (Pharmacy j)) p x) (i.pharmacies j);
    switches = i.switches;
    payers = i.payers;
  }

  put_payer : (n m : Network) (k : ℕ) (p q : Process) → IsBeside ctx s n m → q ≡ p → IsBeside ctx s (put n (Payer k) p) (put m (Payer k) q)
  put_payer n m k p q i e = record {
    wire = i.wire;
    pharmacies = i.pharmacies;
    switches = i.switches;
    payers = λ j.
        ap (λ (x : Process). cond (same_node (Payer k) (Payer j)) x (m.at (Payer j))) e
        ∙ ap (λ (x : Process). cond (same_node (Payer k) (Payer j)) p x) (i.payers j);
  }

  same_number : (k j : ℕ) → Switch k ≡ Switch j → k ≡ j
  same_number k j e = cc

  no_pharmacy : (k j : ℕ) → Switch k ≡ Pharmacy j → ⊥
  no_pharmacy k j e = cc

  no_payer : (k j : ℕ) → Switch k ≡ Payer j → ⊥
  no_payer k j e = cc

  put_switch : (n m l : Network) (k : ℕ) (p : Process) → IsBeside ctx s n m → IsSwitchBeside ctx s k p (l.at (Switch k)) → ((other : Node) → (Switch k ≡ other → ⊥) → l.at other ≡ m.at other) → l.wire ≡ m.wire
      → IsBeside ctx s (put n (Switch k) p) l
  put_switch n m l k p i own others wire = record {
    wire = wire ∙ i.wire;
    pharmacies = λ j. others (Pharmacy j) (no_pharmacy k j) ∙ i.pharmacies j;
    switches = λ j.
        at_each (λ (x : Node) (q : Process). (j : ℕ) → x ≡ Switch j → IsSwitchBeside ctx s j q (l.at (Switch j))) n (Switch k) p
        (λ j e. subst (λ (x : ℕ). IsSwitchBeside ctx s x p (l.at (Switch x))) (same_number k j e) own)
        (λ other d j e.
        subst (λ (x : Node). IsSwitchBeside ctx s j (n.at x) (l.at (Switch j))) (sym e)
        (subst (λ (y : Process). IsSwitchBeside ctx s j (n.at (Switch j)) y) (sym (others (Switch j) (λ f. d (f ∙ sym e)))) (i.switches j)))
        (Switch j) j refl;
    payers = λ j. others (Payer j) (no_payer k j) ∙ i.payers j;
  }

  -- a switch at which nothing happens
  left_alone : (n m : Network) (k : ℕ) → IsBeside ctx s n m → Catches ctx s (put n (Switch k) (n.at (Switch k))) m
  left_alone n m k i = record { more = []; is = put_switch n m m k (n.at (Switch k)) i (i.switches k) (λ other d. refl) refl }

  -- the stage of a switch that lives
  stage_of : (n m : Network) (k : ℕ) (t : AnyNode) → IsBeside ctx s n m → (n.at (Switch k)).memory ≡ Some t → (before : AnyNode) × Stage ctx s m k before t
  stage_of n m k t i is =
      let st = i.switches k in
      let q = m.at (Switch k) in
      let was = some_is ctx s (Switch k) q.synced t (st.stands ∙ ap (λ (x : Option AnyNode). or_else x (node_at (opening s) (Switch k))) is) in
      (was.0, record { opens = was.1; idle = st.idle; makes = st.makes was.0 was.1; is = was.2 })

  stands_at : (m : Network) (k : ℕ) (before now : AnyNode) → Stage ctx s m k before now → replayed ctx s (Switch k) (m.at (Switch k)).synced ≡ Some now
  stands_at m k before now st =
      ap (option_map (λ (b : AnyNode). replay ctx b (m.at (Switch k)).synced)) st.opens ∙ ap (λ (x : AnyNode). Some x) st.is

  makes_at : (m : Network) (k : ℕ) (before now : AnyNode) → Stage ctx s m k before now → (b : AnyNode) → node_at (opening s) (Switch k) ≡ Some b → Makes ctx b (m.at (Switch k)).synced
  makes_at m k before now st b e = subst (λ (x : AnyNode). Makes ctx x (m.at (Switch k)).synced) (same_some before b (sym st.opens ∙ e)) st.makes

  -- a call of a switch
  called_by : (n m : Network) (k : ℕ) (call : Call) (event : Event) (t : AnyNode) (o : Outcome AnyNode) → IsBeside ctx s n m → asked n.wire event ≡ Some (record { node = Switch k; call = call }) → (n.at (Switch k)).memory ≡ Some t
      → node_step ctx t call ≡ o → Catches ctx s (put n (Switch k) (after_call (n.at (Switch k)) call o)) m
  called_by n m k call event t (Refused why) i asks is e = left_alone n m k i
  called_by n m k call event t (Done next sent) i asks is e =
      let p = n.at (Switch k) in
      let l : Logged = record { call = call; sent = sent } in
      let st = stage_of n m k t i is in
      let one = staged ctx s m k st.0 t next l event st.1 e (ap (λ (w : List Packet). asked w event) i.wire ∙ asks) in
      let later = after ctx s m (appends_by (Switch k) event) in
      let beside : IsSwitchBeside ctx s k (after_call p call (Done next sent)) (later.at (Switch k)) = record {
        idle = one.stage.idle;
        nothing = (i.switches k).nothing;
        stands = stands_at later k st.0 next one.stage;
        makes = makes_at later k st.0 next one.stage;
        sent = subst (λ (log : List Logged). AllByRecursion (IsAmong (posted_by (Switch k) log)) (posted_by (Switch k) (p.unsynced ++ l ∷ []))) (sym one.appended.own)
            (sent_longer (Switch k) p.unsynced (m.at (Switch k)).synced l (i.switches k).sent);
      } in
      record { more = appends_by (Switch k) event; is = put_switch n m later k (after_call p call (Done next sent)) i beside one.appended.others one.appended.wire }

  calls_by : (n m : Network) (k : ℕ) (call : Call) (event : Event) (o : Option AnyNode) → IsBeside ctx s n m → asked n.wire event ≡ Some (record { node = Switch k; call = call }) → (n.at (Switch k)).memory ≡ o
      → Catches ctx s (put n (Switch k) (calls ctx (n.at (Switch k)) call o)) m
  calls_by n m k call event None i asks is = left_alone n m k i
  calls_by n m k call event (Some t) i asks is = called_by n m k call event t (node_step ctx t call) i asks is refl

  -- a call of any node
  asked_by : (n m : Network) (node : Node) (call : Call) (event : Event) → IsBeside ctx s n m → asked n.wire event ≡ Some (record { node = node; call = call })
      → Catches ctx s (put n node (calls ctx (n.at node) call (n.at node).memory)) m
  unfolding moved
  asked_by n m (Switch k) call event i asks = calls_by n m k call event (n.at (Switch k)).memory i asks refl
  asked_by n m (Pharmacy k) call event i asks =
      let there : asked m.wire event ≡ Some (record { node = Pharmacy k; call = call }) = ap (λ (w : List Packet). asked w event) i.wire ∙ asks in
      record {
        more = Calling event ∷ [];
        is = subst (IsBeside ctx s (put n (Pharmacy k) (calls ctx (n.at (Pharmacy k)) call (n.at (Pharmacy k)).memory))) (sym (ap (calling ctx m) there))
            (put_pharmacy n m k (calls ctx (n.at (Pharmacy k)) call (n.at (Pharmacy k)).memory) (calls ctx (m.at (Pharmacy k)) call (m.at (Pharmacy k)).memory) i (ap (λ (x : Process). calls ctx x call x.memory) (i.pharmacies k)));
      }
  asked_by n m (Payer k) call event i asks =
      let there : asked m.wire event ≡ Some (record { node = Payer k; call = call }) = ap (λ (w : List Packet). asked w event) i.wire ∙ asks in
      record {
        more = Calling event ∷ [];
        is = subst (IsBeside ctx s (put n (Payer k) (calls ctx (n.at (Payer k)) call (n.at (Payer k)).memory))) (sym (ap (calling ctx m) there))
            (put_payer n m k (calls ctx (n.at (Payer k)) call (n.at (Payer k)).memory) (calls ctx (m.at (Payer k)) call (m.at (Payer k)).memory) i (ap (λ (x : Process). calls ctx x call x.memory) (i.payers k)));
      }

  calling_by : (n m : Network) (event : Event) (o : Option Asked) → IsBeside ctx s n m → asked n.wire event ≡ o → Catches ctx s (calling ctx n o) m
  calling_by n m event None i e = record { more = []; is = i }
  calling_by n m event (Some a) i e = asked_by n m a.node a.call event i e

  -- words

  said_too : (n m : Network) (o : Option Packet) → IsBeside ctx s n m → IsBeside ctx s (saying n o) (saying m o)
  said_too n m None i = i
  said_too n m (Some p) i = record { wire = ap (λ (w : List Packet). w ++ p ∷ []) i.wire; pharmacies = i.pharmacies; switches = i.switches; payers = i.payers }

  told_by : (n m : Network) (k j : ℕ) (o : Option Packet) → IsBeside ctx s n m → numbered (posted_by (Switch k) (n.at (Switch k)).unsynced) j ≡ o → Catches ctx s (saying n o) m
  unfolding moved
  told_by n m k j None i e = record { more = []; is = i }
  told_by n m k j (Some p) i e =
      let a = all_at (IsAmong (posted_by (Switch k) (m.at (Switch k)).synced)) (posted_by (Switch k) (n.at (Switch k)).unsynced) j p (i.switches k).sent e in
      record {
        more = Saying (Switch k) a.number ∷ [];
        is = subst (IsBeside ctx s (saying n (Some p))) (sym (ap (saying m) a.is)) (said_too n m (Some p) i);
      }

  -- deaths and beginnings of switches

  same_option : (o : Option AnyNode) → option_map (λ (b : AnyNode). replay ctx b []) o ≡ o
  same_option None = refl
  same_option (Some b) = refl

  none_or : (o : Option AnyNode) → (p : Option AnyNode) → o ≡ p → or_else p o ≡ o
  none_or o None e = refl
  none_or o (Some b) e = sym e

  dies_by : (n m : Network) (k : ℕ) (memory : Option AnyNode) (o : Option AnyNode) → IsBeside ctx s n m → (n.at (Switch k)).memory ≡ o → or_else memory (node_at (opening s) (Switch k)) ≡ node_at (opening s) (Switch k)
      → Catches ctx s (put n (Switch k) (record { memory = memory; synced = (n.at (Switch k)).synced; unsynced = [] })) m
  dies_by n m k memory None i is stands =
      let st = i.switches k in
      record {
        more = [];
        is = put_switch n m m k (record { memory = memory; synced = (n.at (Switch k)).synced; unsynced = [] }) i
            (record { idle = st.idle; nothing = st.nothing; stands = st.stands ∙ (ap (λ (x : Option AnyNode). or_else x (node_at (opening s) (Switch k))) is ∙ sym stands); makes = st.makes; sent = tt })
            (λ other d. refl) refl;
      }
  dies_by n m k memory (Some t) i is stands =
      let st = stage_of n m k t i is in
      let f = fresh ctx s m k st.0 t st.1 in
      let later = after ctx s m f.more in
      record {
        more = f.more;
        is = put_switch n m later k (record { memory = memory; synced = (n.at (Switch k)).synced; unsynced = [] }) i
            (record {
              idle = f.stage.idle;
              nothing = (i.switches k).nothing;
              stands = stands_at later k st.0 st.0 f.stage ∙ (sym f.stage.opens ∙ sym stands);
              makes = makes_at later k st.0 st.0 f.stage;
              sent = tt;
            })
            f.others f.wire;
      }

  -- a process that begins anew has the opening table
  begun_is : (k : ℕ) (p : Process) → p.synced ≡ [] → replayed ctx s (Switch k) (file (crashed p 0)) ≡ node_at (opening s) (Switch k)
  begun_is k p e = ap (λ (log : List Logged). replayed ctx s (Switch k) (log ++ [])) e ∙ same_option (node_at (opening s) (Switch k))

  -- any move
  pub catches : (n m : Network) (move : Move) → IsBeside ctx s n m → Catches ctx s (moved_light ctx s n move) m
  unfolding moved_light moved
  catches n m (Calling event) i = calling_by n m event (asked n.wire event) i refl
  catches n m (Syncing (Pharmacy k)) i = record { more = Syncing (Pharmacy k) ∷ []; is = put_pharmacy n m k _ _ i (ap (λ (x : Process). one_synced x x.unsynced) (i.pharmacies k)) }
  catches n m (Syncing (Switch k)) i = left_alone n m k i
  catches n m (Syncing (Payer k)) i = record { more = Syncing (Payer k) ∷ []; is = put_payer n m k _ _ i (ap (λ (x : Process). one_synced x x.unsynced) (i.payers k)) }
  catches n m (Saying (Pharmacy k) j) i = record {
    more = Saying (Pharmacy k) j ∷ [];
    is = subst (IsBeside ctx s (saying n (numbered (posted_by (Pharmacy k) (n.at (Pharmacy k)).synced) j)))
        (ap (λ (x : Process). saying m (numbered (posted_by (Pharmacy k) x.synced) j)) (sym (i.pharmacies k)))
        (said_too n m (numbered (posted_by (Pharmacy k) (n.at (Pharmacy k)).synced) j) i);
  }
  catches n m (Saying (Switch k) j) i = told_by n m k j (numbered (posted_by (Switch k) (n.at (Switch k)).unsynced) j) i refl
  catches n m (Saying (Payer k) j) i = record {
    more = Saying (Payer k) j ∷ [];
    is = subst (IsBeside ctx s (saying n (numbered (posted_by (Payer k) (n.at (Payer k)).synced) j)))
        (ap (λ (x : Process). saying m (numbered (posted_by (Payer k) x.synced) j)) (sym (i.payers k)))
        (said_too n m (numbered (posted_by (Payer k) (n.at (Payer k)).synced) j) i);
  }
  catches n m (Crashing (Pharmacy k) left) i = record { more = Crashing (Pharmacy k) left ∷ []; is = put_pharmacy n m k _ _ i (ap (λ (x : Process). crashed x left) (i.pharmacies k)) }
  catches n m (Crashing (Switch k) left) i = dies_by n m k None (n.at (Switch k)).memory i refl refl
  catches n m (Crashing (Payer k) left) i = record { more = Crashing (Payer k) left ∷ []; is = put_payer n m k _ _ i (ap (λ (x : Process). crashed x left) (i.payers k)) }
  catches n m (Restarting (Pharmacy k)) i = record { more = Restarting (Pharmacy k) ∷ []; is = put_pharmacy n m k _ _ i (ap (λ (x : Process). restarted ctx s (Pharmacy k) x) (i.pharmacies k)) }
  catches n m (Restarting (Switch k)) i =
      let p = n.at (Switch k) in
      let memory = replayed ctx s (Switch k) (file (crashed p 0)) in
      dies_by n m k memory p.memory i refl (none_or (node_at (opening s) (Switch k)) memory (sym (begun_is k p (i.switches k).nothing)))
  catches n m (Restarting (Payer k)) i = record { more = Restarting (Payer k) ∷ []; is = put_payer n m k _ _ i (ap (λ (x : Process). restarted ctx s (Payer k) x) (i.payers k)) }

  pub catches_all : (n m : Network) (moves : List Move) → IsBeside ctx s n m → Catches ctx s (after_light ctx s n moves) m
  catches_all n m [] i = record { more = []; is = i }
  catches_all n m (move ∷ moves) i =
      let one = catches n m move i in
      let rest = catches_all (moved_light ctx s n move) (after ctx s m one.more) moves one.is in
      record { more = one.more ++ rest.more; is = subst (IsBeside ctx s (after_light ctx s (moved_light ctx s n move) moves)) (sym (after_append ctx s m one.more rest.more)) rest.is }

  begins_beside : IsBeside ctx s beginning beginning
  begins_beside = record {
    wire = refl;
    pharmacies = λ k. refl;
    switches = λ k. record { idle = refl; nothing = refl; stands = same_option (node_at (opening s) (Switch k)); makes = λ before e. tt; sent = tt };
    payers = λ k. refl;
  }

  light_append : (n : Network) (moves more : List Move) → after_light ctx s n (moves ++ more) ≡ after_light ctx s (after_light ctx s n moves) more
  light_append n [] more = refl
  light_append n (move ∷ moves) more = light_append (moved_light ctx s n move) moves more

-- both at two moments
pub record Beside (ctx : Context) (s : WorldSettings) (moves more : List Move) : Type 0 where
  pub first : List Move
  pub second : List Move
  pub now : IsBeside ctx s (light ctx s moves) (network ctx s first)
  pub later : IsBeside ctx s (light ctx s (moves ++ more)) (network ctx s (first ++ second))

pub beside_at : (ctx : Context) (s : WorldSettings) (moves more : List Move) → Beside ctx s moves more
beside_at ctx s moves more =
    let a = catches_all ctx s beginning beginning moves (begins_beside ctx s) in
    let b = catches_all ctx s (light ctx s moves) (network ctx s a.more) more a.is in
    record {
      first = a.more;
      second = b.more;
      now = a.is;
      later = subst (λ (n : Network). IsBeside ctx s n (network ctx s (a.more ++ b.more))) (sym (light_append ctx s beginning moves more))
          (subst (IsBeside ctx s (after_light ctx s (light ctx s moves) more)) (sym (after_append ctx s beginning a.more b.more)) b.is);
    }
