-- Each move leads a sound network to a sound one, and its run on.
use Rattle.std.proofs.Common.{◌≡◌, ℕ, List, [], ◌∷◌, ◌++◌, take, drop, Option, Some, None, refl, sym, ap, ◌∙◌, subst, inl, inr, append_assoc}
use Rattle.std.specs.Prelude.{option_map}
use Rattle.std.specs.List.{AllByRecursion}
use Rattle.std.proofs.lemmas.List.{append-nil, take-append-drop}
use Rattle.claim_model.specs.Context.{Context}
use Rattle.claim_model.specs.Numbered.{numbered}
use Rattle.claim_model.specs.Node.{Node, Call, Sent, Outcome, Done, Refused}
use Rattle.claim_model.specs.World.{World, Packet, Event, Submission, Ticking, Delivery, Stopping, Starting, Revising, Adjudication, step, world_after, run}
use Rattle.claim_model.specs.Settings.{WorldSettings, opening}
use Rattle.claim_model.specs.Nodes.{AnyNode, node_step, node_at, Asked, taking, adjudicating, asked}
use Rattle.claim_model.specs.Logs.{Logged, log_in, node_after, replay, Makes, posted_by, is_from}
use Rattle.claim_model.specs.Interleavings.{IsDone}
use Rattle.claim_model.proofs.Lists.{numbered_append, numbered_more, all_at, all_from, all_append, all_filter}
use Rattle.claim_model.proofs.Options.{map_some, same_some}
use Rattle.claim_model.proofs.Names.{told_apart, same_self}
use Rattle.claim_model.proofs.Ends.{log_own, log_other}
use Rattle.claim_model.proofs.Serving.{packets_grow}
use Rattle.claim_model.proofs.Posting.{are_posted}
use Rattle.claim_model.proofs.GoingOn.{run_append, log_append, accepted_append, asked_accepted}
use Rattle.claim_model.proofs.Walking.{all_left}
use Rattle.crash_safety.specs.Network.{Process, Network, Move, Calling, Syncing, Saying, Crashing, Restarting, file, replayed, put, after_call, calls, calling, one_synced, saying, crashed, restarted, moved, after}
use Rattle.crash_safety.specs.Runs.{IsAmong}
use Rattle.crash_safety.proofs.Replaying.{replay_more, makes_more, makes_left}
use Rattle.crash_safety.proofs.Sound.{Comes, CanCome, IsWell, IsSound, at_each, well_with_more}

-- the network after a move, and the events by which its run goes on
pub record Further (ctx : Context) (s : WorldSettings) (n : Network) (events : List Event) : Type 0 where
  pub more : List Event
  pub sound : IsSound ctx s n (events ++ more)

pub as_it_was : (ctx : Context) (s : WorldSettings) (n : Network) (events : List Event) → IsSound ctx s n events → Further ctx s n events
as_it_was ctx s n events i = record { more = []; sound = subst (IsSound ctx s n) (sym (append-nil events)) i }

-- a process that changes in memory and after its synced calls alone
module _ (ctx : Context) (s : WorldSettings) (n : Network) (events : List Event) (i : IsSound ctx s n events) where
  pub beside : (node : Node) (p : Process) → p.synced ≡ (n.at node).synced → IsWell ctx s (run ctx (opening s) events).packets node p → Further ctx s (put n node p) events
  beside node p same well =
      as_it_was ctx s (put n node p) events (record {
        has = record {
          accepted = i.has.accepted;
          each = at_each (λ (x : Node) (q : Process). log_in ctx (opening s) events x ≡ q.synced) n node p (i.has.each node ∙ sym same) (λ other d. i.has.each other);
          all = i.has.all;
        };
        each = at_each (IsWell ctx s (run ctx (opening s) events).packets) n node p well (λ other d. i.each other);
      })

-- a call

pub some_is : (ctx : Context) (s : WorldSettings) (node : Node) (log : List Logged) (m : AnyNode) → replayed ctx s node log ≡ Some m → (before : AnyNode) × (node_at (opening s) node ≡ Some before) × (replay ctx before log ≡ m)
some_is ctx s node log m e = map_some (λ (before : AnyNode). replay ctx before log) (node_at (opening s) node) m e

pub none_some : {A : Type 0} (a : A) → ◌≡◌ {A = Option A} None (Some a) → ⊥
none_some a e = cc

called_well : (ctx : Context) (s : WorldSettings) (packets : List Packet) (node : Node) (p : Process) (m next : AnyNode) (l : Logged) → IsWell ctx s packets node p → Comes packets node l.call → p.memory ≡ Some m → node_step ctx m l.call ≡ Done next l.sent
    → IsWell ctx s packets node (record { memory = Some next; synced = p.synced; unsynced = p.unsynced ++ l ∷ [] })
called_well ctx s packets node p m next l w c is steps =
    let was = some_is ctx s node (file p) m (w.memory m is) in
    let longer : file p ++ l ∷ [] ≡ p.synced ++ (p.unsynced ++ l ∷ []) = append_assoc p.synced p.unsynced (l ∷ []) in
    let now : node_step ctx (replay ctx was.0 (file p)) l.call ≡ Done next l.sent = ap (λ (x : AnyNode). node_step ctx x l.call) was.2 ∙ steps in
    let leads : replay ctx was.0 (file p ++ l ∷ []) ≡ next = replay_more ctx was.0 (file p) l ∙ ap (node_after (replay ctx was.0 (file p))) now in
    record {
      memory = λ x e.
          let same : next ≡ x = same_some next x e in
          ap (λ (log : List Logged). replayed ctx s node log) (sym longer)
          ∙ (ap (option_map (λ (b : AnyNode). replay ctx b (file p ++ l ∷ []))) was.1 ∙ ap (λ (y : AnyNode). Some y) (leads ∙ same));
      makes = λ before e.
          subst (Makes ctx before) longer
          (makes_more ctx before next (file p) l (w.makes before e)
          (subst (λ (b : AnyNode). node_step ctx (replay ctx b (file p)) l.call ≡ Done next l.sent) (same_some was.0 before (sym was.1 ∙ e)) now));
      nobody = λ e. absurd (none_some was.0 (sym e ∙ was.1));
      comes = all_append (λ (x : Logged). Comes packets node x.call) p.unsynced (l ∷ []) w.comes (c, tt);
    }

after_call_well : (ctx : Context) (s : WorldSettings) (packets : List Packet) (node : Node) (p : Process) (m : AnyNode) (call : Call) (o : Outcome AnyNode) → IsWell ctx s packets node p → Comes packets node call → p.memory ≡ Some m → node_step ctx m call ≡ o
    → IsWell ctx s packets node (after_call p call o) × ((after_call p call o).synced ≡ p.synced)
after_call_well ctx s packets node p m call (Refused why) w c is e = (w, refl)
after_call_well ctx s packets node p m call (Done next sent) w c is e = (called_well ctx s packets node p m next (record { call = call; sent = sent }) w c is e, refl)

pub calls_well : (ctx : Context) (s : WorldSettings) (packets : List Packet) (node : Node) (p : Process) (call : Call) (o : Option AnyNode) → IsWell ctx s packets node p → Comes packets node call → p.memory ≡ o
    → IsWell ctx s packets node (calls ctx p call o) × ((calls ctx p call o).synced ≡ p.synced)
calls_well ctx s packets node p call None w c is = (w, refl)
calls_well ctx s packets node p call (Some m) w c is = after_call_well ctx s packets node p m call (node_step ctx m call) w c is refl

-- what an event asked for on the wire, an event asks for in the run

taken_again : (packets : List Packet) (wire : List Packet) (k : ℕ) (a : Asked) → ((j : ℕ) (p : Packet) → numbered wire j ≡ Some p → IsAmong packets p) → asked wire (Delivery k) ≡ Some a → Comes packets a.node a.call
taken_again packets wire k a among e =
    let t = map_some taking (numbered wire k) a e in
    let there = among k t.0 t.1 in
    let same : taking t.0 ≡ a = t.2 in
    record { event = Delivery there.number; asks = ap (option_map taking) there.is ∙ ap (λ (x : Asked). Some x) same }

advised_again : (packets : List Packet) (wire : List Packet) (k : ℕ) (advice : List ℕ) (a : Asked) → ((j : ℕ) (p : Packet) → numbered wire j ≡ Some p → IsAmong packets p) → asked wire (Adjudication k advice) ≡ Some a → Comes packets a.node a.call
advised_again packets wire k advice a among e =
    let t = map_some (adjudicating advice) (numbered wire k) a e in
    let there = among k t.0 t.1 in
    let same : adjudicating advice t.0 ≡ a = t.2 in
    record { event = Adjudication there.number advice; asks = ap (option_map (adjudicating advice)) there.is ∙ ap (λ (x : Asked). Some x) same }

pub comes_again : (packets : List Packet) (wire : List Packet) (event : Event) (a : Asked) → ((j : ℕ) (p : Packet) → numbered wire j ≡ Some p → IsAmong packets p) → asked wire event ≡ Some a → Comes packets a.node a.call
comes_again packets wire (Submission n text) a among e = record { event = Submission n text; asks = e }
comes_again packets wire (Ticking n) a among e = record { event = Ticking n; asks = e }
comes_again packets wire (Delivery k) a among e = taken_again packets wire k a among e
comes_again packets wire (Stopping node) a among e = record { event = Stopping node; asks = e }
comes_again packets wire (Starting node) a among e = record { event = Starting node; asks = e }
comes_again packets wire (Revising node revision) a among e = record { event = Revising node revision; asks = e }
comes_again packets wire (Adjudication k advice) a among e = advised_again packets wire k advice a among e

calling_on : (ctx : Context) (s : WorldSettings) (n : Network) (events : List Event) (event : Event) (o : Option Asked) → IsSound ctx s n events → asked n.wire event ≡ o → Further ctx s (calling ctx n o) events
calling_on ctx s n events event None i e = as_it_was ctx s n events i
calling_on ctx s n events event (Some a) i e =
    let packets = (run ctx (opening s) events).packets in
    let p = n.at a.node in
    let r = calls_well ctx s packets a.node p a.call p.memory (i.each a.node) (comes_again packets n.wire event a i.has.all e) refl in
    beside ctx s n events i a.node (calls ctx p a.call p.memory) r.1 r.0

-- a crash, and a restart

pub empty_left : {A : Type 0} (xs ys : List A) → xs ++ ys ≡ [] → xs ≡ []
empty_left [] ys e = refl
empty_left (x ∷ xs) ys e = absurd cc

crashing_on : (ctx : Context) (s : WorldSettings) (n : Network) (events : List Event) (node : Node) (left : ℕ) → IsSound ctx s n events → Further ctx s (put n node (crashed (n.at node) left)) events
crashing_on ctx s n events node left i =
    let p = n.at node in
    let w = i.each node in
    let packets = (run ctx (opening s) events).packets in
    let parts : take left p.unsynced ++ drop left p.unsynced ≡ p.unsynced = take-append-drop left p.unsynced in
    let whole : (p.synced ++ take left p.unsynced) ++ drop left p.unsynced ≡ file p =
    append_assoc p.synced (take left p.unsynced) (drop left p.unsynced) ∙ ap (λ (log : List Logged). p.synced ++ log) parts in
    beside ctx s n events i node (crashed p left) refl
    (record {
      memory = λ m e. absurd (none_some m e);
      makes = λ before e. makes_left ctx before (p.synced ++ take left p.unsynced) (drop left p.unsynced) (subst (Makes ctx before) (sym whole) (w.makes before e));
      nobody = λ e. empty_left (take left p.unsynced) (drop left p.unsynced) (parts ∙ w.nobody e);
      comes = all_left (λ (l : Logged). Comes packets node l.call) (take left p.unsynced) (drop left p.unsynced) (subst (CanCome packets node) (sym parts) w.comes);
    })

restarting_on : (ctx : Context) (s : WorldSettings) (n : Network) (events : List Event) (node : Node) → IsSound ctx s n events → Further ctx s (put n node (restarted ctx s node (n.at node))) events
restarting_on ctx s n events node i =
    let w = i.each node in
    beside ctx s n events i node (restarted ctx s node (n.at node)) refl
    (record { memory = λ m e. e; makes = w.makes; nobody = w.nobody; comes = w.comes })

-- a word

-- a run has sent what its logs sent
pub sent_by : (ctx : Context) (s : WorldSettings) (events : List Event) (node : Node) → AllByRecursion (IsAmong (run ctx (opening s) events).packets) (posted_by node (log_in ctx (opening s) events node))
sent_by ctx s events node =
    let packets = (run ctx (opening s) events).packets in
    subst (AllByRecursion (IsAmong packets)) (are_posted ctx (opening s) events node)
    (all_filter (IsAmong packets) (is_from node) packets (all_from (IsAmong packets) packets (λ k p e. record { number = k; is = e })))

said_among : (packets wire : List Packet) (p : Packet) → ((j : ℕ) (q : Packet) → numbered wire j ≡ Some q → IsAmong packets q) → IsAmong packets p → (j : ℕ) (q : Packet) → numbered (wire ++ p ∷ []) j ≡ Some q → IsAmong packets q
said_among packets wire p among new j q e =
    elim (numbered_more wire p j q e) [
      | inl old ↦ among j q old
      | inr last ↦ subst (IsAmong packets) (sym last.1) new
    ]

saying_on : (ctx : Context) (s : WorldSettings) (n : Network) (events : List Event) (node : Node) (k : ℕ) (o : Option Packet) → IsSound ctx s n events → numbered (posted_by node (n.at node).synced) k ≡ o → Further ctx s (saying n o) events
saying_on ctx s n events node k None i e = as_it_was ctx s n events i
saying_on ctx s n events node k (Some p) i e =
    let packets = (run ctx (opening s) events).packets in
    let new = all_at (IsAmong packets) (posted_by node (n.at node).synced) k p (subst (λ (log : List Logged). AllByRecursion (IsAmong packets) (posted_by node log)) (i.has.each node) (sent_by ctx s events node)) e in
    as_it_was ctx s (record { at = n.at; wire = n.wire ++ p ∷ [] }) events
    (record { has = record { accepted = i.has.accepted; each = i.has.each; all = said_among packets n.wire p i.has.all new }; each = i.each })

-- a sync: the run makes the call

pub is_done : (o : Outcome World) (v : World) (sent : List Sent) → o ≡ Done v sent → IsDone o
is_done o v sent e = subst IsDone (sym e) tt

more_among : (before more : List Packet) (p : Packet) → IsAmong before p → IsAmong (before ++ more) p
more_among before more p a = record { number = a.number; is = numbered_append before more a.number p a.is }

pub sync_one : (ctx : Context) (s : WorldSettings) (n : Network) (events : List Event) (node : Node) (l : Logged) (more : List Logged) (before : AnyNode) → IsSound ctx s n events → (n.at node).unsynced ≡ l ∷ more → node_at (opening s) node ≡ Some before
    → Further ctx s (put n node (record { memory = (n.at node).memory; synced = (n.at node).synced ++ l ∷ []; unsynced = more })) events
sync_one ctx s n events node l more before i is opens =
    let p = n.at node in
    let w = i.each node in
    let r = run ctx (opening s) events in
    let lies : file p ≡ log_in ctx (opening s) events node ++ l ∷ more = ap (λ (log : List Logged). p.synced ++ log) is ∙ ap (λ (log : List Logged). log ++ l ∷ more) (sym (i.has.each node)) in
    let come = subst (CanCome r.packets node) is w.comes in
    let event = come.0.event in
    let a : Asked = record { node = node; call = l.call } in
    let taken = asked_accepted ctx (opening s) events node before l more event opens (subst (Makes ctx before) lies (w.makes before opens)) come.0.asks in
    let v = taken.0 in
    let ends : run ctx (opening s) (events ++ event ∷ []) ≡ v = run_append ctx (opening s) events (event ∷ []) ∙ ap (world_after r) taken.1 in
    let grown = packets_grow ctx r (event ∷ []) in
    let packets : (run ctx (opening s) (events ++ event ∷ [])).packets ≡ r.packets ++ grown.more = ap (λ (x : World). x.packets) (run_append ctx (opening s) events (event ∷ [])) ∙ grown.is in
    let next : Process = record { memory = p.memory; synced = p.synced ++ l ∷ []; unsynced = more } in
    let same : file next ≡ file p = append_assoc p.synced (l ∷ []) more ∙ ap (λ (log : List Logged). p.synced ++ log) (sym is) in
    let well : IsWell ctx s r.packets node next = record {
      memory = λ m e. ap (replayed ctx s node) same ∙ w.memory m e;
      makes = λ b e. subst (Makes ctx b) (sym same) (w.makes b e);
      nobody = λ e. absurd (none_some before (sym e ∙ opens));
      comes = come.1;
    } in
    record {
      more = event ∷ [];
      sound = record {
        has = record {
          accepted = accepted_append ctx (opening s) events (event ∷ []) i.has.accepted (is_done (step ctx r event) v l.sent taken.1, tt);
          each = at_each (λ (x : Node) (q : Process). log_in ctx (opening s) (events ++ event ∷ []) x ≡ q.synced) n node next
              (log_append ctx (opening s) events (event ∷ []) node
              ∙ (ap (λ (log : List Logged). log ++ log_in ctx r (event ∷ []) node) (i.has.each node)
              ∙ ap (λ (log : List Logged). p.synced ++ log) (log_own ctx r v event [] node a l.sent come.0.asks taken.1 (same_self node))))
              (λ other d. elim (told_apart node other) [
                | inl t ↦ absurd (d t.1)
                | inr t ↦ log_append ctx (opening s) events (event ∷ []) other
                    ∙ (ap (λ (log : List Logged). log_in ctx (opening s) events other ++ log) (log_other ctx r v event [] other a l.sent come.0.asks taken.1 t.0)
                    ∙ (append-nil (log_in ctx (opening s) events other) ∙ i.has.each other))
              ]);
          all = λ k q e. subst (λ (ps : List Packet). IsAmong ps q) (sym packets) (more_among r.packets grown.more q (i.has.all k q e));
        };
        each = at_each (IsWell ctx s (run ctx (opening s) (events ++ event ∷ [])).packets) n node next
            (subst (λ (ps : List Packet). IsWell ctx s ps node next) (sym packets) (well_with_more ctx s r.packets grown.more node next well))
            (λ other d. subst (λ (ps : List Packet). IsWell ctx s ps other (n.at other)) (sym packets) (well_with_more ctx s r.packets grown.more other (n.at other) (i.each other)));
      };
    }

pub no_nothing : {A : Type 0} (x : A) (xs : List A) → x ∷ xs ≡ [] → ⊥
no_nothing x xs e = cc

sync_by : (ctx : Context) (s : WorldSettings) (n : Network) (events : List Event) (node : Node) (l : Logged) (more : List Logged) (o : Option AnyNode) → IsSound ctx s n events → (n.at node).unsynced ≡ l ∷ more → node_at (opening s) node ≡ o
    → Further ctx s (put n node (record { memory = (n.at node).memory; synced = (n.at node).synced ++ l ∷ []; unsynced = more })) events
sync_by ctx s n events node l more None i is e = absurd (no_nothing l more (sym is ∙ (i.each node).nobody e))
sync_by ctx s n events node l more (Some before) i is e = sync_one ctx s n events node l more before i is e

pub syncing_on : (ctx : Context) (s : WorldSettings) (n : Network) (events : List Event) (node : Node) (log : List Logged) → IsSound ctx s n events → (n.at node).unsynced ≡ log → Further ctx s (put n node (one_synced (n.at node) log)) events
syncing_on ctx s n events node [] i is = beside ctx s n events i node (n.at node) refl (i.each node)
syncing_on ctx s n events node (l ∷ more) i is = sync_by ctx s n events node l more (node_at (opening s) node) i is refl

-- any move

pub moves_on : (ctx : Context) (s : WorldSettings) (n : Network) (events : List Event) (move : Move) → IsSound ctx s n events → Further ctx s (moved ctx s n move) events
unfolding moved
moves_on ctx s n events (Calling event) i = calling_on ctx s n events event (asked n.wire event) i refl
moves_on ctx s n events (Syncing node) i = syncing_on ctx s n events node (n.at node).unsynced i refl
moves_on ctx s n events (Saying node k) i = saying_on ctx s n events node k (numbered (posted_by node (n.at node).synced) k) i refl
moves_on ctx s n events (Crashing node left) i = crashing_on ctx s n events node left i
moves_on ctx s n events (Restarting node) i = restarting_on ctx s n events node i

-- all moves

pub goes_on : (ctx : Context) (s : WorldSettings) (n : Network) (events : List Event) (moves : List Move) → IsSound ctx s n events → Further ctx s (after ctx s n moves) events
goes_on ctx s n events [] i = as_it_was ctx s n events i
goes_on ctx s n events (move ∷ moves) i =
    let one = moves_on ctx s n events move i in
    let rest = goes_on ctx s (moved ctx s n move) (events ++ one.more) moves one.sound in
    record { more = one.more ++ rest.more; sound = subst (IsSound ctx s (after ctx s (moved ctx s n move) moves)) (append_assoc events one.more rest.more) rest.sound }
