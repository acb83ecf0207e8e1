-- Each change of a growing network leads an order of what its disks hold on. The order mentions no settings.
use Rattle.std.proofs.Common.{◌≡◌, ℕ, zero, suc, ◌≤◌, true, false, cond, List, [], ◌∷◌, ◌++◌, Option, Some, None, refl, sym, ap, ◌∙◌, subst, inl, inr, append_assoc, arith}
use Rattle.std.specs.Prelude.{map, flat_map, take, drop}
use Rattle.std.specs.List.{AllByRecursion}
use Rattle.std.proofs.lemmas.List.{append-nil, take-append-drop}
use Rattle.std.proofs.lemmas.Bool.{cases_eq}
use Rattle.claim_model.specs.Numbered.{numbered}
use Rattle.claim_model.specs.Node.{Node, Sent}
use Rattle.claim_model.specs.World.{Packet, Event, packet_from}
use Rattle.claim_model.specs.Settings.{opening}
use Rattle.claim_model.specs.Nodes.{AnyNode, node_at, same_node, Asked, asked}
use Rattle.claim_model.specs.Logs.{Logged, Makes, posted_by}
use Rattle.claim_model.proofs.Lists.{numbered_more, all_at, all_append, all_weaker}
use Rattle.claim_model.proofs.Options.{same_some}
use Rattle.claim_model.proofs.Names.{told_apart, same_self}
use Rattle.claim_model.proofs.Posting.{posted_more}
use Rattle.claim_model.proofs.Walking.{all_left}
use Rattle.settings_growth.specs.Orders.{Turn, IsOrder, turns_of}
use Rattle.settings_growth.specs.Growth.{Grows, RejectionsStay, with_cap}
use Rattle.settings_growth.proofs.Growing.{grows_on, grows_itself}
use Rattle.settings_growth.proofs.Replayed.{goes_over}
use Rattle.crash_safety.specs.Network.{Process, Network, Move, Calling, Syncing, Saying, Crashing, Restarting, file, replayed, put, calls, calling, one_synced, saying, crashed, restarted, moved}
use Rattle.crash_safety.specs.Runs.{IsAmong}
use Rattle.crash_safety.specs.Growing.{Stage, Grow, Growing, Change, Moving, Going, asked_node, staged, stopped, changed, after_changes, at_outset, StaysAt, StayFrom}
use Rattle.crash_safety.proofs.Replaying.{makes_left}
use Rattle.crash_safety.proofs.Sound.{Comes, CanCome, IsWell, at_each, well_with_more, nothing_numbered}
use Rattle.crash_safety.proofs.Moving.{calls_well, comes_again, empty_left, no_nothing, none_some}
use Rattle.crash_safety.proofs.Appending.{put_own}
use Rattle.crash_safety.proofs.Lighter.{among_left, among_right, all_themselves, posted_append}

-- ---- packets of turns

abbrev pub posts_by : List Turn → List Packet
posts_by [] = []
posts_by (t ∷ turns) = map (packet_from t.asked.node) t.sent ++ posts_by turns

-- an order, and a turn more
order_more : (packets : List Packet) (turns : List Turn) (t : Turn) → IsOrder packets turns → asked (packets ++ posts_by turns) t.event ≡ Some t.asked → IsOrder packets (turns ++ t ∷ [])
order_more packets [] t order asks = (subst (λ (ps : List Packet). asked ps t.event ≡ Some t.asked) (append-nil packets) asks, tt)
order_more packets (u ∷ turns) t order asks =
    let one = map (packet_from u.asked.node) u.sent in (
      order.0,
      order_more (packets ++ one) turns t order.1 (subst (λ (ps : List Packet). asked ps t.event ≡ Some t.asked) (sym (append_assoc packets one (posts_by turns))) asks),
    )

abbrev turn_of : Turn → Logged
turn_of t = record { call = t.asked.call; sent = t.sent }

own_turn : (t : Turn) (turns : List Turn) (node : Node) → same_node t.asked.node node ≡ true → turns_of (t ∷ turns) node ≡ turn_of t ∷ turns_of turns node
own_turn t turns node e = ap (λ b. cond b (turn_of t ∷ []) [] ++ turns_of turns node) e

other_turn : (t : Turn) (turns : List Turn) (node : Node) → same_node t.asked.node node ≡ false → turns_of (t ∷ turns) node ≡ turns_of turns node
other_turn t turns node e = ap (λ b. cond b (turn_of t ∷ []) [] ++ turns_of turns node) e

turns_append : (turns more : List Turn) (node : Node) → turns_of (turns ++ more) node ≡ turns_of turns node ++ turns_of more node
turns_append [] more node = refl
turns_append (t ∷ turns) more node =
    let one = cond (same_node t.asked.node node) (turn_of t ∷ []) [] in
    ap (λ (log : List Logged). one ++ log) (turns_append turns more node) ∙ sym (append_assoc one (turns_of turns node) (turns_of more node))

-- what a node's turns sent is among the packets of all
sent_in_turns : (turns : List Turn) (node : Node) → AllByRecursion (IsAmong (posts_by turns)) (posted_by node (turns_of turns node))
sent_in_turns [] node = tt
sent_in_turns (t ∷ turns) node =
    let one = map (packet_from t.asked.node) t.sent in
    let rest = posts_by turns in
    let further = all_weaker (IsAmong rest) (IsAmong (one ++ rest)) (among_right one rest) (posted_by node (turns_of turns node)) (sent_in_turns turns node) in
    elim (told_apart t.asked.node node) [
      | inl own ↦
          let first : AllByRecursion (IsAmong (one ++ rest)) (map (packet_from node) t.sent) =
          subst (λ (x : Node). AllByRecursion (IsAmong (one ++ rest)) (map (packet_from x) t.sent)) own.1 (all_weaker (IsAmong one) (IsAmong (one ++ rest)) (among_left one rest) one (all_themselves one)) in
          subst (λ (log : List Logged). AllByRecursion (IsAmong (one ++ rest)) (posted_by node log)) (sym (own_turn t turns node own.0))
          (subst (AllByRecursion (IsAmong (one ++ rest))) (sym (posted_more node (turn_of t) (turns_of turns node)))
          (all_append (IsAmong (one ++ rest)) (map (packet_from node) t.sent) (posted_by node (turns_of turns node)) first further))
      | inr other ↦ subst (λ (log : List Logged). AllByRecursion (IsAmong (one ++ rest)) (posted_by node log)) (sym (other_turn t turns node other.0)) further
    ]

-- ---- the order of a network

-- a process under its settings: well, and without a log where these have no such node
pub record IsWellAt (own : Stage) (wire : List Packet) (node : Node) (p : Process) : Type 0 where
  pub well : IsWell own.ctx own.settings wire node p
  pub empty : node_at (opening own.settings) node ≡ None → p.synced ≡ []

-- what the disks hold has this order
pub record IsOrdered (stages : ℕ → Stage) (g : Growing) (turns : List Turn) : Type 0 where
  pub order : IsOrder [] turns
  pub each : (node : Node) → turns_of turns node ≡ (g.network.at node).synced
  pub all : (k : ℕ) (p : Packet) → numbered g.network.wire k ≡ Some p → IsAmong (posted_by p.from (g.network.at p.from).synced) p
  pub well : (node : Node) → IsWellAt (stages (g.stage node)) g.network.wire node (g.network.at node)

-- the order after a change goes on from the one before it
pub record Further (stages : ℕ → Stage) (g : Growing) (turns : List Turn) : Type 0 where
  pub more : List Turn
  pub ordered : IsOrdered stages g (turns ++ more)

as_it_was : (stages : ℕ → Stage) (g : Growing) (turns : List Turn) → IsOrdered stages g turns → Further stages g turns
as_it_was stages g turns i = record { more = []; ordered = subst (IsOrdered stages g) (sym (append-nil turns)) i }

-- what was said was sent in a turn
pub said_in_turns : (stages : ℕ → Stage) (g : Growing) (turns : List Turn) → IsOrdered stages g turns → (k : ℕ) (p : Packet) → numbered g.network.wire k ≡ Some p → IsAmong (posts_by turns) p
said_in_turns stages g turns i k p e =
    let a = i.all k p e in
    all_at (IsAmong (posts_by turns)) (posted_by p.from (turns_of turns p.from)) a.number p (sent_in_turns turns p.from)
    (ap (λ (log : List Logged). numbered (posted_by p.from log) a.number) (i.each p.from) ∙ a.is)

-- more calls on the disk of one node
record Longer (old new : List Logged) : Type 0 where
  more : List Logged
  is : new ≡ old ++ more

said_still : (n : Network) (node : Node) (p : Process) → Longer (n.at node).synced p.synced → (q : Packet) → IsAmong (posted_by q.from (n.at q.from).synced) q → IsAmong (posted_by q.from ((put n node p).at q.from).synced) q
said_still n node p l q a =
    let x = at_each (λ (x : Node) (r : Process). Longer (n.at x).synced r.synced) n node p l (λ other d. record { more = []; is = sym (append-nil (n.at other).synced) }) q.from in
    subst (λ (log : List Logged). IsAmong (posted_by q.from log) q) (sym x.is)
    (subst (λ (ps : List Packet). IsAmong ps q) (sym (posted_append q.from (n.at q.from).synced x.more)) (among_left (posted_by q.from (n.at q.from).synced) (posted_by q.from x.more) q a))

module _ (stages : ℕ → Stage) (g : Growing) (turns : List Turn) (i : IsOrdered stages g turns) where
  -- a process that changes in memory and after its synced calls alone
  beside : (node : Node) (p : Process) → p.synced ≡ (g.network.at node).synced → IsWellAt (stages (g.stage node)) g.network.wire node p → Further stages (record { network = put g.network node p; stage = g.stage }) turns
  beside node p same well =
      as_it_was stages (record { network = put g.network node p; stage = g.stage }) turns (record {
        order = i.order;
        each = at_each (λ (x : Node) (q : Process). turns_of turns x ≡ q.synced) g.network node p (i.each node ∙ sym same) (λ other d. i.each other);
        all = λ k q e. said_still g.network node p (record { more = []; is = same ∙ sym (append-nil (g.network.at node).synced) }) q (i.all k q e);
        well = at_each (λ (x : Node) (q : Process). IsWellAt (stages (g.stage x)) g.network.wire x q) g.network node p well (λ other d. i.well other);
      })

  -- a call
  calling_on : (o : Option Asked) (event : Event) → asked g.network.wire event ≡ o → Further stages (record { network = calling (stages (g.stage (asked_node o))).ctx g.network o; stage = g.stage }) turns
  calling_on None event e = as_it_was stages g turns i
  calling_on (Some a) event e =
      let own = stages (g.stage a.node) in
      let p = g.network.at a.node in
      let w = i.well a.node in
      let r = calls_well own.ctx own.settings g.network.wire a.node p a.call p.memory w.well (record { event = event; asks = e }) refl in
      beside a.node (calls own.ctx p a.call p.memory) r.1 (record { well = r.0; empty = λ none. r.1 ∙ w.empty none })

  -- a crash, and a restart
  crashing_on : (node : Node) (left : ℕ) → Further stages (record { network = put g.network node (crashed (g.network.at node) left); stage = g.stage }) turns
  crashing_on node left =
      let p = g.network.at node in
      let w = i.well node in
      let parts : take left p.unsynced ++ drop left p.unsynced ≡ p.unsynced = take-append-drop left p.unsynced in
      let whole : (p.synced ++ take left p.unsynced) ++ drop left p.unsynced ≡ file p =
      append_assoc p.synced (take left p.unsynced) (drop left p.unsynced) ∙ ap (λ (log : List Logged). p.synced ++ log) parts in
      beside node (crashed p left) refl (record {
        well = record {
          memory = λ m e. absurd (none_some m e);
          makes = λ before e. makes_left (stages (g.stage node)).ctx before (p.synced ++ take left p.unsynced) (drop left p.unsynced) (subst (Makes (stages (g.stage node)).ctx before) (sym whole) (w.well.makes before e));
          nobody = λ e. empty_left (take left p.unsynced) (drop left p.unsynced) (parts ∙ w.well.nobody e);
          comes = all_left (λ (l : Logged). Comes g.network.wire node l.call) (take left p.unsynced) (drop left p.unsynced) (subst (CanCome g.network.wire node) (sym parts) w.well.comes);
        };
        empty = w.empty;
      })

  restarting_on : (node : Node) → Further stages (record { network = put g.network node (restarted (stages (g.stage node)).ctx (stages (g.stage node)).settings node (g.network.at node)); stage = g.stage }) turns
  restarting_on node =
      let own = stages (g.stage node) in
      let w = i.well node in
      beside node (restarted own.ctx own.settings node (g.network.at node)) refl (record { well = record { memory = λ m e. e; makes = w.well.makes; nobody = w.well.nobody; comes = w.well.comes }; empty = w.empty })

  -- a word
  said_all : (p : Packet) → IsAmong (posted_by p.from (g.network.at p.from).synced) p → (k : ℕ) (q : Packet) → numbered (g.network.wire ++ p ∷ []) k ≡ Some q → IsAmong (posted_by q.from (g.network.at q.from).synced) q
  said_all p new k q e =
      elim (numbered_more g.network.wire p k q e) [
        | inl old ↦ i.all k q old
        | inr last ↦ subst (λ (x : Packet). IsAmong (posted_by x.from (g.network.at x.from).synced) x) (sym last.1) new
      ]

  saying_on : (node : Node) (k : ℕ) (o : Option Packet) → numbered (posted_by node (g.network.at node).synced) k ≡ o → Further stages (record { network = saying g.network o; stage = g.stage }) turns
  saying_on node k None e = as_it_was stages g turns i
  saying_on node k (Some p) e =
      let own : p.from ≡ node = sent_by_node node (g.network.at node).synced k p e in
      let new : IsAmong (posted_by p.from (g.network.at p.from).synced) p = subst (λ (x : Node). IsAmong (posted_by x (g.network.at x).synced) p) (sym own) (record { number = k; is = e }) in
      as_it_was stages (record { network = record { at = g.network.at; wire = g.network.wire ++ p ∷ [] }; stage = g.stage }) turns (record {
        order = i.order;
        each = i.each;
        all = said_all p new;
        well = λ x. let w = i.well x in record { well = well_with_more (stages (g.stage x)).ctx (stages (g.stage x)).settings g.network.wire (p ∷ []) x (g.network.at x) w.well; empty = w.empty };
      })
    where
      of_node : (node : Node) (sent : List Sent) → AllByRecursion (λ (q : Packet). q.from ≡ node) (map (packet_from node) sent)
      of_node node [] = tt
      of_node node (one ∷ sent) = (refl, of_node node sent)

      sent_by_node : (node : Node) (log : List Logged) (k : ℕ) (p : Packet) → numbered (posted_by node log) k ≡ Some p → p.from ≡ node
      sent_by_node node log k p e = all_at (λ (q : Packet). q.from ≡ node) (posted_by node log) k p (of_node node (flat_map (λ (l : Logged). l.sent) log)) e

  -- a sync: a turn more
  sync_one : (node : Node) (l : Logged) (more : List Logged) (before : AnyNode) → (g.network.at node).unsynced ≡ l ∷ more → node_at (opening (stages (g.stage node)).settings) node ≡ Some before
      → Further stages (record { network = put g.network node (record { memory = (g.network.at node).memory; synced = (g.network.at node).synced ++ l ∷ []; unsynced = more }); stage = g.stage }) turns
  sync_one node l more before is opens =
      let n = g.network in
      let p = n.at node in
      let own = stages (g.stage node) in
      let w = i.well node in
      let come = subst (CanCome n.wire node) is w.well.comes in
      let a : Asked = record { node = node; call = l.call } in
      let again = comes_again (posts_by turns) n.wire come.0.event a (said_in_turns stages g turns i) come.0.asks in
      let t : Turn = record { event = again.event; asked = a; sent = l.sent } in
      let next : Process = record { memory = p.memory; synced = p.synced ++ l ∷ []; unsynced = more } in
      let same : file next ≡ file p = append_assoc p.synced (l ∷ []) more ∙ ap (λ (log : List Logged). p.synced ++ log) (sym is) in
      let longer : (x : Node) → turns_of (turns ++ t ∷ []) x ≡ turns_of turns x ++ turns_of (t ∷ []) x = turns_append turns (t ∷ []) in
      record {
        more = t ∷ [];
        ordered = record {
          order = order_more [] turns t i.order again.asks;
          each = at_each (λ (x : Node) (q : Process). turns_of (turns ++ t ∷ []) x ≡ q.synced) n node next
              (longer node ∙ (ap (λ (log : List Logged). log ++ turns_of (t ∷ []) node) (i.each node) ∙ ap (λ (log : List Logged). p.synced ++ log) (own_turn t [] node (same_self node))))
              (λ other d. elim (told_apart node other) [
                | inl e ↦ absurd (d e.1)
                | inr e ↦ longer other ∙ (ap (λ (log : List Logged). turns_of turns other ++ log) (other_turn t [] other e.0) ∙ (append-nil (turns_of turns other) ∙ i.each other))
              ]);
          all = λ k q e. said_still n node next (record { more = l ∷ []; is = refl }) q (i.all k q e);
          well = at_each (λ (x : Node) (q : Process). IsWellAt (stages (g.stage x)) n.wire x q) n node next
              (record {
                well = record {
                  memory = λ m e. ap (replayed own.ctx own.settings node) same ∙ w.well.memory m e;
                  makes = λ b e. subst (Makes own.ctx b) (sym same) (w.well.makes b e);
                  nobody = λ e. absurd (none_some before (sym e ∙ opens));
                  comes = come.1;
                };
                empty = λ e. absurd (none_some before (sym e ∙ opens));
              })
              (λ other d. i.well other);
        };
      }

  sync_by : (node : Node) (l : Logged) (more : List Logged) (o : Option AnyNode) → (g.network.at node).unsynced ≡ l ∷ more → node_at (opening (stages (g.stage node)).settings) node ≡ o
      → Further stages (record { network = put g.network node (record { memory = (g.network.at node).memory; synced = (g.network.at node).synced ++ l ∷ []; unsynced = more }); stage = g.stage }) turns
  sync_by node l more None is e = absurd (no_nothing l more (sym is ∙ (i.well node).well.nobody e))
  sync_by node l more (Some before) is e = sync_one node l more before is e

  syncing_on : (node : Node) (log : List Logged) → (g.network.at node).unsynced ≡ log → Further stages (record { network = put g.network node (one_synced (g.network.at node) log); stage = g.stage }) turns
  syncing_on node [] is = beside node (g.network.at node) refl (i.well node)
  syncing_on node (l ∷ more) is = sync_by node l more (node_at (opening (stages (g.stage node)).settings) node) is refl

-- ---- growth

-- settings have grown to those of any later stage
grows_same : (stages : ℕ → Stage) (j k : ℕ) → j ≡ k → Grows (stages j).ctx (stages k).ctx (stages j).settings (stages k).settings
grows_same stages j k e = subst (λ (n : ℕ). Grows (stages j).ctx (stages n).ctx (stages j).settings (stages n).settings) e (grows_itself (stages j).ctx (stages j).settings)

pub grows_to : (stages : ℕ → Stage) → Grow stages → (j k : ℕ) → j ≤ k → Grows (stages j).ctx (stages k).ctx (stages j).settings (stages k).settings
grows_to stages grow j zero le = grows_same stages j 0 (omega (arith, le))
grows_to stages grow j (suc k) le =
    elim (cases_eq j (suc k)) [
      | inl same ↦ grows_same stages j (suc k) same
      | inr other ↦
          grows_on (stages j).ctx (stages k).ctx (stages (suc k)).ctx (stages j).settings (stages k).settings (stages (suc k)).settings (grows_to stages grow j k (below j k le other)) (grow k)
    ]
  where
    below : (j k : ℕ) → j ≤ suc k → (j ≡ suc k → ⊥) → j ≤ k
    below j k h d = grind (arith, h, d)

-- a log under grown settings: its node makes it, and where there is none it is empty
pub record IsOver (own : Stage) (node : Node) (log : List Logged) : Type 0 where
  pub makes : (before : AnyNode) → node_at (opening own.settings) node ≡ Some before → Makes own.ctx before log
  pub nobody : node_at (opening own.settings) node ≡ None → log ≡ []

pub log_over : (old new : Stage) (node : Node) (log : List Logged) → Grows old.ctx new.ctx old.settings new.settings → RejectionsStay old.ctx new.ctx node log → IsOver old node log → IsOver new node log
log_over old new node log grows stay o = by_node (node_at (opening old.settings) node) refl
  where
    by_node : (there : Option AnyNode) → node_at (opening old.settings) node ≡ there → IsOver new node log
    by_node None e =
        let none = o.nobody e in
        record { makes = λ before is. subst (Makes new.ctx before) (sym none) tt; nobody = λ is. none }
    by_node (Some first) e =
        let over = goes_over old.ctx new.ctx old.settings new.settings node first log grows e stay (o.makes first e) in
        record {
          makes = λ before is. subst (λ (x : AnyNode). Makes new.ctx x log) (same_some (with_cap over.cap first) before (sym over.opens ∙ is)) over.makes;
          nobody = λ is. absurd (none_some (with_cap over.cap first) (sym is ∙ over.opens));
        }

is_empty : (p : Process) → p.synced ≡ [] → p.unsynced ≡ [] → file p ≡ []
is_empty p a b = ap (λ (log : List Logged). log ++ p.unsynced) a ∙ b

pub own_log : (own : Stage) (wire : List Packet) (node : Node) (p : Process) → IsWellAt own wire node p → IsOver own node (file p)
own_log own wire node p w = record { makes = w.well.makes; nobody = λ e. is_empty p (w.empty e) (w.well.nobody e) }

nothing_first : {A : Type 0} (xs ys : List A) → xs ++ ys ≡ [] → (xs ≡ []) × (ys ≡ [])
nothing_first [] ys e = (refl, e)
nothing_first (x ∷ xs) ys e = absurd cc

-- the stage of a node that goes over, and those of the others
stage_own : (stage : Node → ℕ) (node : Node) (k : ℕ) → staged stage node k node ≡ k
stage_own stage node k = ap (λ b. cond b k (stage node)) (same_self node)

stage_other : (stage : Node → ℕ) (node other : Node) (k : ℕ) → same_node node other ≡ false → staged stage node k other ≡ stage other
stage_other stage node other k e = ap (λ b. cond b k (stage other)) e

going_on : (stages : ℕ → Stage) (g : Growing) (turns : List Turn) (node : Node) → IsOrdered stages g turns → Grow stages → RejectionsStay (stages (g.stage node)).ctx (stages (suc (g.stage node))).ctx node (file (g.network.at node))
    → Further stages (changed stages g (Going node)) turns
going_on stages g turns node i grow stay =
    let n = g.network in
    let p = n.at node in
    let w = i.well node in
    let old = stages (g.stage node) in
    let new = stages (suc (g.stage node)) in
    let next = stopped p in
    let over = log_over old new node (file p) (grow (g.stage node)) stay (own_log old n.wire node p w) in
    let well : IsWellAt new n.wire node next = record {
      well = record {
        memory = λ m e. absurd (none_some m e);
        makes = over.makes;
        nobody = λ e. (nothing_first p.synced p.unsynced (over.nobody e)).1;
        comes = w.well.comes;
      };
      empty = λ e. (nothing_first p.synced p.unsynced (over.nobody e)).0;
    } in
    let stage = staged g.stage node (suc (g.stage node)) in
    as_it_was stages (changed stages g (Going node)) turns (record {
      order = i.order;
      each = at_each (λ (x : Node) (q : Process). turns_of turns x ≡ q.synced) n node next (i.each node) (λ other d. i.each other);
      all = λ k q e. said_still n node next (record { more = []; is = sym (append-nil p.synced) }) q (i.all k q e);
      well = λ x. elim (told_apart node x) [
        | inl e ↦
            subst (λ (y : Node). IsWellAt (stages (stage y)) n.wire y ((put n node next).at y)) e.1
            (subst (λ (j : ℕ). IsWellAt (stages j) n.wire node ((put n node next).at node)) (sym (stage_own g.stage node (suc (g.stage node))))
            (subst (IsWellAt new n.wire node) (sym (put_own n node next)) well))
        | inr e ↦
            subst (λ (j : ℕ). IsWellAt (stages j) n.wire x ((put n node next).at x)) (sym (stage_other g.stage node x (suc (g.stage node)) e.0))
            (subst (IsWellAt (stages (g.stage x)) n.wire x) (sym (ap (λ b. cond b next (n.at x)) e.0)) (i.well x))
      ];
    })

-- ---- any change

moving_on : (stages : ℕ → Stage) (g : Growing) (turns : List Turn) (move : Move) → IsOrdered stages g turns → Further stages (changed stages g (Moving move)) turns
unfolding moved
moving_on stages g turns (Calling event) i = calling_on stages g turns i (asked g.network.wire event) event refl
moving_on stages g turns (Syncing node) i = syncing_on stages g turns i node (g.network.at node).unsynced refl
moving_on stages g turns (Saying node k) i = saying_on stages g turns i node k (numbered (posted_by node (g.network.at node).synced) k) refl
moving_on stages g turns (Crashing node left) i = crashing_on stages g turns i node left
moving_on stages g turns (Restarting node) i = restarting_on stages g turns i node

change_on : (stages : ℕ → Stage) (g : Growing) (turns : List Turn) (change : Change) → Grow stages → IsOrdered stages g turns → StaysAt stages g change → Further stages (changed stages g change) turns
change_on stages g turns (Moving move) grow i stay = moving_on stages g turns move i
change_on stages g turns (Going node) grow i stay = going_on stages g turns node i grow stay

pub changes_on : (stages : ℕ → Stage) (g : Growing) (turns : List Turn) (changes : List Change) → Grow stages → IsOrdered stages g turns → StayFrom stages g changes → Further stages (after_changes stages g changes) turns
changes_on stages g turns [] grow i stay = as_it_was stages g turns i
changes_on stages g turns (change ∷ changes) grow i stay =
    let one = change_on stages g turns change grow i stay.0 in
    let rest = changes_on stages (changed stages g change) (turns ++ one.more) changes grow one.ordered stay.1 in
    record { more = one.more ++ rest.more; ordered = subst (IsOrdered stages (after_changes stages (changed stages g change) changes)) (append_assoc turns one.more rest.more) rest.ordered }

-- at the outset nothing has an order
pub at_first : (stages : ℕ → Stage) → IsOrdered stages at_outset []
at_first stages =
    record {
      order = tt;
      each = λ (node : Node). refl;
      all = λ k p e. absurd (nothing_numbered k p e);
      well = λ (node : Node). record { well = record { memory = λ m e. absurd cc; makes = λ before e. tt; nobody = λ e. refl; comes = tt }; empty = λ e. refl };
    }
