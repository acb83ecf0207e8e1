-- What the disks of a growing network hold together is a run under the settings that all have or can go over to.
use Rattle.std.proofs.Common.{◌≡◌, ℕ, List, [], ◌++◌, Option, Some, None, refl, sym, ap, ◌∙◌, subst, inl, inr}
use Rattle.claim_model.specs.Context.{Context}
use Rattle.claim_model.specs.Numbered.{numbered}
use Rattle.claim_model.specs.Node.{Node}
use Rattle.claim_model.specs.World.{World, Packet, Event, run}
use Rattle.claim_model.specs.Settings.{opening}
use Rattle.claim_model.specs.Nodes.{AnyNode, node_at}
use Rattle.claim_model.specs.Logs.{Logged, log_in, posted_by}
use Rattle.claim_model.specs.Promises.{Always, OneAnswer, OneStandingPayment, ReversedByOwner, CountedPaymentsStand, StandingAreCounted}
use Rattle.claim_model.proofs.Lists.{all_at, all_weaker}
use Rattle.claim_model.proofs.Held.{one_answer}
use Rattle.claim_model.proofs.Owners.{one_standing, reversed_by_owner}
use Rattle.claim_model.proofs.Counting.{counted_stand}
use Rattle.claim_model.proofs.CountedInFull.{standing_counted}
use Rattle.claim_model.proofs.Walking.{nothing_left}
use Rattle.settings_growth.specs.Orders.{Turn, events_of, turns_of}
use Rattle.settings_growth.proofs.Turns.{MakesAt, made_turns}
use Rattle.crash_safety.specs.Network.{Process, Network, file}
use Rattle.crash_safety.specs.Runs.{IsAmong, IsReplay, HasRun, on_disks, in_files}
use Rattle.crash_safety.specs.Kept.{AreNodes}
use Rattle.crash_safety.specs.Growing.{Stage, Grow, Growing, Change, stopped, at_outset, grown, Stay, AreWithin, RunsAt, WhateverGrows}
use Rattle.crash_safety.proofs.Replaying.{makes_left}
use Rattle.crash_safety.proofs.Sound.{Comes, IsSound}
use Rattle.crash_safety.proofs.Moving.{comes_again, empty_left, none_some, sent_by}
use Rattle.crash_safety.proofs.Finishing.{files_run}
use Rattle.crash_safety.proofs.Worlds.{with_packets, nodes_of_run, is_of_run, reached}
use Rattle.crash_safety.proofs.Promises.{one_standing_with, reversed_with, counted_with, in_full_with, one_answer_with}
use Rattle.crash_safety.proofs.Ordering.{IsOrdered, IsOver, own_log, log_over, grows_to, changes_on, at_first}

-- the network without its memories
abbrev pub asleep : Network → Network
asleep n = record { at = λ (node : Node). stopped (n.at node); wire = n.wire }

front_empty : (p : Process) → file p ≡ [] → p.synced ≡ []
front_empty p e = empty_left p.synced p.unsynced e

behind_empty : (p : Process) → file p ≡ [] → p.unsynced ≡ []
behind_empty p e = nothing_left p.synced p.unsynced (sym e)

module _ (stages : ℕ → Stage) (g : Growing) (turns : List Turn) (k : ℕ) (grow : Grow stages) (are : AreWithin stages g k) (i : IsOrdered stages g turns) where
  abbrev own : Stage
  own = stages k

  abbrev n : Network
  n = g.network

  over : (node : Node) → IsOver own node (file (n.at node))
  over node =
      let old = stages (g.stage node) in
      log_over old own node (file (n.at node)) (grows_to stages grow (g.stage node) k (are.within node)) (are.stay node) (own_log old n.wire node (n.at node) (i.well node))

  made : (node : Node) → MakesAt own.ctx (node_at (opening own.settings) node) (turns_of turns node)
  made node = subst (MakesAt own.ctx (node_at (opening own.settings) node)) (sym (i.each node)) (by_node (node_at (opening own.settings) node) refl)
    where
      by_node : (there : Option AnyNode) → node_at (opening own.settings) node ≡ there → MakesAt own.ctx there (n.at node).synced
      by_node None e = front_empty (n.at node) ((over node).nobody e)
      by_node (Some before) e = makes_left own.ctx before (n.at node).synced (n.at node).unsynced ((over node).makes before e)

  pub sound : IsSound own.ctx own.settings (asleep n) (events_of turns)
  sound =
      let r = made_turns own.ctx (opening own.settings) turns i.order made in
      let packets = (run own.ctx (opening own.settings) (events_of turns)).packets in
      let logs : (node : Node) → log_in own.ctx (opening own.settings) (events_of turns) node ≡ (n.at node).synced = λ node. r.each node ∙ i.each node in
      let sent : (j : ℕ) (p : Packet) → numbered n.wire j ≡ Some p → IsAmong packets p =
      λ j p e.
      let a = i.all j p e in
      all_at (IsAmong packets) (posted_by p.from (log_in own.ctx (opening own.settings) (events_of turns) p.from)) a.number p (sent_by own.ctx own.settings (events_of turns) p.from)
      (ap (λ (log : List Logged). numbered (posted_by p.from log) a.number) (logs p.from) ∙ a.is) in
      record {
        has = record { accepted = r.accepted; each = logs; all = sent };
        each = λ node. record {
          memory = λ m e. absurd (none_some m e);
          makes = (over node).makes;
          nobody = λ e. behind_empty (n.at node) ((over node).nobody e);
          comes = all_weaker (λ (l : Logged). Comes n.wire node l.call) (λ (l : Logged). Comes packets node l.call)
              (λ l c. comes_again packets n.wire c.event (record { node = node; call = l.call }) sent c.asks) (n.at node).unsynced (i.well node).well.comes;
        };
      }

pub runs_at : (stages : ℕ → Stage) (changes : List Change) (k : ℕ) → Grow stages → Stay stages changes → AreWithin stages (grown stages changes) k → RunsAt (stages k) (grown stages changes).network
runs_at stages changes k grow stay are =
    let g = grown stages changes in
    let o = changes_on stages at_outset [] changes grow (at_first stages) stay in
    let s = sound stages g o.more k grow are o.ordered in
    let f = files_run (stages k).ctx (stages k).settings (asleep g.network) (events_of o.more) s in
    record { events = events_of o.more; beyond = f.beyond; disks = s.has; files = f.has }

-- a process that lives has in memory what its log makes under the settings that it has
pub replays_at : (stages : ℕ → Stage) (changes : List Change) (node : Node) → Grow stages → Stay stages changes
    → IsReplay (stages ((grown stages changes).stage node)).ctx (stages ((grown stages changes).stage node)).settings node ((grown stages changes).network.at node)
replays_at stages changes node grow stay =
    let w = (changes_on stages at_outset [] changes grow (at_first stages) stay).ordered.well node in
    record { memory = w.well.memory; makes = w.well.makes }

-- there are worlds of them

pub grown_disks : (stages : ℕ → Stage) (changes : List Change) (k : ℕ) → Grow stages → Stay stages changes → AreWithin stages (grown stages changes) k
    → (w : World) × AreNodes (stages k).ctx (stages k).settings (on_disks (grown stages changes).network) w
grown_disks stages changes k grow stay are =
    let own = stages k in
    let r = runs_at stages changes k grow stay are in
    let n = (grown stages changes).network in
    (run own.ctx (opening own.settings) r.events, nodes_of_run own.ctx own.settings (on_disks n) n.wire r.events r.disks)

pub grown_files : (stages : ℕ → Stage) (changes : List Change) (k : ℕ) → Grow stages → Stay stages changes → AreWithin stages (grown stages changes) k
    → (w : World) × AreNodes (stages k).ctx (stages k).settings (in_files (grown stages changes).network) w
grown_files stages changes k grow stay are =
    let own = stages k in
    let r = runs_at stages changes k grow stay are in
    let n = (grown stages changes).network in
    (run own.ctx (opening own.settings) (r.events ++ r.beyond), nodes_of_run own.ctx own.settings (in_files n) n.wire (r.events ++ r.beyond) r.files)

-- so the promises hold of them

whatever : (P : Context → World → Type 0) → ((ctx : Context) (r : World) (packets : List Packet) → P ctx r → P ctx (with_packets r packets)) → Always P → WhateverGrows P
whatever P carry always = λ stages changes k w grow stay are laws accepts holds.
    let own = stages k in
    let n = (grown stages changes).network in
    let r = runs_at stages changes k grow stay are in
    let of : (logs : Node → List Logged) (events : List Event) → HasRun own.ctx own.settings logs n.wire events → AreNodes own.ctx own.settings logs w → P own.ctx w =
    λ logs events has nodes.
    subst (P own.ctx) (sym (is_of_run own.ctx own.settings logs n.wire events w has nodes))
    (carry own.ctx (run own.ctx (opening own.settings) events) w.packets (always own.ctx own.settings (run own.ctx (opening own.settings) events) (reached own.ctx own.settings events laws accepts))) in
    elim holds [
      | inl disks ↦ of (on_disks n) r.events r.disks disks
      | inr files ↦ of (in_files n) (r.events ++ r.beyond) r.files files
    ]

pub one_standing_grown : WhateverGrows OneStandingPayment
one_standing_grown = whatever OneStandingPayment one_standing_with one_standing

pub reversed_grown : WhateverGrows ReversedByOwner
reversed_grown = whatever ReversedByOwner reversed_with reversed_by_owner

pub counted_grown : WhateverGrows CountedPaymentsStand
counted_grown = whatever CountedPaymentsStand counted_with counted_stand

pub in_full_grown : WhateverGrows StandingAreCounted
in_full_grown = whatever StandingAreCounted in_full_with standing_counted

pub one_answer_grown : WhateverGrows (λ (ctx : Context) (w : World). OneAnswer ctx w w)
one_answer_grown = whatever (λ (ctx : Context) (w : World). OneAnswer ctx w w) (λ ctx r packets o. one_answer_with ctx r r packets packets o) (λ ctx s w r. one_answer ctx s w [] r)
