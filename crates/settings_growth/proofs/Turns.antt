-- Logs that their nodes make, in an order in which each packet is sent before it is taken, are those of a run.
use Rattle.std.proofs.Common.{◌≡◌, true, false, cond, List, [], ◌∷◌, ◌++◌, Option, Some, None, refl, sym, ap, ◌∙◌, subst, inl, inr}
use Rattle.claim_model.specs.Context.{Context}
use Rattle.claim_model.specs.Node.{Node, Sent, Done}
use Rattle.claim_model.specs.World.{World, Packet, Event, posted, step, world_after}
use Rattle.claim_model.specs.Nodes.{AnyNode, node_step, node_at, called, Asked, asked, asked_step, same_node}
use Rattle.claim_model.specs.Logs.{Logged, log_in, node_after, Makes}
use Rattle.claim_model.specs.Interleavings.{IsDone, AllAccepted}
use Rattle.claim_model.proofs.Names.{told_apart, same_self}
use Rattle.claim_model.proofs.Steps.{follows, accepted, step_asked}
use Rattle.claim_model.proofs.Ends.{Unchanged, One_call, ended, log_own, log_other}
use Rattle.settings_growth.specs.Orders.{Turn, IsOrder, events_of, turns_of}

-- the node that is there makes the log; where none is, the log is empty
abbrev pub MakesAt : Context → Option AnyNode → List Logged → Type 0
MakesAt ctx None log = log ≡ []
MakesAt ctx (Some node) log = Makes ctx node log

-- the calls of a node after a turn

own_turn : (t : Turn) (turns : List Turn) (node : Node) → same_node t.asked.node node ≡ true → turns_of (t ∷ turns) node ≡ record { call = t.asked.call; sent = t.sent } ∷ turns_of turns node
own_turn t turns node e = ap (λ b. cond b (record { call = t.asked.call; sent = t.sent } ∷ []) [] ++ turns_of turns node) e

other_turn : (t : Turn) (turns : List Turn) (node : Node) → same_node t.asked.node node ≡ false → turns_of (t ∷ turns) node ≡ turns_of turns node
other_turn t turns node e = ap (λ b. cond b (record { call = t.asked.call; sent = t.sent } ∷ []) [] ++ turns_of turns node) e

-- the run of turns
pub record IsRun (ctx : Context) (w : World) (turns : List Turn) : Type 0 where
  pub accepted : AllAccepted ctx w (events_of turns)
  pub each : (node : Node) → log_in ctx w (events_of turns) node ≡ turns_of turns node

-- a turn that is accepted, and the run after it
one_more : (ctx : Context) (w v : World) (t : Turn) (turns : List Turn) → asked w.packets t.event ≡ Some t.asked → step ctx w t.event ≡ Done v t.sent → IsRun ctx v turns → IsRun ctx w (t ∷ turns)
one_more ctx w v t turns asks is r =
    record {
      accepted = (subst IsDone (sym is) tt, subst (λ o. AllAccepted ctx (world_after w o) (events_of turns)) (sym is) r.accepted);
      each = λ node. elim (told_apart t.asked.node node) [
        | inl own ↦ log_own ctx w v t.event (events_of turns) node t.asked t.sent asks is own.0 ∙ (ap (λ (log : List Logged). record { call = t.asked.call; sent = t.sent } ∷ log) (r.each node) ∙ sym (own_turn t turns node own.0))
        | inr other ↦ log_other ctx w v t.event (events_of turns) node t.asked t.sent asks is other.0 ∙ (r.each node ∙ sym (other_turn t turns node other.0))
      ];
    }

-- the node of the first turn makes its call
record First (ctx : Context) (w : World) (t : Turn) (turns : List Turn) : Type 0 where
  before : AnyNode
  there : node_at w t.asked.node ≡ Some before
  after : AnyNode
  steps : node_step ctx before t.asked.call ≡ Done after t.sent
  rest : Makes ctx after (turns_of turns t.asked.node)

first_by : (ctx : Context) (w : World) (t : Turn) (turns : List Turn) (o : Option AnyNode) → node_at w t.asked.node ≡ o → MakesAt ctx o (record { call = t.asked.call; sent = t.sent } ∷ turns_of turns t.asked.node) → First ctx w t turns
first_by ctx w t turns None is m = absurd cc
first_by ctx w t turns (Some before) is m = record { before = before; there = is; after = node_after before (node_step ctx before t.asked.call); steps = m.0; rest = m.1 }

first : (ctx : Context) (w : World) (t : Turn) (turns : List Turn) → MakesAt ctx (node_at w t.asked.node) (turns_of (t ∷ turns) t.asked.node) → First ctx w t turns
first ctx w t turns m =
    first_by ctx w t turns (node_at w t.asked.node) refl (subst (MakesAt ctx (node_at w t.asked.node)) (own_turn t turns t.asked.node (same_self t.asked.node)) m)

same_after : (f : AnyNode → Option AnyNode) (x y : AnyNode) (sent other : List Sent) → ◌≡◌ {A = Rattle.claim_model.specs.Node.Outcome AnyNode} (Done x sent) (Done y other) → x ≡ y
same_after f x y sent other e = cc

pub made_turns : (ctx : Context) (w : World) (turns : List Turn) → IsOrder w.packets turns → ((node : Node) → MakesAt ctx (node_at w node) (turns_of turns node)) → IsRun ctx w turns
made_turns ctx w [] order made = record { accepted = tt; each = λ node. refl }
made_turns ctx w (t ∷ turns) order made =
    let f = first ctx w t turns (made t.asked.node) in
    let a = accepted ctx w t.asked.node t.asked.call f.after t.sent (ap (λ (o : Option AnyNode). called ctx o t.asked.call) f.there ∙ f.steps) in
    let v = a.0 in
    let is : step ctx w t.event ≡ Done v t.sent = step_asked ctx w t.event ∙ (ap (asked_step ctx w) order.0 ∙ a.1) in
    let k = follows ctx w v t.asked.node t.asked.call t.sent a.1 in
    one_more ctx w v t turns order.0 is
    (made_turns ctx v turns (subst (λ (ps : List Packet). IsOrder ps turns) (sym k.posts) order.1)
    (λ node. elim (told_apart t.asked.node node) [
      | inl own ↦
          let before : ◌≡◌ {A = Option AnyNode} (Some k.before) (Some f.before) = sym k.was ∙ f.there in
          let was : k.before ≡ f.before = cc in
          let next : k.after ≡ f.after = same_after (λ (x : AnyNode). Some x) k.after f.after t.sent t.sent (sym k.steps ∙ (ap (λ (x : AnyNode). node_step ctx x t.asked.call) was ∙ f.steps)) in
          subst (λ (x : Node). MakesAt ctx (node_at v x) (turns_of turns x)) own.1
          (subst (λ (o : Option AnyNode). MakesAt ctx o (turns_of turns t.asked.node)) (sym k.is)
          (subst (λ (x : AnyNode). Makes ctx x (turns_of turns t.asked.node)) (sym next) f.rest))
      | inr other ↦
          subst (λ (o : Option AnyNode). MakesAt ctx o (turns_of turns node)) (sym (k.others node (λ e. other.1 (sym e))))
          (subst (MakesAt ctx (node_at w node)) (other_turn t turns node other.0) (made node))
    ]))

-- ---- and back: a run has turns

pub record RunTurns (ctx : Context) (w : World) (events : List Event) : Type 0 where
  pub turns : List Turn
  pub events_are : events_of turns ≡ events
  pub order : IsOrder w.packets turns
  pub each : (node : Node) → turns_of turns node ≡ log_in ctx w events node

turn_before : (ctx : Context) (w v : World) (event : Event) (events : List Event) (a : Asked) (sent : List Sent) → asked w.packets event ≡ Some a → step ctx w event ≡ Done v sent → v.packets ≡ posted w.packets a.node sent → RunTurns ctx v events → RunTurns ctx w (event ∷ events)
turn_before ctx w v event events a sent asks is posts r =
    let t : Turn = record { event = event; asked = a; sent = sent } in
    record {
      turns = t ∷ r.turns;
      events_are = ap (λ (es : List Event). event ∷ es) r.events_are;
      order = (asks, subst (λ (ps : List Packet). IsOrder ps r.turns) posts r.order);
      each = λ node. elim (told_apart a.node node) [
        | inl own ↦ own_turn t r.turns node own.0 ∙ (ap (λ (log : List Logged). record { call = a.call; sent = sent } ∷ log) (r.each node) ∙ sym (log_own ctx w v event events node a sent asks is own.0))
        | inr other ↦ other_turn t r.turns node other.0 ∙ (r.each node ∙ sym (log_other ctx w v event events node a sent asks is other.0))
      ];
    }

pub run_turns : (ctx : Context) (w : World) (events : List Event) → AllAccepted ctx w events → RunTurns ctx w events
run_turns ctx w [] all = record { turns = []; events_are = refl; order = tt; each = λ node. refl }
run_turns ctx w (event ∷ events) all =
    elim (ended ctx w event) [
      | Unchanged why q ↦ absurd (subst IsDone q all.0)
      | One_call a v sent p q f ↦ turn_before ctx w v event events a sent p q f.posts (run_turns ctx v events (subst (λ o. AllAccepted ctx (world_after w o) events) q all.1))
    ]
