-- The replay of a log is the node of the run.
use Rattle.std.proofs.Common.{◌≡◌, List, [], ◌∷◌, Option, Some, None, refl, sym, ap, ◌∙◌, subst, inl, inr}
use Rattle.claim_model.specs.Context.{Context}
use Rattle.claim_model.specs.Node.{Node, Outcome, Done, Refused}
use Rattle.claim_model.specs.World.{World, Event, step, world_after, run}
use Rattle.claim_model.specs.Nodes.{AnyNode, node_step, node_at}
use Rattle.claim_model.specs.Logs.{Logged, log_in, node_after, replay, Makes}
use Rattle.claim_model.specs.Replays.{Replays}
use Rattle.claim_model.proofs.Names.{told_apart}
use Rattle.claim_model.proofs.Ends.{Unchanged, One_call, ended, log_unchanged, log_own, log_other}

-- the world after an event

pub run_unchanged : (ctx : Context) (w : World) (event : Event) (events : List Event) (o : Outcome World) → step ctx w event ≡ o → run ctx w (event ∷ events) ≡ run ctx (world_after w o) events
run_unchanged ctx w event events o q = ap (λ (e : Outcome World). run ctx (world_after w e) events) q

-- a log that is made, and where its replay leads
record Made (ctx : Context) (before : AnyNode) (log : List Logged) (end : Option AnyNode) : Type 0 where
  makes : Makes ctx before log
  leads : end ≡ Some (replay ctx before log)

made_more : (ctx : Context) (before after : AnyNode) (l : Logged) (log : List Logged) (end : Option AnyNode) → node_step ctx before l.call ≡ Done after l.sent → Made ctx after log end → Made ctx before (l ∷ log) end
made_more ctx before after l log end steps m =
    let n : after ≡ node_after before (node_step ctx before l.call) = ap (node_after before) (sym steps) in
    record {
      makes = (steps ∙ ap (λ (x : AnyNode). Done x l.sent) n, subst (λ (x : AnyNode). Makes ctx x log) n m.makes);
      leads = m.leads ∙ ap (λ (x : AnyNode). Some (replay ctx x log)) n;
    }

-- the same node before a call
pub node_was : (w : World) (node other : Node) (a b : AnyNode) → other ≡ node → node_at w node ≡ Some a → node_at w other ≡ Some b → b ≡ a
node_was w node other a b same is was = let e : Some b ≡ Some a = sym was ∙ (ap (node_at w) same ∙ is) in cc

made_in : (ctx : Context) (w : World) (events : List Event) (node : Node) (before : AnyNode) → node_at w node ≡ Some before → Made ctx before (log_in ctx w events node) (node_at (run ctx w events) node)
made_in ctx w [] node before is = record { makes = tt; leads = is }
made_in ctx w (event ∷ events) node before is =
    elim (ended ctx w event) [
      | Unchanged why q ↦
          subst (λ (log : List Logged). Made ctx before log (node_at (run ctx w (event ∷ events)) node)) (sym (log_unchanged ctx w event events node why q))
          (subst (λ (x : World). Made ctx before (log_in ctx w events node) (node_at x node)) (sym (run_unchanged ctx w event events (Refused why) q))
          (made_in ctx w events node before is))
      | One_call a v sent p q f ↦
          subst (λ (x : World). Made ctx before (log_in ctx w (event ∷ events) node) (node_at x node)) (sym (run_unchanged ctx w event events (Done v sent) q))
          (elim (told_apart a.node node) [
            | inl t ↦
                subst (λ (log : List Logged). Made ctx before log (node_at (run ctx v events) node)) (sym (log_own ctx w v event events node a sent p q t.0))
                (made_more ctx before f.after (record { call = a.call; sent = sent }) (log_in ctx v events node) (node_at (run ctx v events) node)
                (subst (λ (x : AnyNode). node_step ctx x a.call ≡ Done f.after sent) (node_was w node a.node before f.before t.1 is f.was) f.steps)
                (made_in ctx v events node f.after (ap (node_at v) (sym t.1) ∙ f.is)))
            | inr t ↦
                subst (λ (log : List Logged). Made ctx before log (node_at (run ctx v events) node)) (sym (log_other ctx w v event events node a sent p q t.0))
                (made_in ctx v events node before (f.others node (λ e. t.1 (sym e)) ∙ is))
          ])
    ]

pub replays : (ctx : Context) (w : World) (events : List Event) (node : Node) (before : AnyNode) → node_at w node ≡ Some before → Replays ctx w events node before
replays ctx w events node before is = let m = made_in ctx w events node before is in record { makes = m.makes; leads = m.leads }

-- a node that is not there

pub absent_stays : (ctx : Context) (w : World) (events : List Event) (node : Node) → node_at w node ≡ None → (log_in ctx w events node ≡ []) × (node_at (run ctx w events) node ≡ None)
absent_stays ctx w [] node is = (refl, is)
absent_stays ctx w (event ∷ events) node is =
    elim (ended ctx w event) [
      | Unchanged why q ↦
          let r = absent_stays ctx w events node is in
          (log_unchanged ctx w event events node why q ∙ r.0, ap (λ (x : World). node_at x node) (run_unchanged ctx w event events (Refused why) q) ∙ r.1)
      | One_call a v sent p q f ↦
          (elim (told_apart a.node node) [
            | inl t ↦ let wrong : None ≡ Some f.before = sym is ∙ (ap (node_at w) (sym t.1) ∙ f.was) in absurd cc
            | inr t ↦
                let r = absent_stays ctx v events node (f.others node (λ e. t.1 (sym e)) ∙ is) in
                (log_other ctx w v event events node a sent p q t.0 ∙ r.0, ap (λ (x : World). node_at x node) (run_unchanged ctx w event events (Done v sent) q) ∙ r.1)
          ])
    ]
