-- How an event ends, and what it adds to the logs.
use Rattle.std.proofs.Common.{◌≡◌, true, false, cond, List, [], ◌∷◌, ◌++◌, Option, Some, None, refl, sym, ap, ◌∙◌}
use Rattle.claim_model.specs.Context.{Context}
use Rattle.claim_model.specs.Refusal.{Refusal}
use Rattle.claim_model.specs.Node.{Node, Sent, Outcome, Done, Refused}
use Rattle.claim_model.specs.World.{World, Event, step, world_after}
use Rattle.claim_model.specs.Nodes.{Asked, asked, asked_step, same_node}
use Rattle.claim_model.specs.Logs.{Logged, logged_by, log_in}
use Rattle.claim_model.specs.Local.{Follows}
use Rattle.claim_model.proofs.Steps.{follows, step_asked}

-- an event is refused, or it is one call that is made
pub data Ended (ctx : Context) (w : World) (event : Event) : Type 0 where
  Unchanged : (why : Refusal) → step ctx w event ≡ Refused why → Ended ctx w event
  One_call : (a : Asked) → (v : World) → (sent : List Sent) → asked w.packets event ≡ Some a → step ctx w event ≡ Done v sent → Follows ctx w v a.node a.call sent → Ended ctx w event

ended_by : (ctx : Context) (w : World) (event : Event) (o : Option Asked) (e : Outcome World) → asked w.packets event ≡ o → step ctx w event ≡ e → Ended ctx w event
ended_by ctx w event o (Refused why) p q = Unchanged why q
ended_by ctx w event None (Done v sent) p q =
    let wrong : Refused Rattle.claim_model.specs.Refusal.NoSuchPacket ≡ Done v sent = sym (ap (asked_step ctx w) p) ∙ (sym (step_asked ctx w event) ∙ q) in
    absurd cc
ended_by ctx w event (Some a) (Done v sent) p q =
    One_call a v sent p q (follows ctx w v a.node a.call sent (sym (ap (asked_step ctx w) p) ∙ (sym (step_asked ctx w event) ∙ q)))

pub ended : (ctx : Context) (w : World) (event : Event) → Ended ctx w event
ended ctx w event = ended_by ctx w event (asked w.packets event) (step ctx w event) refl refl

-- a refused event is in no log
nothing_logged : (node : Node) (o : Option Asked) (why : Refusal) → logged_by node o (Refused why) ≡ []
nothing_logged node None why = refl
nothing_logged node (Some a) why = refl

pub log_unchanged : (ctx : Context) (w : World) (event : Event) (events : List Event) (node : Node) (why : Refusal) → step ctx w event ≡ Refused why → log_in ctx w (event ∷ events) node ≡ log_in ctx w events node
log_unchanged ctx w event events node why q =
    ap (λ (o : Outcome World). logged_by node (asked w.packets event) o ++ log_in ctx (world_after w o) events node) q
    ∙ ap (λ (l : List Logged). l ++ log_in ctx w events node) (nothing_logged node (asked w.packets event) why)

log_called : (ctx : Context) (w v : World) (event : Event) (events : List Event) (node : Node) (a : Asked) (sent : List Sent) → asked w.packets event ≡ Some a → step ctx w event ≡ Done v sent
    → log_in ctx w (event ∷ events) node ≡ cond (same_node a.node node) (record { call = a.call; sent = sent } ∷ []) [] ++ log_in ctx v events node
log_called ctx w v event events node a sent p q =
    ap (λ (o : Outcome World). logged_by node (asked w.packets event) o ++ log_in ctx (world_after w o) events node) q
    ∙ ap (λ (o : Option Asked). logged_by node o (Done v sent) ++ log_in ctx v events node) p

-- a call is in the log of its node
pub log_own : (ctx : Context) (w v : World) (event : Event) (events : List Event) (node : Node) (a : Asked) (sent : List Sent) → asked w.packets event ≡ Some a → step ctx w event ≡ Done v sent
    → same_node a.node node ≡ true → log_in ctx w (event ∷ events) node ≡ record { call = a.call; sent = sent } ∷ log_in ctx v events node
log_own ctx w v event events node a sent p q t =
    log_called ctx w v event events node a sent p q ∙ ap (λ b. cond b (record { call = a.call; sent = sent } ∷ []) [] ++ log_in ctx v events node) t

-- and of no other
pub log_other : (ctx : Context) (w v : World) (event : Event) (events : List Event) (node : Node) (a : Asked) (sent : List Sent) → asked w.packets event ≡ Some a → step ctx w event ≡ Done v sent
    → same_node a.node node ≡ false → log_in ctx w (event ∷ events) node ≡ log_in ctx v events node
log_other ctx w v event events node a sent p q t =
    log_called ctx w v event events node a sent p q ∙ ap (λ b. cond b (record { call = a.call; sent = sent } ∷ []) [] ++ log_in ctx v events node) t
