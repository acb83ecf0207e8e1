-- Runs and logs, one after the other.
use Rattle.std.proofs.Common.{◌≡◌, List, [], ◌∷◌, ◌++◌, Option, Some, refl, sym, ap, ◌∙◌, append_assoc}
use Rattle.claim_model.specs.Context.{Context}
use Rattle.claim_model.specs.Node.{Node, Done}
use Rattle.claim_model.specs.World.{World, Event, step, world_after, run}
use Rattle.claim_model.specs.Nodes.{AnyNode, node_step, node_at, called, asked, asked_step}
use Rattle.claim_model.specs.Logs.{Logged, logged_by, log_in, node_after, replay, Makes}
use Rattle.claim_model.specs.Interleavings.{AllAccepted}
use Rattle.claim_model.proofs.Steps.{accepted, step_asked}
use Rattle.claim_model.proofs.Replaying.{replays}

pub run_append : (ctx : Context) (w : World) (events more : List Event) → run ctx w (events ++ more) ≡ run ctx (run ctx w events) more
run_append ctx w [] more = refl
run_append ctx w (event ∷ events) more = run_append ctx (world_after w (step ctx w event)) events more

pub log_append : (ctx : Context) (w : World) (events more : List Event) (node : Node) → log_in ctx w (events ++ more) node ≡ log_in ctx w events node ++ log_in ctx (run ctx w events) more node
log_append ctx w [] more node = refl
log_append ctx w (event ∷ events) more node =
    let v = world_after w (step ctx w event) in
    let first = logged_by node (asked w.packets event) (step ctx w event) in
    ap (λ (log : List Logged). first ++ log) (log_append ctx v events more node) ∙ sym (append_assoc first (log_in ctx v events node) (log_in ctx (run ctx v events) more node))

pub accepted_append : (ctx : Context) (w : World) (events more : List Event) → AllAccepted ctx w events → AllAccepted ctx (run ctx w events) more → AllAccepted ctx w (events ++ more)
accepted_append ctx w [] more a b = b
accepted_append ctx w (event ∷ events) more a b = (a.0, accepted_append ctx (world_after w (step ctx w event)) events more a.1 b)

-- the end of a log that a node makes
makes_rest : (ctx : Context) (before : AnyNode) (log more : List Logged) → Makes ctx before (log ++ more) → Makes ctx (replay ctx before log) more
makes_rest ctx before [] more m = m
makes_rest ctx before (l ∷ log) more m = makes_rest ctx (node_after before (node_step ctx before l.call)) log more m.1

pub asked_accepted : (ctx : Context) (w : World) (made : List Event) (node : Node) (before : AnyNode) (next : Logged) (more : List Logged) (event : Event)
    → node_at w node ≡ Some before → Makes ctx before (log_in ctx w made node ++ next ∷ more) → asked (run ctx w made).packets event ≡ Some (record { node = node; call = next.call })
    → (v : World) × (step ctx (run ctx w made) event ≡ Done v next.sent)
asked_accepted ctx w made node before next more event is makes asks =
    let m = run ctx w made in
    let now = replay ctx before (log_in ctx w made node) in
    let steps = (makes_rest ctx before (log_in ctx w made node) (next ∷ more) makes).0 in
    let taken = accepted ctx m node next.call (node_after now (node_step ctx now next.call)) next.sent
    (ap (λ (o : Option AnyNode). called ctx o next.call) (replays ctx w made node before is).leads ∙ steps) in
    (taken.0, step_asked ctx m event ∙ (ap (asked_step ctx m) asks ∙ taken.1))
