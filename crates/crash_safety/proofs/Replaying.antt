-- Logs that a node makes, one call longer or cut.
use Rattle.std.proofs.Common.{◌≡◌, List, [], ◌∷◌, ◌++◌, refl, sym, ap, ◌∙◌}
use Rattle.claim_model.specs.Context.{Context}
use Rattle.claim_model.specs.Node.{Done}
use Rattle.claim_model.specs.Nodes.{AnyNode, node_step}
use Rattle.claim_model.specs.Logs.{Logged, node_after, replay, Makes}

-- the node after one call more
pub replay_more : (ctx : Context) (before : AnyNode) (log : List Logged) (l : Logged) → replay ctx before (log ++ l ∷ []) ≡ node_after (replay ctx before log) (node_step ctx (replay ctx before log) l.call)
replay_more ctx before [] l = refl
replay_more ctx before (k ∷ log) l = replay_more ctx (node_after before (node_step ctx before k.call)) log l

-- a node that makes a call, and sends this, is after it what the call gives
pub steps_on : (ctx : Context) (m after : AnyNode) (l : Logged) → node_step ctx m l.call ≡ Done after l.sent → node_step ctx m l.call ≡ Done (node_after m (node_step ctx m l.call)) l.sent
steps_on ctx m after l e = e ∙ ap (λ (x : AnyNode). Done x l.sent) (sym (ap (node_after m) e))

pub makes_more : (ctx : Context) (before after : AnyNode) (log : List Logged) (l : Logged) → Makes ctx before log → node_step ctx (replay ctx before log) l.call ≡ Done after l.sent → Makes ctx before (log ++ l ∷ [])
makes_more ctx before after [] l m e = (steps_on ctx before after l e, tt)
makes_more ctx before after (k ∷ log) l m e = (m.0, makes_more ctx (node_after before (node_step ctx before k.call)) after log l m.1 e)

-- the beginning of a log that a node makes
pub makes_left : (ctx : Context) (before : AnyNode) (log more : List Logged) → Makes ctx before (log ++ more) → Makes ctx before log
makes_left ctx before [] more m = tt
makes_left ctx before (l ∷ log) more m = (m.0, makes_left ctx (node_after before (node_step ctx before l.call)) log more m.1)

-- the last call of a log that a node makes
pub makes_last : (ctx : Context) (before : AnyNode) (log : List Logged) (l : Logged) → Makes ctx before (log ++ l ∷ []) → node_step ctx (replay ctx before log) l.call ≡ Done (node_after (replay ctx before log) (node_step ctx (replay ctx before log) l.call)) l.sent
makes_last ctx before [] l m = m.0
makes_last ctx before (k ∷ log) l m = makes_last ctx (node_after before (node_step ctx before k.call)) log l m.1
