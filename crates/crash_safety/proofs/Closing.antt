-- What closed logs and a new one come to together, call by call and step by step.
use Rattle.std.proofs.Common.{◌≡◌, List, [], ◌∷◌, ◌++◌, Option, Some, None, refl, sym, ap, ◌∙◌, append_assoc, append-nil}
use Rattle.claim_model.specs.Context.{Context}
use Rattle.claim_model.specs.Node.{Call, Outcome, Done, Refused}
use Rattle.claim_model.specs.Nodes.{AnyNode, node_step}
use Rattle.claim_model.specs.Logs.{Logged, node_after, replay, Makes as MakesLog}
use Rattle.crash_safety.specs.Network.{Process, file, calls, after_call, one_synced}
use Rattle.crash_safety.specs.Steps.{Step, Makes, Syncs, Crashes, Restarts, replayed_from, step, steps_from, process_after, in_front}

-- ---- calls

replay_append : (ctx : Context) (before : AnyNode) (closed log : List Logged) → replay ctx before (closed ++ log) ≡ replay ctx (replay ctx before closed) log
replay_append ctx before [] log = refl
replay_append ctx before (l ∷ closed) log = replay_append ctx (node_after before (node_step ctx before l.call)) closed log

pub replays_on : (ctx : Context) (begins : Option AnyNode) (closed log : List Logged) → replayed_from ctx begins (closed ++ log) ≡ replayed_from ctx (replayed_from ctx begins closed) log
replays_on ctx None closed log = refl
replays_on ctx (Some before) closed log = ap (λ (x : AnyNode). Some x) (replay_append ctx before closed log)

pub makes_on : (ctx : Context) (before : AnyNode) (closed log : List Logged) → MakesLog ctx before closed → MakesLog ctx (replay ctx before closed) log → MakesLog ctx before (closed ++ log)
makes_on ctx before [] log first rest = rest
makes_on ctx before (l ∷ closed) log first rest = (first.0, makes_on ctx (node_after before (node_step ctx before l.call)) closed log first.1 rest)

pub makes_parts : (ctx : Context) (before : AnyNode) (closed log : List Logged) → MakesLog ctx before (closed ++ log) → MakesLog ctx before closed × MakesLog ctx (replay ctx before closed) log
makes_parts ctx before [] log m = (tt, m)
makes_parts ctx before (l ∷ closed) log m =
    let rest = makes_parts ctx (node_after before (node_step ctx before l.call)) closed log m.1 in
    ((m.0, rest.0), rest.1)

-- ---- steps

outcome_in_front : (closed : List Logged) (p : Process) (call : Call) (o : Outcome AnyNode) → after_call (in_front closed p) call o ≡ in_front closed (after_call p call o)
outcome_in_front closed p call (Refused why) = refl
outcome_in_front closed p call (Done next sent) = refl

call_in_front : (ctx : Context) (closed : List Logged) (p : Process) (call : Call) (o : Option AnyNode) → calls ctx (in_front closed p) call o ≡ in_front closed (calls ctx p call o)
call_in_front ctx closed p call None = refl
call_in_front ctx closed p call (Some node) = outcome_in_front closed p call (node_step ctx node call)

sync_in_front : (closed : List Logged) (p : Process) (log : List Logged) → one_synced (in_front closed p) log ≡ in_front closed (one_synced p log)
sync_in_front closed p [] = refl
sync_in_front closed p (l ∷ more) = ap (λ (x : List Logged). let q : Process = record { memory = p.memory; synced = x; unsynced = more } in q) (append_assoc closed p.synced (l ∷ []))

step_in_front : (ctx : Context) (begins : Option AnyNode) (closed : List Logged) (p : Process) (one : Step) → step ctx begins (in_front closed p) one ≡ in_front closed (step ctx (replayed_from ctx begins closed) p one)
step_in_front ctx begins closed p (Makes call) = call_in_front ctx closed p call p.memory
step_in_front ctx begins closed p Syncs = sync_in_front closed p p.unsynced
step_in_front ctx begins closed p (Crashes left) = refl
step_in_front ctx begins closed p Restarts =
    ap (λ (m : Option AnyNode). let q : Process = record { memory = m; synced = closed ++ p.synced; unsynced = p.unsynced } in q)
    (ap (replayed_from ctx begins) (append_assoc closed p.synced p.unsynced) ∙ replays_on ctx begins closed (file p))

pub steps_in_front : (ctx : Context) (begins : Option AnyNode) (closed : List Logged) (p : Process) (steps : List Step) → steps_from ctx begins (in_front closed p) steps ≡ in_front closed (steps_from ctx (replayed_from ctx begins closed) p steps)
steps_in_front ctx begins closed p [] = refl
steps_in_front ctx begins closed p (one ∷ steps) =
    ap (λ (x : Process). steps_from ctx begins x steps) (step_in_front ctx begins closed p one)
    ∙ steps_in_front ctx begins closed (step ctx (replayed_from ctx begins closed) p one) steps

-- from an empty disk
pub from_closed : (ctx : Context) (begins : Option AnyNode) (closed : List Logged) (steps : List Step)
    → steps_from ctx begins (record { memory = None; synced = closed; unsynced = [] }) steps ≡ in_front closed (process_after ctx (replayed_from ctx begins closed) steps)
from_closed ctx begins closed steps =
    ap (λ (x : List Logged). steps_from ctx begins (record { memory = None; synced = x; unsynced = [] }) steps) (sym (append-nil closed))
    ∙ steps_in_front ctx begins closed (record { memory = None; synced = []; unsynced = [] }) steps
