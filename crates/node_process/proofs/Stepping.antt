-- Steps of a process, many at once.
use Rattle.std.proofs.Common.{◌≡◌, List, [], ◌∷◌, ◌++◌, map, Option, Some, refl, sym, ap, ◌∙◌, subst, append_assoc, append-nil}
use Rattle.claim_model.specs.Context.{Context}
use Rattle.claim_model.specs.Node.{Done}
use Rattle.claim_model.specs.Nodes.{AnyNode, node_step}
use Rattle.claim_model.specs.Logs.{Logged, node_after, replay, Makes as MakesLog}
use Rattle.crash_safety.specs.Network.{Process, calls, after_call}
use Rattle.crash_safety.specs.Steps.{Step, Makes, Syncs, step, steps_from}
use Rattle.crash_safety.proofs.Replaying.{replay_more, makes_left, makes_last}

pub steps_append : (ctx : Context) (begins : Option AnyNode) (p : Process) (steps more : List Step) → steps_from ctx begins p (steps ++ more) ≡ steps_from ctx begins (steps_from ctx begins p steps) more
steps_append ctx begins p [] more = refl
steps_append ctx begins p (one ∷ steps) more = steps_append ctx begins (step ctx begins p one) steps more

-- ---- calls

abbrev pub makes_of : List Logged → List Step
makes_of calls = map (λ (l : Logged). Makes l.call) calls

-- a process that made these calls
pub record HasMade (ctx : Context) (before : AnyNode) (p q : Process) (log new : List Logged) : Type 0 where
  pub memory : q.memory ≡ Some (replay ctx before (log ++ new))
  pub synced : q.synced ≡ p.synced
  pub unsynced : q.unsynced ≡ p.unsynced ++ new

one_made : (ctx : Context) (p : Process) (m : AnyNode) (l : Logged) → p.memory ≡ Some m → node_step ctx m l.call ≡ Done (node_after m (node_step ctx m l.call)) l.sent
    → calls ctx p l.call p.memory ≡ record { memory = Some (node_after m (node_step ctx m l.call)); synced = p.synced; unsynced = p.unsynced ++ l ∷ [] }
one_made ctx p m l lives steps = ap (calls ctx p l.call) lives ∙ ap (after_call p l.call) steps

pub makes_all : (ctx : Context) (begins : Option AnyNode) (before : AnyNode) (p : Process) (log new : List Logged) → p.memory ≡ Some (replay ctx before log) → MakesLog ctx before (log ++ new)
    → HasMade ctx before p (steps_from ctx begins p (makes_of new)) log new
makes_all ctx begins before p log [] lives makes =
    record { memory = lives ∙ ap (λ (x : List Logged). Some (replay ctx before x)) (sym (append-nil log)); synced = refl; unsynced = sym (append-nil p.unsynced) }
makes_all ctx begins before p log (l ∷ new) lives makes =
    let assoc : (log ++ l ∷ []) ++ new ≡ log ++ l ∷ new = append_assoc log (l ∷ []) new in
    let all = subst (MakesLog ctx before) (sym assoc) makes in
    let m = replay ctx before log in
    let q : Process = record { memory = Some (node_after m (node_step ctx m l.call)); synced = p.synced; unsynced = p.unsynced ++ l ∷ [] } in
    let one : calls ctx p l.call p.memory ≡ q = one_made ctx p m l lives (makes_last ctx before log l (makes_left ctx before (log ++ l ∷ []) new all)) in
    let inner = makes_all ctx begins before q (log ++ l ∷ []) new (ap (λ (x : AnyNode). Some x) (sym (replay_more ctx before log l))) all in
    subst (λ (x : Process). HasMade ctx before p (steps_from ctx begins x (makes_of new)) log (l ∷ new)) (sym one)
    (record {
      memory = inner.memory ∙ ap (λ (x : List Logged). Some (replay ctx before x)) assoc;
      synced = inner.synced;
      unsynced = inner.unsynced ∙ append_assoc p.unsynced (l ∷ []) new;
    })

-- ---- syncs

abbrev pub syncs_of : List Logged → List Step
syncs_of calls = map (λ (l : Logged). Syncs) calls

pub syncs_all : (ctx : Context) (begins : Option AnyNode) (m : Option AnyNode) (synced unsynced : List Logged)
    → steps_from ctx begins (record { memory = m; synced = synced; unsynced = unsynced }) (syncs_of unsynced) ≡ record { memory = m; synced = synced ++ unsynced; unsynced = [] }
syncs_all ctx begins m synced [] = ap (λ (x : List Logged). let p : Process = record { memory = m; synced = x; unsynced = [] } in p) (sym (append-nil synced))
syncs_all ctx begins m synced (l ∷ unsynced) =
    syncs_all ctx begins m (synced ++ l ∷ []) unsynced
    ∙ ap (λ (x : List Logged). let p : Process = record { memory = m; synced = x; unsynced = [] } in p) (append_assoc synced (l ∷ []) unsynced)
