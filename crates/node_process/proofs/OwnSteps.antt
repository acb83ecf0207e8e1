-- Calls of another kind of node are refused, and steps without them lead to the same.
use Rattle.std.proofs.Common.{◌≡◌, Bool, true, false, List, [], ◌∷◌, Option, Some, None, refl, sym, ap, ◌∙◌, subst}
use Rattle.std.specs.Prelude.{⊤}
use Rattle.claim_model.specs.Context.{Context}
use Rattle.claim_model.specs.Numbered.{numbered}
use Rattle.claim_model.specs.Node.{Node, Pharmacy, Switch, Payer, Call, Submit, Tick, Take, Stop, Start, Revise, OfPlan, OfRule, OfCap, Adjudicate, Up, AtRest, Outcome, Done, Refused, pharmacy_step, switch_step, payer_step}
use Rattle.claim_model.specs.World.{World}
use Rattle.claim_model.specs.Nodes.{AnyNode, OfPharmacy, OfSwitch, OfPayer, as_node, node_step, node_at}
use Rattle.claim_model.specs.Logs.{Logged, node_after, replay}
use Rattle.claim_model.proofs.Options.{map_some, same_some}
use Rattle.crash_safety.specs.Network.{Process, calls, after_call, one_synced}
use Rattle.crash_safety.specs.Network.{file as model_file}
use Rattle.crash_safety.specs.Steps.{Step, Makes, Syncs, Crashes, Restarts, replayed_from, step, steps_from}

-- a node is of the kind of its name
abbrev IsKind : Node → AnyNode → Type 0
IsKind (Pharmacy n) (OfPharmacy a) = ⊤
IsKind (Pharmacy n) (OfSwitch a) = ⊥
IsKind (Pharmacy n) (OfPayer a) = ⊥
IsKind (Switch n) (OfPharmacy a) = ⊥
IsKind (Switch n) (OfSwitch a) = ⊤
IsKind (Switch n) (OfPayer a) = ⊥
IsKind (Payer n) (OfPharmacy a) = ⊥
IsKind (Payer n) (OfSwitch a) = ⊥
IsKind (Payer n) (OfPayer a) = ⊤

pub kind_opens : (w : World) (node : Node) (x : AnyNode) → node_at w node ≡ Some x → IsKind node x
kind_opens w (Pharmacy n) x e = let m = map_some OfPharmacy (numbered w.pharmacies n) x e in subst (IsKind (Pharmacy n)) m.2 tt
kind_opens w (Switch n) x e = let m = map_some OfSwitch (numbered w.switches n) x e in subst (IsKind (Switch n)) m.2 tt
kind_opens w (Payer n) x e = let m = map_some OfPayer (numbered w.payers n) x e in subst (IsKind (Payer n)) m.2 tt

kind_of : {A : Type 0} (kind : A → AnyNode) (node : Node) (x : AnyNode) (o : Outcome A) → ((a : A) → IsKind node (kind a)) → IsKind node x → IsKind node (node_after x (as_node kind o))
kind_of kind node x (Done a sent) all k = all a
kind_of kind node x (Refused why) all k = k

kind_after : (ctx : Context) (node : Node) (x : AnyNode) (call : Call) → IsKind node x → IsKind node (node_after x (node_step ctx x call))
kind_after ctx (Pharmacy n) (OfPharmacy a) call k = kind_of OfPharmacy (Pharmacy n) (OfPharmacy a) (pharmacy_step ctx a call) (λ b. tt) k
kind_after ctx (Pharmacy n) (OfSwitch a) call k = absurd k
kind_after ctx (Pharmacy n) (OfPayer a) call k = absurd k
kind_after ctx (Switch n) (OfPharmacy a) call k = absurd k
kind_after ctx (Switch n) (OfSwitch a) call k = kind_of OfSwitch (Switch n) (OfSwitch a) (switch_step ctx a call) (λ b. tt) k
kind_after ctx (Switch n) (OfPayer a) call k = absurd k
kind_after ctx (Payer n) (OfPharmacy a) call k = absurd k
kind_after ctx (Payer n) (OfSwitch a) call k = absurd k
kind_after ctx (Payer n) (OfPayer a) call k = kind_of OfPayer (Payer n) (OfPayer a) (payer_step ctx a call) (λ b. tt) k

kind_replay : (ctx : Context) (node : Node) (x : AnyNode) (log : List Logged) → IsKind node x → IsKind node (replay ctx x log)
kind_replay ctx node x [] k = k
kind_replay ctx node x (l ∷ log) k = kind_replay ctx node (node_after x (node_step ctx x l.call)) log (kind_after ctx node x l.call k)

-- so is whatever there is
abbrev pub AreKind : Node → Option AnyNode → Type 0
AreKind node o = (x : AnyNode) → o ≡ Some x → IsKind node x

pub kind_replayed : (ctx : Context) (node : Node) (first : Option AnyNode) (log : List Logged) → AreKind node first → AreKind node (replayed_from ctx first log)
kind_replayed ctx node first log k x e =
    let m = map_some (λ (before : AnyNode). replay ctx before log) first x e in
    subst (IsKind node) m.2 (kind_replay ctx node m.0 log (k m.0 m.1))

pub none_kind : (node : Node) → AreKind node None
none_kind node x e = absurd (let wrong : ◌≡◌ {A = Option AnyNode} None (Some x) = e in cc)

pub same_kind : (node : Node) (a b : Option AnyNode) → a ≡ b → AreKind node b → AreKind node a
same_kind node a b e k = subst (AreKind node) (sym e) k

kind_called : (ctx : Context) (node : Node) (p : Process) (call : Call) (m : Option AnyNode) → p.memory ≡ m → AreKind node m → AreKind node (calls ctx p call m).memory
kind_called ctx node p call None e k = same_kind node p.memory None e k
kind_called ctx node p call (Some m) e k = by_outcome (node_step ctx m call) refl
  where
    by_outcome : (o : Outcome AnyNode) → node_step ctx m call ≡ o → AreKind node (after_call p call o).memory
    by_outcome (Refused why) is = same_kind node p.memory (Some m) e k
    by_outcome (Done next sent) is = λ x s.
        let here : next ≡ x = same_some next x s in
        subst (IsKind node) (ap (node_after m) is ∙ here) (kind_after ctx node m call (k m refl))

kind_synced : (node : Node) (p : Process) (log : List Logged) → AreKind node p.memory → AreKind node (one_synced p log).memory
kind_synced node p [] k = k
kind_synced node p (l ∷ more) k = k

kind_step : (ctx : Context) (node : Node) (first : Option AnyNode) (p : Process) (one : Step) → AreKind node first → AreKind node p.memory → AreKind node (step ctx first p one).memory
kind_step ctx node first p (Makes call) f k = kind_called ctx node p call p.memory refl k
kind_step ctx node first p Syncs f k = kind_synced node p p.unsynced k
kind_step ctx node first p (Crashes left) f k = none_kind node
kind_step ctx node first p Restarts f k = kind_replayed ctx node first (model_file p) f

-- a call that nodes of this kind make
abbrev pub is_own : Node → Call → Bool
is_own (Pharmacy n) (Submit text) = true
is_own (Switch n) (Submit text) = false
is_own (Payer n) (Submit text) = false
is_own (Pharmacy n) Tick = true
is_own (Switch n) Tick = false
is_own (Payer n) Tick = false
is_own (Pharmacy n) (Revise (OfPlan change)) = false
is_own (Pharmacy n) (Revise (OfRule rule)) = true
is_own (Pharmacy n) (Revise (OfCap most)) = false
is_own (Switch n) (Revise (OfPlan change)) = false
is_own (Switch n) (Revise (OfRule rule)) = false
is_own (Switch n) (Revise (OfCap most)) = true
is_own (Payer n) (Revise (OfPlan change)) = true
is_own (Payer n) (Revise (OfRule rule)) = false
is_own (Payer n) (Revise (OfCap most)) = false
is_own node (Take from bytes) = true
is_own node Stop = true
is_own node Start = true
is_own node (Adjudicate from bytes advice) = true

-- another is refused
foreign : (ctx : Context) (node : Node) (p : Process) (m : AnyNode) (call : Call) → IsKind node m → is_own node call ≡ false → after_call p call (node_step ctx m call) ≡ p
foreign ctx (Switch n) p (OfSwitch (Up t)) (Submit text) k e = refl
foreign ctx (Switch n) p (OfSwitch (AtRest t)) (Submit text) k e = refl
foreign ctx (Payer n) p (OfPayer (Up b)) (Submit text) k e = refl
foreign ctx (Payer n) p (OfPayer (AtRest b)) (Submit text) k e = refl
foreign ctx (Switch n) p (OfSwitch (Up t)) Tick k e = refl
foreign ctx (Switch n) p (OfSwitch (AtRest t)) Tick k e = refl
foreign ctx (Payer n) p (OfPayer (Up b)) Tick k e = refl
foreign ctx (Payer n) p (OfPayer (AtRest b)) Tick k e = refl
foreign ctx (Pharmacy n) p (OfPharmacy (Up j)) (Revise (OfPlan change)) k e = refl
foreign ctx (Pharmacy n) p (OfPharmacy (AtRest j)) (Revise (OfPlan change)) k e = refl
foreign ctx (Pharmacy n) p (OfPharmacy (Up j)) (Revise (OfCap most)) k e = refl
foreign ctx (Pharmacy n) p (OfPharmacy (AtRest j)) (Revise (OfCap most)) k e = refl
foreign ctx (Payer n) p (OfPayer (Up b)) (Revise (OfRule rule)) k e = refl
foreign ctx (Payer n) p (OfPayer (AtRest b)) (Revise (OfRule rule)) k e = refl
foreign ctx (Payer n) p (OfPayer (Up b)) (Revise (OfCap most)) k e = refl
foreign ctx (Payer n) p (OfPayer (AtRest b)) (Revise (OfCap most)) k e = refl
foreign ctx (Switch n) p (OfSwitch (Up t)) (Revise (OfPlan change)) k e = refl
foreign ctx (Switch n) p (OfSwitch (AtRest t)) (Revise (OfPlan change)) k e = refl
foreign ctx (Switch n) p (OfSwitch (Up t)) (Revise (OfRule rule)) k e = refl
foreign ctx (Switch n) p (OfSwitch (AtRest t)) (Revise (OfRule rule)) k e = refl
foreign ctx (Pharmacy n) p (OfSwitch a) call k e = absurd k
foreign ctx (Pharmacy n) p (OfPayer a) call k e = absurd k
foreign ctx (Switch n) p (OfPharmacy a) call k e = absurd k
foreign ctx (Switch n) p (OfPayer a) call k e = absurd k
foreign ctx (Payer n) p (OfPharmacy a) call k e = absurd k
foreign ctx (Payer n) p (OfSwitch a) call k e = absurd k
foreign ctx (Pharmacy n) p m (Submit text) k e = absurd cc
foreign ctx (Pharmacy n) p m Tick k e = absurd cc
foreign ctx (Payer n) p m (Revise (OfPlan change)) k e = absurd cc
foreign ctx (Pharmacy n) p m (Revise (OfRule rule)) k e = absurd cc
foreign ctx (Switch n) p m (Revise (OfCap most)) k e = absurd cc
foreign ctx node p m (Take from bytes) k e = absurd cc
foreign ctx node p m Stop k e = absurd cc
foreign ctx node p m Start k e = absurd cc
foreign ctx node p m (Adjudicate from bytes advice) k e = absurd cc

foreign_step : (ctx : Context) (node : Node) (p : Process) (call : Call) (m : Option AnyNode) → AreKind node m → is_own node call ≡ false → calls ctx p call m ≡ p
foreign_step ctx node p call None k e = refl
foreign_step ctx node p call (Some m) k e = foreign ctx node p m call (k m refl) e

-- steps without such calls
abbrev pub kept_if : Bool → Step → List Step → List Step
kept_if true one more = one ∷ more
kept_if false one more = more

abbrev pub own_steps : Node → List Step → List Step
own_steps node [] = []
own_steps node (Makes call ∷ more) = kept_if (is_own node call) (Makes call) (own_steps node more)
own_steps node (Syncs ∷ more) = Syncs ∷ own_steps node more
own_steps node (Crashes left ∷ more) = Crashes left ∷ own_steps node more
own_steps node (Restarts ∷ more) = Restarts ∷ own_steps node more

-- lead to the same
pub own_lead : (ctx : Context) (node : Node) (first : Option AnyNode) (p : Process) (steps : List Step) → AreKind node first → AreKind node p.memory → steps_from ctx first p (own_steps node steps) ≡ steps_from ctx first p steps
own_lead ctx node first p [] f k = refl
own_lead ctx node first p (Makes call ∷ more) f k = by_kind (own_lead ctx node first (step ctx first p (Makes call)) more f (kind_step ctx node first p (Makes call) f k)) (is_own node call) refl
  where
    by_kind : steps_from ctx first (step ctx first p (Makes call)) (own_steps node more) ≡ steps_from ctx first (step ctx first p (Makes call)) more → (own : Bool) → is_own node call ≡ own
        → steps_from ctx first p (kept_if own (Makes call) (own_steps node more)) ≡ steps_from ctx first (step ctx first p (Makes call)) more
    by_kind rest true e = rest
    by_kind rest false e = ap (λ (x : Process). steps_from ctx first x (own_steps node more)) (sym (foreign_step ctx node p call p.memory k e)) ∙ rest
own_lead ctx node first p (Syncs ∷ more) f k = own_lead ctx node first (step ctx first p Syncs) more f (kind_step ctx node first p Syncs f k)
own_lead ctx node first p (Crashes left ∷ more) f k = own_lead ctx node first (step ctx first p (Crashes left)) more f (kind_step ctx node first p (Crashes left) f k)
own_lead ctx node first p (Restarts ∷ more) f k = own_lead ctx node first (step ctx first p Restarts) more f (kind_step ctx node first p Restarts f k)
