-- Orders of calls that each node by itself accepts are runs, and runs are such orders.
use Rattle.std.proofs.Common.{◌≡◌, ℕ, true, false, cond, List, [], ◌∷◌, ◌++◌, Option, Some, None, refl, sym, ap, ◌∙◌, subst, inl, inr}
use Rattle.std.proofs.lemmas.Bool.{cond-true, cond-false}
use Rattle.std.specs.Prelude.{option_map}
use Rattle.claim_model.specs.Context.{Context}
use Rattle.claim_model.specs.Words.{Change}
use Rattle.claim_model.specs.Numbered.{numbered}
use Rattle.claim_model.specs.Journal.{Journal, JournalAtRest, RetryRule}
use Rattle.claim_model.specs.Table.{Table}
use Rattle.claim_model.specs.Rows.{Book}
use Rattle.claim_model.specs.Node.{Node, Pharmacy, Switch, Payer, Call, Submit, Tick, Take, Stop, Start, Revise, Revision, OfPlan, OfRule, OfCap, Adjudicate, Power, Up, AtRest, Sent, Outcome, Done, Refused, pharmacy_step, switch_step, payer_step}
use Rattle.claim_model.specs.World.{World, Packet, Event, posted, on_node, step, world_after, run}
use Rattle.claim_model.specs.Nodes.{AnyNode, OfPharmacy, OfSwitch, OfPayer, as_node, node_step, node_at, called, same_node, Asked, asked, asked_step}
use Rattle.claim_model.specs.Local.{Follows}
use Rattle.claim_model.specs.Logs.{Logged, logged_by, log_in}
use Rattle.claim_model.specs.Interleavings.{IsDone, AllAccepted}
use Rattle.node_log.specs.Fits.{FitsBy, Fits}
use Rattle.run_merge.specs.Order.{advanced, revises, suits, Asks, Leads, none_left}
use Rattle.run_merge.specs.Merged.{FitsThere}
use Rattle.claim_model.proofs.Options.{same_some}
use Rattle.claim_model.proofs.PharmacyStep.{done_same}
use Rattle.claim_model.proofs.Steps.{follows, accepted, step_asked}
use Rattle.claim_model.proofs.Names.{same_self}
use Rattle.claim_model.proofs.Ends.{Unchanged, One_call, ended}
use Rattle.run_merge.proofs.Names.{name_cases, apart}
use Rattle.run_merge.proofs.Ordering.{each_node, advanced_same, advanced_other}

-- events by the calls that they ask for

-- an event is the call that it asks for
call_of : (ctx : Context) (w : World) (e : Event) (a : Asked) → asked w.packets e ≡ Some a → step ctx w e ≡ on_node ctx w a.node a.call
call_of ctx w e a h = step_asked ctx w e ∙ ap (asked_step ctx w) h

-- an accepted event asks for a call
step_made : (ctx : Context) (w v : World) (e : Event) (sent : List Sent) → step ctx w e ≡ Done v sent → (a : Asked) × (asked w.packets e ≡ Some a)
step_made ctx w v e sent h = elim (ended ctx w e) [
  | Unchanged why q ↦ let wrong : Refused why ≡ Done v sent = sym q ∙ h in absurd cc
  | One_call a u out p q f ↦ (a, p)
]

-- logs that fit

-- the first call of a log that fits
record First (ctx : Context) (o : Option AnyNode) (r : Logged) (calls : List Logged) : Type 0 where
  before : AnyNode
  after : AnyNode
  is : o ≡ Some before
  steps : node_step ctx before r.call ≡ Done after r.sent
  more : Fits ctx after calls

first_by : (ctx : Context) (s : AnyNode) (r : Logged) (calls : List Logged) (o : Outcome AnyNode) → node_step ctx s r.call ≡ o → FitsBy (λ after. Fits ctx after calls) r.sent o → First ctx (Some s) r calls
first_by ctx s r calls (Refused why) e h = absurd h
first_by ctx s r calls (Done after out) e h = record { before = s; after = after; is = refl; steps = e ∙ ap (Done after) h.0; more = h.1 }

first_there : (ctx : Context) (o : Option AnyNode) (r : Logged) (calls : List Logged) → FitsThere ctx o (r ∷ calls) → First ctx o r calls
first_there ctx None r calls h = absurd cc
first_there ctx (Some s) r calls h = first_by ctx s r calls (node_step ctx s r.call) refl h

-- after its first call, what is left fits in the world then
fits_next : (ctx : Context) (w v : World) (rest : Node → List Logged) (node : Node) (r : Logged) (calls : List Logged) (before after : AnyNode) → node_at w node ≡ Some before → node_step ctx before r.call ≡ Done after r.sent → Fits ctx after calls
    → ((m : Node) → FitsThere ctx (node_at w m) (rest m)) → Follows ctx w v node r.call r.sent → (m : Node) → FitsThere ctx (node_at v m) (advanced rest node calls m)
fits_next ctx w v rest node r calls before after is steps more f x m = elim (name_cases node m) [
  | inl s ↦
      let a : x.before ≡ before = same_some x.before before (sym x.was ∙ is) in
      let b : Done x.after r.sent ≡ Done after r.sent = sym x.steps ∙ (ap (λ y. node_step ctx y r.call) a ∙ steps) in
      let c = done_same x.after after r.sent r.sent b in
      let d : Some after ≡ node_at v m = ap Some (sym c.0) ∙ (sym x.is ∙ ap (node_at v) s.0) in
      let e : calls ≡ advanced rest node calls m = sym (advanced_same rest node m calls s.1) in
      subst (λ o. FitsThere ctx o (advanced rest node calls m)) d (subst (λ (y : List Logged). Fits ctx after y) e more)
  | inr d ↦
      let e : rest m ≡ advanced rest node calls m = sym (advanced_other rest node m calls d) in
      subst (λ o. FitsThere ctx o (advanced rest node calls m)) (sym (x.others m (apart node m d))) (subst (λ (y : List Logged). FitsThere ctx (node_at w m) y) e (f m))
]

-- the log of each node, where one call stands before what a later world has
logged_first : (rest left later : Node → List Logged) (node : Node) (r : Logged) (calls : List Logged) → rest node ≡ r ∷ calls → ((m : Node) → later m ++ left m ≡ advanced rest node calls m)
    → (m : Node) → (cond (same_node node m) (record { call = r.call; sent = r.sent } ∷ []) [] ++ later m) ++ left m ≡ rest m
logged_first rest left later node r calls head f m = elim (name_cases node m) [
  | inl s ↦
      let a : cond (same_node node m) (r ∷ []) [] ≡ r ∷ [] = cond-true (same_node node m) (r ∷ []) [] s.1 in
      let b : later m ++ left m ≡ calls = f m ∙ advanced_same rest node m calls s.1 in
      ap (λ (x : List Logged). (x ++ later m) ++ left m) a ∙ (ap (λ (x : List Logged). r ∷ x) b ∙ (sym head ∙ ap rest s.0))
  | inr d ↦
      let a : cond (same_node node m) (r ∷ []) [] ≡ [] = cond-false (same_node node m) (r ∷ []) [] d in
      ap (λ (x : List Logged). (x ++ later m) ++ left m) a ∙ (f m ∙ advanced_other rest node m calls d)
]

-- events that are all accepted, and whose run has these logs up to what is left, and these packets
pub record Runs (ctx : Context) (w : World) (rest : Node → List Logged) (es : List Event) (sent : List Packet) (left : Node → List Logged) : Type 0 where
  pub accepted : AllAccepted ctx w es
  pub logs : (m : Node) → log_in ctx w es m ++ left m ≡ rest m
  pub packets : (run ctx w es).packets ≡ sent

-- what a run of one event more asks for, by the call and the outcome of its first event
abbrev RunsFrom : Context → World → (Node → List Logged) → List Event → List Packet → (Node → List Logged) → Option Asked → Outcome World → Type 0
RunsFrom ctx w rest es sent left a o =
    IsDone o × AllAccepted ctx (world_after w o) es × ((m : Node) → (logged_by m a o ++ log_in ctx (world_after w o) es m) ++ left m ≡ rest m) × ((run ctx (world_after w o) es).packets ≡ sent)

-- an order of calls that fit is a run
pub sound : (ctx : Context) (w : World) (rest : Node → List Logged) (es : List Event) (sent : List Packet) (left : Node → List Logged) → ((m : Node) → FitsThere ctx (node_at w m) (rest m)) → Leads w.packets rest es sent left → Runs ctx w rest es sent left
sound ctx w rest [] sent left f l = record { accepted = tt; logs = λ m. l.1 m; packets = sym l.0 }
sound ctx w rest (e ∷ es) sent left f l =
    let node = l.0 in
    let r = l.1 in
    let calls = l.2 in
    let x = first_there ctx (node_at w node) r calls (subst (λ (y : List Logged). FitsThere ctx (node_at w node) y) l.4 (f node)) in
    let k = accepted ctx w node r.call x.after r.sent (ap (λ (o : Option AnyNode). called ctx o r.call) x.is ∙ x.steps) in
    let y = follows ctx w k.0 node r.call r.sent k.1 in
    let st : step ctx w e ≡ Done k.0 r.sent = call_of ctx w e (record { node = node; call = r.call }) l.3.0 ∙ k.1 in
    let n : (m : Node) → FitsThere ctx (node_at k.0 m) (advanced rest node calls m) = fits_next ctx w k.0 rest node r calls x.before x.after x.is x.steps x.more f y in
    let i = sound ctx k.0 (advanced rest node calls) es sent left n (subst (λ (ps : List Packet). Leads ps (advanced rest node calls) es sent left) (sym y.posts) l.5) in
    let now : RunsFrom ctx w rest es sent left (Some (record { node = node; call = r.call })) (Done k.0 r.sent) =
    (tt, i.accepted, logged_first rest left (log_in ctx k.0 es) node r calls l.4 i.logs, i.packets) in
    let by_step : RunsFrom ctx w rest es sent left (Some (record { node = node; call = r.call })) (step ctx w e) = subst (λ (o : Outcome World). RunsFrom ctx w rest es sent left (Some (record { node = node; call = r.call })) o) (sym st) now in
    let all : RunsFrom ctx w rest es sent left (asked w.packets e) (step ctx w e) = subst (λ (a : Option Asked). RunsFrom ctx w rest es sent left a (step ctx w e)) (sym l.3.0) by_step in
    record { accepted = (all.0, all.1); logs = all.2; packets = all.3 }

-- runs are orders of calls that fit

pub record Ordered (ctx : Context) (w : World) (es : List Event) (rest : Node → List Logged) : Type 0 where
  pub fits : (m : Node) → FitsThere ctx (node_at w m) (rest m)
  pub sent : List Packet
  pub leads : Leads w.packets rest es sent none_left

pub fits_none : (ctx : Context) (o : Option AnyNode) → FitsThere ctx o []
fits_none ctx None = refl
fits_none ctx (Some s) = tt

-- the logs of a run whose first event made this call
abbrev logged_then : (Node → List Logged) → Node → Logged → Node → List Logged
logged_then later node r m = cond (same_node node m) (r ∷ []) [] ++ later m

fits_first : (ctx : Context) (w v : World) (later : Node → List Logged) (node : Node) (r : Logged) → Follows ctx w v node r.call r.sent → ((m : Node) → FitsThere ctx (node_at v m) (later m))
    → (m : Node) → FitsThere ctx (node_at w m) (logged_then later node r m)
fits_first ctx w v later node r x f m = elim (name_cases node m) [
  | inl s ↦
      let a : r ∷ later m ≡ logged_then later node r m = ap (λ (y : List Logged). y ++ later m) (sym (cond-true (same_node node m) (r ∷ []) [] s.1)) in
      let b : Some x.before ≡ node_at w m = sym x.was ∙ ap (node_at w) s.0 in
      let c : Some x.after ≡ node_at v m = sym x.is ∙ ap (node_at v) s.0 in
      let d : Fits ctx x.after (later m) = subst (λ o. FitsThere ctx o (later m)) (sym c) (f m) in
      let g : Fits ctx x.before (r ∷ later m) = subst (λ o. FitsBy (λ after. Fits ctx after (later m)) r.sent o) (sym x.steps) (refl, d) in
      subst (λ o. FitsThere ctx o (logged_then later node r m)) b (subst (λ (y : List Logged). Fits ctx x.before y) a g)
  | inr d ↦
      let a : later m ≡ logged_then later node r m = ap (λ (y : List Logged). y ++ later m) (sym (cond-false (same_node node m) (r ∷ []) [] d)) in
      subst (λ o. FitsThere ctx o (logged_then later node r m)) (x.others m (apart node m d)) (subst (λ (y : List Logged). FitsThere ctx (node_at v m) y) a (f m))
]

later_is : (later : Node → List Logged) (node : Node) (r : Logged) (m : Node) → later m ≡ advanced (logged_then later node r) node (later node) m
later_is later node r m = elim (name_cases node m) [
  | inl s ↦ ap later (sym s.0) ∙ sym (advanced_same (logged_then later node r) node m (later node) s.1)
  | inr d ↦
      let a : later m ≡ logged_then later node r m = ap (λ (y : List Logged). y ++ later m) (sym (cond-false (same_node node m) (r ∷ []) [] d)) in
      a ∙ sym (advanced_other (logged_then later node r) node m (later node) d)
]

ordered_first : (ctx : Context) (w v : World) (e : Event) (es : List Event) (later : Node → List Logged) (node : Node) (r : Logged) → Asks w.packets e node r → Follows ctx w v node r.call r.sent → Ordered ctx v es later
    → Ordered ctx w (e ∷ es) (logged_then later node r)
ordered_first ctx w v e es later node r asks x i =
    let h : logged_then later node r node ≡ r ∷ later node = ap (λ (y : List Logged). y ++ later node) (cond-true (same_node node node) (r ∷ []) [] (same_self node)) in
    let eq : later ≡ advanced (logged_then later node r) node (later node) = each_node later (advanced (logged_then later node r) node (later node)) (later_is later node r) in
    let a : Leads (posted w.packets node r.sent) later es i.sent none_left = subst (λ (ps : List Packet). Leads ps later es i.sent none_left) x.posts i.leads in
    let b : Leads (posted w.packets node r.sent) (advanced (logged_then later node r) node (later node)) es i.sent none_left = subst (λ (y : Node → List Logged). Leads (posted w.packets node r.sent) y es i.sent none_left) eq a in
    record { fits = fits_first ctx w v later node r x i.fits; sent = i.sent; leads = (node, r, later node, asks, h, b) }

-- a node of another kind refuses a revision

not_plan : (ctx : Context) (node : Power Journal JournalAtRest) (change : Change) (after : AnyNode) (sent : List Sent) → as_node OfPharmacy (pharmacy_step ctx node (Revise (OfPlan change))) ≡ Done after sent → false ≡ true
not_plan ctx (Up j) change after sent h = absurd cc
not_plan ctx (AtRest j) change after sent h = absurd cc

not_rule : (ctx : Context) (node : Power Book Book) (rule : RetryRule) (after : AnyNode) (sent : List Sent) → as_node OfPayer (payer_step ctx node (Revise (OfRule rule))) ≡ Done after sent → false ≡ true
not_rule ctx (Up b) rule after sent h = absurd cc
not_rule ctx (AtRest b) rule after sent h = absurd cc

not_revision : (ctx : Context) (n : ℕ) (node : Power Table ℕ) (revision : Revision) (after : AnyNode) (sent : List Sent) → as_node OfSwitch (switch_step ctx node (Revise revision)) ≡ Done after sent → revises (Switch n) revision ≡ true
not_revision ctx n (Up t) revision after sent h = absurd cc
not_revision ctx n (AtRest cap) (OfPlan change) after sent h = absurd cc
not_revision ctx n (AtRest cap) (OfRule rule) after sent h = absurd cc
not_revision ctx n (AtRest cap) (OfCap most) after sent h = refl

not_cap : (ctx : Context) (node : Power Journal JournalAtRest) (most : ℕ) (after : AnyNode) (sent : List Sent) → as_node OfPharmacy (pharmacy_step ctx node (Revise (OfCap most))) ≡ Done after sent → false ≡ true
not_cap ctx (Up j) most after sent h = absurd cc
not_cap ctx (AtRest j) most after sent h = absurd cc

no_cap : (ctx : Context) (node : Power Book Book) (most : ℕ) (after : AnyNode) (sent : List Sent) → as_node OfPayer (payer_step ctx node (Revise (OfCap most))) ≡ Done after sent → false ≡ true
no_cap ctx (Up b) most after sent h = absurd cc
no_cap ctx (AtRest b) most after sent h = absurd cc

capped_at : (ctx : Context) (o : Option (Power Journal JournalAtRest)) (most : ℕ) (before after : AnyNode) (sent : List Sent) → option_map OfPharmacy o ≡ Some before → node_step ctx before (Revise (OfCap most)) ≡ Done after sent → false ≡ true
capped_at ctx None most before after sent was h = absurd cc
capped_at ctx (Some node) most before after sent was h =
    not_cap ctx node most after sent (ap (λ x. node_step ctx x (Revise (OfCap most))) (same_some (OfPharmacy node) before was) ∙ h)

book_capped_at : (ctx : Context) (o : Option (Power Book Book)) (most : ℕ) (before after : AnyNode) (sent : List Sent) → option_map OfPayer o ≡ Some before → node_step ctx before (Revise (OfCap most)) ≡ Done after sent → false ≡ true
book_capped_at ctx None most before after sent was h = absurd cc
book_capped_at ctx (Some node) most before after sent was h =
    no_cap ctx node most after sent (ap (λ x. node_step ctx x (Revise (OfCap most))) (same_some (OfPayer node) before was) ∙ h)

planned_at : (ctx : Context) (o : Option (Power Journal JournalAtRest)) (change : Change) (before after : AnyNode) (sent : List Sent) → option_map OfPharmacy o ≡ Some before → node_step ctx before (Revise (OfPlan change)) ≡ Done after sent → false ≡ true
planned_at ctx None change before after sent was h = absurd cc
planned_at ctx (Some node) change before after sent was h =
    not_plan ctx node change after sent (ap (λ x. node_step ctx x (Revise (OfPlan change))) (same_some (OfPharmacy node) before was) ∙ h)

ruled_at : (ctx : Context) (o : Option (Power Book Book)) (rule : RetryRule) (before after : AnyNode) (sent : List Sent) → option_map OfPayer o ≡ Some before → node_step ctx before (Revise (OfRule rule)) ≡ Done after sent → false ≡ true
ruled_at ctx None rule before after sent was h = absurd cc
ruled_at ctx (Some node) rule before after sent was h =
    not_rule ctx node rule after sent (ap (λ x. node_step ctx x (Revise (OfRule rule))) (same_some (OfPayer node) before was) ∙ h)

revised_at : (ctx : Context) (n : ℕ) (o : Option (Power Table ℕ)) (revision : Revision) (before after : AnyNode) (sent : List Sent) → option_map OfSwitch o ≡ Some before → node_step ctx before (Revise revision) ≡ Done after sent → revises (Switch n) revision ≡ true
revised_at ctx n None revision before after sent was h = absurd cc
revised_at ctx n (Some node) revision before after sent was h =
    not_revision ctx n node revision after sent (ap (λ x. node_step ctx x (Revise revision)) (same_some (OfSwitch node) before was) ∙ h)

suited_revision : (ctx : Context) (w : World) (node : Node) (revision : Revision) (before after : AnyNode) (sent : List Sent) → node_at w node ≡ Some before → node_step ctx before (Revise revision) ≡ Done after sent → revises node revision ≡ true
suited_revision ctx w (Pharmacy n) (OfPlan change) before after sent was h = planned_at ctx (numbered w.pharmacies n) change before after sent was h
suited_revision ctx w (Pharmacy n) (OfRule rule) before after sent was h = refl
suited_revision ctx w (Pharmacy n) (OfCap most) before after sent was h = capped_at ctx (numbered w.pharmacies n) most before after sent was h
suited_revision ctx w (Switch n) revision before after sent was h = revised_at ctx n (numbered w.switches n) revision before after sent was h
suited_revision ctx w (Payer n) (OfPlan change) before after sent was h = refl
suited_revision ctx w (Payer n) (OfRule rule) before after sent was h = ruled_at ctx (numbered w.payers n) rule before after sent was h
suited_revision ctx w (Payer n) (OfCap most) before after sent was h = book_capped_at ctx (numbered w.payers n) most before after sent was h

-- a call that a node accepted is one that suits it
suited : (ctx : Context) (w : World) (node : Node) (call : Call) (before after : AnyNode) (sent : List Sent) → node_at w node ≡ Some before → node_step ctx before call ≡ Done after sent → suits node call ≡ true
suited ctx w node (Submit text) before after sent was h = refl
suited ctx w node Tick before after sent was h = refl
suited ctx w node (Take from bytes) before after sent was h = refl
suited ctx w node Stop before after sent was h = refl
suited ctx w node Start before after sent was h = refl
suited ctx w node (Revise revision) before after sent was h = suited_revision ctx w node revision before after sent was h
suited ctx w node (Adjudicate from bytes advice) before after sent was h = refl

ordered_by : (ctx : Context) (w : World) (e : Event) (es : List Event) (o : Outcome World) (a : Option Asked) → step ctx w e ≡ o → asked w.packets e ≡ a → IsDone o → Ordered ctx (world_after w o) es (log_in ctx (world_after w o) es)
    → Ordered ctx w (e ∷ es) (λ m. logged_by m a o ++ log_in ctx (world_after w o) es m)
ordered_by ctx w e es (Refused why) a st is h i = absurd h
ordered_by ctx w e es (Done v sent) None st is h i = let a = step_made ctx w v e sent st in let f : None ≡ Some a.0 = sym is ∙ a.1 in absurd cc
ordered_by ctx w e es (Done v sent) (Some a) st is h i =
    let x = follows ctx w v a.node a.call sent (sym (call_of ctx w e a is) ∙ st) in
    ordered_first ctx w v e es (log_in ctx v es) a.node (record { call = a.call; sent = sent }) (is, suited ctx w a.node a.call x.before x.after sent x.was x.steps) x i

-- a run whose events are all accepted is an order of the calls of its logs, which fit
pub ordered : (ctx : Context) (w : World) (es : List Event) → AllAccepted ctx w es → Ordered ctx w es (log_in ctx w es)
ordered ctx w [] h = record { fits = λ m. fits_none ctx (node_at w m); sent = w.packets; leads = (refl, λ m. refl) }
ordered ctx w (e ∷ es) h =
    let i = ordered ctx (world_after w (step ctx w e)) es h.1 in
    ordered_by ctx w e es (step ctx w e) (asked w.packets e) refl refl h.0 i
