-- A settled entry has no phase and is never due, so a tick of such entries alone does nothing; and a call that does nothing leaves no trace in a replay.
use Rattle.std.proofs.Common.{◌≡◌, ℕ, ◌+◌, List, [], ◌∷◌, ◌++◌, map, refl, sym, ap, ◌∙◌, subst}
use Rattle.std.specs.Prelude.{flat_map}
use Rattle.std.specs.List.{AllByRecursion}
use mathlib.Core.Path.{ap₂}
use Rattle.claim_model.specs.Context.{Context}
use Rattle.claim_model.specs.Journal.{State, Has, Entry, Journal, circle, ticked_state, ticked, due_by, due_from, due}
use Rattle.claim_model.specs.Node.{Node, Up, AtRest, Tick, Sent, Outcome, Done, Refused, to_switch}
use Rattle.claim_model.specs.World.{packet_from}
use Rattle.claim_model.specs.Nodes.{AnyNode, OfPharmacy, OfSwitch, OfPayer, as_node, node_step}
use Rattle.claim_model.specs.Logs.{Logged, node_after, replay, Makes}
use Rattle.settings_growth.specs.Ticks.{HasAnswer, HasNoOpenEntry, TickDoesNothing, HasNothingToSend, tick_that_sent, IsSameWithout}

still_state : (phases : ℕ) (s : State) (a : List ℕ) → s ≡ Has a → ticked_state phases s ≡ s
still_state phases s a e = ap (ticked_state phases) e ∙ sym e

still_entries : (phases : ℕ) (es : List Entry) → AllByRecursion HasAnswer es → map (λ (e : Entry). record { request = e.request; state = ticked_state phases e.state }) es ≡ es
still_entries phases [] all = refl
still_entries phases (e ∷ es) all = ap₂ (λ (s : State) (more : List Entry). record { request = e.request; state = s } ∷ more) (still_state phases e.state all.0.answer all.0.is) (still_entries phases es all.1)

ticked_still : (j : Journal) → HasNoOpenEntry j → ticked j ≡ j
unfolding ticked
ticked_still j all = ap (λ (es : List Entry). record { number = j.number; settings = j.settings; rule = j.rule; entries = es }) (still_entries (circle j.rule) j.entries all)

nothing_from : (ctx : Context) (j : Journal) (number : ℕ) (es : List Entry) → AllByRecursion HasAnswer es → due_from ctx j number es ≡ []
nothing_from ctx j number [] all = refl
nothing_from ctx j number (e ∷ es) all = ap (λ (s : State). due_by ctx j number e.request s ++ due_from ctx j (number + 1) es) all.0.is ∙ nothing_from ctx j (number + 1) es all.1

nothing_due : (ctx : Context) (j : Journal) → HasNoOpenEntry j → due ctx j ≡ []
unfolding due
nothing_due ctx j all = nothing_from ctx j 1 j.entries all

pub tick_does_nothing : (ctx : Context) (j : Journal) → HasNoOpenEntry j → TickDoesNothing ctx j
tick_does_nothing ctx j all =
    let still : ticked j ≡ j = ticked_still j all in
    let none : due ctx (ticked j) ≡ [] = ap (due ctx) still ∙ nothing_due ctx j all in
    ap₂ (λ (x : Journal) ss. Done (Up x) (map to_switch ss)) still none

-- ---- of a node of any kind

vain : (ctx : Context) (node : AnyNode) → HasNothingToSend node → node_step ctx node Tick ≡ Done node []
vain ctx (OfPharmacy (Up j)) idle = ap (as_node OfPharmacy) (tick_does_nothing ctx j idle)
vain ctx (OfPharmacy (AtRest j)) idle = absurd idle
vain ctx (OfSwitch node) idle = absurd idle
vain ctx (OfPayer node) idle = absurd idle

-- it is the same node after such a tick, which has sent nothing

same_after : (ctx : Context) (node : AnyNode) → HasNothingToSend node → node_after node (node_step ctx node Tick) ≡ node
same_after ctx node idle = ap (node_after node) (vain ctx node idle)

abbrev sends : Outcome AnyNode → List Sent
sends (Done next sent) = sent
sends (Refused why) = []

sent_nothing : (ctx : Context) (node after : AnyNode) (sent : List Sent) → HasNothingToSend node → node_step ctx node Tick ≡ Done after sent → sent ≡ []
sent_nothing ctx node after sent idle e = sym (ap sends e) ∙ ap sends (vain ctx node idle)

-- ---- of a log

makes_without : (ctx : Context) (before : AnyNode) (log more : List Logged) (sent : List Sent) → HasNothingToSend (replay ctx before log) → Makes ctx before (log ++ tick_that_sent sent ∷ more) → Makes ctx before (log ++ more)
makes_without ctx before [] more sent idle m = subst (λ (x : AnyNode). Makes ctx x more) (same_after ctx before idle) m.1
makes_without ctx before (l ∷ log) more sent idle m = (m.0, makes_without ctx (node_after before (node_step ctx before l.call)) log more sent idle m.1)

leads_without : (ctx : Context) (before : AnyNode) (log more : List Logged) (sent : List Sent) → HasNothingToSend (replay ctx before log) → replay ctx before (log ++ more) ≡ replay ctx before (log ++ tick_that_sent sent ∷ more)
leads_without ctx before [] more sent idle = ap (λ (x : AnyNode). replay ctx x more) (sym (same_after ctx before idle))
leads_without ctx before (l ∷ log) more sent idle = leads_without ctx (node_after before (node_step ctx before l.call)) log more sent idle

sends_without : (ctx : Context) (before : AnyNode) (log more : List Logged) (sent : List Sent) → HasNothingToSend (replay ctx before log) → Makes ctx before (log ++ tick_that_sent sent ∷ more)
    → flat_map (λ (l : Logged). l.sent) (log ++ more) ≡ flat_map (λ (l : Logged). l.sent) (log ++ tick_that_sent sent ∷ more)
sends_without ctx before [] more sent idle m = sym (ap (λ (s : List Sent). s ++ flat_map (λ (l : Logged). l.sent) more) (sent_nothing ctx before _ sent idle m.0))
sends_without ctx before (l ∷ log) more sent idle m = ap (λ (s : List Sent). l.sent ++ s) (sends_without ctx (node_after before (node_step ctx before l.call)) log more sent idle m.1)

pub same_without : (ctx : Context) (name : Node) (before : AnyNode) (log more : List Logged) (sent : List Sent) → HasNothingToSend (replay ctx before log) → Makes ctx before (log ++ tick_that_sent sent ∷ more)
    → IsSameWithout ctx name before log (tick_that_sent sent) more
same_without ctx name before log more sent idle m =
    record {
      makes = makes_without ctx before log more sent idle m;
      leads = leads_without ctx before log more sent idle;
      posts = ap (map (packet_from name)) (sends_without ctx before log more sent idle m);
    }

pub makes_with : (ctx : Context) (before : AnyNode) (log more : List Logged) → HasNothingToSend (replay ctx before log) → Makes ctx before (log ++ more) → Makes ctx before (log ++ tick_that_sent [] ∷ more)
makes_with ctx before [] more idle m =
    let same = same_after ctx before idle in
    (vain ctx before idle ∙ ap (λ (x : AnyNode). Done x []) (sym same), subst (λ (x : AnyNode). Makes ctx x more) (sym same) m)
makes_with ctx before (l ∷ log) more idle m = (m.0, makes_with ctx (node_after before (node_step ctx before l.call)) log more idle m.1)
