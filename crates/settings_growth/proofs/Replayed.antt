-- A log that is made under the old settings is made under the new ones.
use Rattle.std.proofs.Common.{◌≡◌, ℕ, ◌≤◌, List, [], ◌∷◌, ◌++◌, Option, Some, refl, sym, ap, ◌∙◌, subst}
use Rattle.std.specs.Prelude.{⊤}
use Rattle.std.specs.List.{AllByRecursion}
use Rattle.claim_model.specs.Words.{RouteKey}
use Rattle.claim_model.specs.Context.{Context}
use Rattle.claim_model.specs.Readable.{route_key}
use Rattle.claim_model.specs.Journal.{Journal, JournalAtRest}
use Rattle.claim_model.specs.Table.{Table}
use Rattle.claim_model.specs.Rows.{Book}
use Rattle.claim_model.specs.Node.{Node, Pharmacy, Switch, Payer, Call, Submit, Tick, Take, Stop, Start, Revise, Adjudicate, Power, Outcome, Done, pharmacy_step, switch_step, payer_step}
use Rattle.claim_model.specs.Settings.{WorldSettings, opening}
use Rattle.claim_model.specs.Nodes.{AnyNode, OfPharmacy, OfSwitch, OfPayer, as_node, node_step, node_at}
use Rattle.claim_model.specs.Logs.{Logged, node_after, replay, Makes}
use Rattle.settings_growth.specs.Growth.{Widens, WidensFor, NodesGrow, Grows, GrowsFor, with_cap, journal_with_cap, book_with_cap, RouteLasts, RoutesLast, IsOwnCall, HasOwnCalls, RejectionStays, RejectionsStay}
use Rattle.settings_growth.specs.GoingOver.{GoesOver}
use Rattle.settings_growth.proofs.Rerouted.{rerouted, of_kind}
use Rattle.settings_growth.proofs.Pharmacies.{journal_cap, journal_cap_stays, pharmacy_over}
use Rattle.settings_growth.proofs.Switches.{lasts, switch_over}
use Rattle.settings_growth.proofs.Payers.{book_cap, book_cap_stays, payer_over}
use Rattle.settings_growth.proofs.Opening.{pharmacy_there, switch_there, payer_there}

-- a log is made by another node too, and comes to that one's like
pub record Alike (wider : Context) (f : AnyNode) (log : List Logged) (end : AnyNode) : Type 0 where
  pub makes : Makes wider f log
  pub leads : replay wider f log ≡ end

-- a call, and then a log
pub alike_more : (wider : Context) (f after : AnyNode) (l : Logged) (log : List Logged) (end : AnyNode) → node_step wider f l.call ≡ Done after l.sent → Alike wider after log end → Alike wider f (l ∷ log) end
alike_more wider f after l log end steps r =
    let n : after ≡ node_after f (node_step wider f l.call) = ap (node_after f) (sym steps) in
    record {
      makes = (steps ∙ ap (λ (x : AnyNode). Done x l.sent) n, subst (λ (x : AnyNode). Makes wider x log) n r.makes);
      leads = ap (λ (x : AnyNode). replay wider x log) (sym n) ∙ r.leads;
    }

-- logs of one kind of node, whose steps are alike where P holds of it, and Q of the call
module _ {A : Type 0} (kind : A → AnyNode) (step : Context → A → Call → Outcome A) (steps : (c : Context) (a : A) (call : Call) → node_step c (kind a) call ≡ as_node kind (step c a call)) (ctx wider : Context) (f : A → A) (g : AnyNode → AnyNode)
    (same : (a : A) → kind (f a) ≡ g (kind a)) (P : A → Type 0) (Q : Logged → Type 0)
    (over : (a : A) (l : Logged) (next : A) → P a → Q l → step ctx a l.call ≡ Done next l.sent → (step wider (f a) l.call ≡ Done (f next) l.sent) × P next) where
  alike : (a : A) (log : List Logged) → P a → AllByRecursion Q log → Makes ctx (kind a) log → Alike wider (kind (f a)) log (g (replay ctx (kind a) log))
  alike a [] p q m = record { makes = tt; leads = same a }
  alike a (l ∷ log) p q m =
      let k = of_kind kind (step ctx a l.call) (node_after (kind a) (node_step ctx (kind a) l.call)) l.sent (sym (steps ctx a l.call) ∙ m.0) in
      let o = over a l k.after p q.0 k.is in
      alike_more wider (kind (f a)) (kind (f k.after)) l log (g (replay ctx (kind a) (l ∷ log))) (steps wider (f a) l.call ∙ ap (as_node kind) o.0)
      (subst (λ (x : AnyNode). Alike wider (kind (f k.after)) log (g (replay ctx x log))) k.same
      (alike k.after log o.1 q.1 (subst (λ (x : AnyNode). Makes ctx x log) (sym k.same) m.1)))

nothing_asked : (log : List Logged) → AllByRecursion (λ (l : Logged). ⊤) log
nothing_asked [] = tt
nothing_asked (l ∷ log) = (tt, nothing_asked log)

both : (P Q : Logged → Type 0) (log : List Logged) → AllByRecursion P log → AllByRecursion Q log → AllByRecursion (λ (l : Logged). P l × Q l) log
both P Q [] p q = tt
both P Q (l ∷ log) p q = ((p.0, q.0), both P Q log p.1 q.1)

pharmacy_log : (ctx : Context) (route : ℕ → RouteKey → Option ℕ) (count : ℕ) (cap : ℕ) (node : Power Journal JournalAtRest) (log : List Logged) → ctx.switches ≤ count → journal_cap node ≤ cap → Makes ctx (OfPharmacy node) log
    → Alike (rerouted ctx route count) (OfPharmacy (journal_with_cap cap node)) log (with_cap cap (replay ctx (OfPharmacy node) log))
pharmacy_log ctx route count cap node log more le m =
    alike OfPharmacy pharmacy_step (λ c a call. refl) ctx (rerouted ctx route count) (journal_with_cap cap) (with_cap cap) (λ a. refl) (λ (a : Power Journal JournalAtRest). journal_cap a ≤ cap) (λ (l : Logged). ⊤)
    (λ a l next p q e. (pharmacy_over ctx route count a cap l.call next l.sent more p e, subst (λ (n : ℕ). n ≤ cap) (sym (journal_cap_stays ctx a l.call next l.sent e)) p))
    node log le (nothing_asked log) m

switch_log : (ctx : Context) (route : ℕ → RouteKey → Option ℕ) (count : ℕ) (node : Power Table ℕ) (log : List Logged) → RoutesLast ctx (rerouted ctx route count) log → AllByRecursion (λ (l : Logged). RejectionStays ctx (rerouted ctx route count) l.call) log → Makes ctx (OfSwitch node) log
    → Alike (rerouted ctx route count) (OfSwitch node) log (replay ctx (OfSwitch node) log)
switch_log ctx route count node log last stays m =
    alike OfSwitch switch_step (λ c a call. refl) ctx (rerouted ctx route count) (λ (a : Power Table ℕ). a) (λ (n : AnyNode). n) (λ a. refl) (λ (a : Power Table ℕ). ⊤) (λ (l : Logged). RouteLasts ctx (rerouted ctx route count) l.call × RejectionStays ctx (rerouted ctx route count) l.call)
    (λ a l next p q e. (switch_over ctx route count a l.call q.0 q.1 ∙ e, tt))
    node log tt (both (λ (l : Logged). RouteLasts ctx (rerouted ctx route count) l.call) (λ (l : Logged). RejectionStays ctx (rerouted ctx route count) l.call) log last stays) m

payer_log : (ctx : Context) (route : ℕ → RouteKey → Option ℕ) (count : ℕ) (cap : ℕ) (node : Power Book Book) (log : List Logged) → RoutesLast ctx (rerouted ctx route count) log → book_cap node ≤ cap → Makes ctx (OfPayer node) log
    → Alike (rerouted ctx route count) (OfPayer (book_with_cap cap node)) log (with_cap cap (replay ctx (OfPayer node) log))
payer_log ctx route count cap node log last le m =
    alike OfPayer payer_step (λ c a call. refl) ctx (rerouted ctx route count) (book_with_cap cap) (with_cap cap) (λ a. refl) (λ (a : Power Book Book). book_cap a ≤ cap) (λ (l : Logged). RouteLasts ctx (rerouted ctx route count) l.call)
    (λ a l next p q e. (payer_over ctx route count a cap l.call next l.sent q p e, subst (λ (n : ℕ). n ≤ cap) (sym (book_cap_stays ctx a l.call next l.sent e)) p))
    node log le last m

-- a switch comes to a switch, which has no cap to raise
switch_end : (ctx : Context) (cap : ℕ) (node : Power Table ℕ) (log : List Logged) → Makes ctx (OfSwitch node) log → replay ctx (OfSwitch node) log ≡ with_cap cap (replay ctx (OfSwitch node) log)
switch_end ctx cap node [] m = refl
switch_end ctx cap node (l ∷ log) m =
    let k = of_kind OfSwitch (switch_step ctx node l.call) (node_after (OfSwitch node) (node_step ctx (OfSwitch node) l.call)) l.sent m.0 in
    subst (λ (x : AnyNode). replay ctx x log ≡ with_cap cap (replay ctx x log)) k.same (switch_end ctx cap k.after log (subst (λ (x : AnyNode). Makes ctx x log) (sym k.same) m.1))

over_by_kind : (ctx : Context) (route : ℕ → RouteKey → Option ℕ) (count : ℕ) (s t : WorldSettings) (node : Node) (before : AnyNode) (log : List Logged) → ctx.switches ≤ count → NodesGrow s t → node_at (opening s) node ≡ Some before
    → RoutesLast ctx (rerouted ctx route count) log → RejectionsStay ctx (rerouted ctx route count) node log → Makes ctx before log → GoesOver ctx (rerouted ctx route count) t node before log
over_by_kind ctx route count s t (Pharmacy n) before log more g is last stays m =
    let p = pharmacy_there s t n before g.pharmacies is in
    subst (λ (x : AnyNode). GoesOver ctx (rerouted ctx route count) t (Pharmacy n) x log) (sym p.is)
    (let a = pharmacy_log ctx route count p.cap p.node log more p.room (subst (λ (x : AnyNode). Makes ctx x log) p.is m) in
    record { cap = p.cap; opens = p.opens; makes = a.makes; leads = a.leads })
over_by_kind ctx route count s t (Switch n) before log more g is last stays m =
    let p = switch_there s t n before g.switches is in
    subst (λ (x : AnyNode). GoesOver ctx (rerouted ctx route count) t (Switch n) x log) (sym p.is)
    (let made : Makes ctx (OfSwitch p.node) log = subst (λ (x : AnyNode). Makes ctx x log) p.is m in
    let a = switch_log ctx route count p.node log last stays made in
    record { cap = 0; opens = p.opens; makes = a.makes; leads = a.leads ∙ switch_end ctx 0 p.node log made })
over_by_kind ctx route count s t (Payer n) before log more g is last stays m =
    let p = payer_there s t n before g.payers is in
    subst (λ (x : AnyNode). GoesOver ctx (rerouted ctx route count) t (Payer n) x log) (sym p.is)
    (let a = payer_log ctx route count p.cap p.node log last p.room (subst (λ (x : AnyNode). Makes ctx x log) p.is m) in
    record { cap = p.cap; opens = p.opens; makes = a.makes; leads = a.leads })

-- a log whose requests have the routes that they had
pub goes_over_lasting : (ctx wider : Context) (s t : WorldSettings) (node : Node) (before : AnyNode) (log : List Logged) → wider ≡ record ctx { route = wider.route; switches = wider.switches } → ctx.switches ≤ wider.switches → NodesGrow s t → node_at (opening s) node ≡ Some before
    → RoutesLast ctx wider log → RejectionsStay ctx wider node log → Makes ctx before log → GoesOver ctx wider t node before log
goes_over_lasting ctx wider s t node before log e more g is last stays m =
    subst (λ (x : Context). GoesOver ctx x t node before log) (sym e)
    (over_by_kind ctx wider.route wider.switches s t node before log more g is (subst (λ (x : Context). RoutesLast ctx x log) e last) (subst (λ (x : Context). RejectionsStay ctx x node log) e stays) m)

all_last : (ctx wider : Context) (log : List Logged) → Widens ctx wider → RoutesLast ctx wider log
all_last ctx wider [] w = tt
all_last ctx wider (l ∷ log) w = (subst (λ (x : Context). RouteLasts ctx x l.call) (sym w.reading) (lasts ctx wider.route wider.switches l.call w.routes), all_last ctx wider log w)

pub goes_over : (ctx wider : Context) (s t : WorldSettings) (node : Node) (before : AnyNode) (log : List Logged) → Grows ctx wider s t → node_at (opening s) node ≡ Some before → RejectionsStay ctx wider node log → Makes ctx before log
    → GoesOver ctx wider t node before log
goes_over ctx wider s t node before log g is stays m =
    goes_over_lasting ctx wider s t node before log g.widens.reading g.widens.switches (record { pharmacies = g.pharmacies; switches = g.switches; payers = g.payers }) is (all_last ctx wider log g.widens) stays m

-- what was of the old pharmacies has the route that it had
own_lasts : (ctx wider : Context) (s : WorldSettings) (call : Call) → WidensFor s ctx wider → IsOwnCall ctx s call → RouteLasts ctx wider call
own_lasts ctx wider s (Take from bytes) w own = λ e h payer opened is reads. w.routes e.id.number (route_key h) payer (own e h opened is reads)
own_lasts ctx wider s (Submit text) w own = tt
own_lasts ctx wider s Tick w own = tt
own_lasts ctx wider s Stop w own = tt
own_lasts ctx wider s Start w own = tt
own_lasts ctx wider s (Revise change) w own = tt
own_lasts ctx wider s (Adjudicate from bytes advice) w own = λ e h payer opened is reads. w.routes e.id.number (route_key h) payer (own e h opened is reads)

own_last : (ctx wider : Context) (s : WorldSettings) (log : List Logged) → WidensFor s ctx wider → HasOwnCalls ctx s log → RoutesLast ctx wider log
own_last ctx wider s [] w own = tt
own_last ctx wider s (l ∷ log) w own = (own_lasts ctx wider s l.call w own.0, own_last ctx wider s log w own.1)

pub goes_over_for : (ctx wider : Context) (s t : WorldSettings) (node : Node) (before : AnyNode) (log : List Logged) → GrowsFor ctx wider s t → node_at (opening s) node ≡ Some before → HasOwnCalls ctx s log → RejectionsStay ctx wider node log → Makes ctx before log
    → GoesOver ctx wider t node before log
goes_over_for ctx wider s t node before log g is own stays m =
    goes_over_lasting ctx wider s t node before log g.widens.reading g.widens.switches g.nodes is (own_last ctx wider s log g.widens own) stays m

-- a log that goes on

pub makes_append : (ctx : Context) (before : AnyNode) (log more : List Logged) → Makes ctx before log → Makes ctx (replay ctx before log) more → Makes ctx before (log ++ more)
makes_append ctx before [] more a b = b
makes_append ctx before (l ∷ log) more a b = (a.0, makes_append ctx (node_after before (node_step ctx before l.call)) log more a.1 b)

pub goes_on_from : (ctx wider : Context) (t : WorldSettings) (node : Node) (before after : AnyNode) (log more : List Logged) → GoesOver ctx wider t node before log → node_at (opening t) node ≡ Some after
    → Makes wider (replay wider after log) more → Makes wider after (log ++ more)
goes_on_from ctx wider t node before after log more o there b =
    let e : ◌≡◌ {A = Option AnyNode} (Some (with_cap o.cap before)) (Some after) = sym o.opens ∙ there in
    let same : with_cap o.cap before ≡ after = cc in
    makes_append wider after log more (subst (λ (x : AnyNode). Makes wider x log) same o.makes) b

pub goes_on : (ctx wider : Context) (s t : WorldSettings) (node : Node) (before after : AnyNode) (log more : List Logged) → Grows ctx wider s t → node_at (opening s) node ≡ Some before → node_at (opening t) node ≡ Some after
    → RejectionsStay ctx wider node log → Makes ctx before log → Makes wider (replay wider after log) more → Makes wider after (log ++ more)
goes_on ctx wider s t node before after log more g is there stays m b = goes_on_from ctx wider t node before after log more (goes_over ctx wider s t node before log g is stays m) there b

pub goes_on_for : (ctx wider : Context) (s t : WorldSettings) (node : Node) (before after : AnyNode) (log more : List Logged) → GrowsFor ctx wider s t → node_at (opening s) node ≡ Some before → node_at (opening t) node ≡ Some after
    → HasOwnCalls ctx s log → RejectionsStay ctx wider node log → Makes ctx before log → Makes wider (replay wider after log) more → Makes wider after (log ++ more)
goes_on_for ctx wider s t node before after log more g is there own stays m b = goes_on_from ctx wider t node before after log more (goes_over_for ctx wider s t node before log g is own stays m) there b
