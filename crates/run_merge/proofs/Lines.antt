-- What is left of logs, one log for each node.
use Rattle.std.proofs.Common.{◌≡◌, ℕ, zero, suc, ◌<◌, true, false, not, ◌&&◌, ◌||◌, cond, List, [], ◌∷◌, length, Option, Some, slice_get, slice_set, refl, sym, ap, ◌∙◌, subst, inl, inr, arith}
use Rattle.std.proofs.lemmas.Bool.{and_parts, not-true, or_parts, cond-true, cond-false}
use Rattle.claim_model.specs.Node.{Node}
use Rattle.claim_model.specs.World.{Packet, Event, posted}
use Rattle.claim_model.specs.Nodes.{same_node}
use Rattle.claim_model.specs.Logs.{Logged, NodeLog}
use Rattle.run_merge.specs.Naming.{has_log, all_distinct, calls_of}
use Rattle.run_merge.specs.Order.{advanced, Asks, Leads, Stuck, Completes, NoOrder, none_left, calls_left}
use Rattle.run_merge.specs.Line.{AllWait, OrderParts, IsPlaced, IsMadeByEvents, AllPlaced}
use Rattle.claim_model.proofs.Names.{same_self}
use Rattle.run_merge.proofs.Names.{name_cases}
use Rattle.run_merge.proofs.Ordering.{advanced_same, advanced_other, leads_more, finished}

pub same_log : (a b : NodeLog) → ◌≡◌ {A = Option NodeLog} (Some a) (Some b) → a ≡ b
same_log a b h = cc

-- a node without a log here has no log at any place
pub no_log_at : (node : Node) (logs : List NodeLog) (k : ℕ) (log : NodeLog) → has_log node logs ≡ false → slice_get logs k ≡ Some log → same_node log.node node ≡ false
no_log_at node [] k log h e = absurd cc
no_log_at node (l ∷ logs) zero log h e =
    let p = or_parts (same_node l.node node) (has_log node logs) h in
    subst (λ (x : NodeLog). same_node x.node node ≡ false) (same_log l log e) p.0
no_log_at node (l ∷ logs) (suc k) log h e =
    let p = or_parts (same_node l.node node) (has_log node logs) h in
    no_log_at node logs k log p.1 e

pub first_distinct : (l : NodeLog) (logs : List NodeLog) → all_distinct (l ∷ logs) ≡ true → (has_log l.node logs ≡ false) × (all_distinct logs ≡ true)
first_distinct l logs h = let p = and_parts (not (has_log l.node logs)) (all_distinct logs) h in (not-true (has_log l.node logs) p.0, p.1)

swapped : (a b : Node) → same_node a b ≡ false → same_node b a ≡ false
swapped a b h = elim (name_cases b a) [
  | inl s ↦ let e : same_node a b ≡ true = ap (same_node a) s.0 ∙ same_self a in absurd (let f : true ≡ false = sym e ∙ h in cc)
  | inr d ↦ d
]

-- the calls of a log are those of its node
pub calls_at : (logs : List NodeLog) (k : ℕ) (log : NodeLog) → all_distinct logs ≡ true → slice_get logs k ≡ Some log → calls_of logs log.node ≡ log.calls
calls_at [] k log h e = absurd cc
calls_at (l ∷ logs) zero log h e =
    let f : l ≡ log = same_log l log e in
    subst (λ (x : NodeLog). calls_of (l ∷ logs) x.node ≡ x.calls) f (cond-true (same_node l.node l.node) l.calls (calls_of logs l.node) (same_self l.node))
calls_at (l ∷ logs) (suc k) log h e =
    let d = first_distinct l logs h in
    let n : same_node l.node log.node ≡ false = swapped log.node l.node (no_log_at l.node logs k log d.0 e) in
    cond-false (same_node l.node log.node) l.calls (calls_of logs log.node) n ∙ calls_at logs k log d.1 e

abbrev with_calls : NodeLog → List Logged → NodeLog
with_calls log calls = record { node = log.node; calls = calls }

has_log_set : (node : Node) (logs : List NodeLog) (k : ℕ) (log : NodeLog) (calls : List Logged) → slice_get logs k ≡ Some log → has_log node (slice_set logs k (with_calls log calls)) ≡ has_log node logs
has_log_set node [] k log calls e = refl
has_log_set node (l ∷ logs) zero log calls e = ap (λ (x : NodeLog). same_node x.node node || has_log node logs) (sym (same_log l log e))
has_log_set node (l ∷ logs) (suc k) log calls e = ap (λ b. same_node l.node node || b) (has_log_set node logs k log calls e)

-- one log for each node stays so
pub distinct_set : (logs : List NodeLog) (k : ℕ) (log : NodeLog) (calls : List Logged) → slice_get logs k ≡ Some log → all_distinct (slice_set logs k (with_calls log calls)) ≡ all_distinct logs
distinct_set [] k log calls e = refl
distinct_set (l ∷ logs) zero log calls e = ap (λ (x : NodeLog). not (has_log x.node logs) && all_distinct logs) (sym (same_log l log e))
distinct_set (l ∷ logs) (suc k) log calls e = λ i. not (has_log_set l.node logs k log calls e i) && distinct_set logs k log calls e i

-- what is left of each node's calls, where a log has this left
pub calls_set : (logs : List NodeLog) (k : ℕ) (log : NodeLog) (calls : List Logged) → all_distinct logs ≡ true → slice_get logs k ≡ Some log → (m : Node) → calls_of (slice_set logs k (with_calls log calls)) m ≡ advanced (calls_of logs) log.node calls m
calls_set [] k log calls h e m = absurd cc
calls_set (l ∷ logs) zero log calls h e m = elim (name_cases log.node m) [
  | inl s ↦ cond-true (same_node log.node m) calls (calls_of logs m) s.1 ∙ sym (advanced_same (calls_of (l ∷ logs)) log.node m calls s.1)
  | inr d ↦
      let f : log ≡ l = sym (same_log l log e) in
      let g : same_node l.node m ≡ false = ap (λ (x : NodeLog). same_node x.node m) (sym f) ∙ d in
      cond-false (same_node log.node m) calls (calls_of logs m) d ∙ (sym (cond-false (same_node l.node m) l.calls (calls_of logs m) g) ∙ sym (advanced_other (calls_of (l ∷ logs)) log.node m calls d))
]
calls_set (l ∷ logs) (suc k) log calls h e m =
    let d = first_distinct l logs h in
    let i = calls_set logs k log calls d.1 e m in
    let n : same_node log.node l.node ≡ false = no_log_at l.node logs k log d.0 e in
    elim (name_cases l.node m) [
      | inl s ↦
          let o : same_node log.node m ≡ false = subst (λ (x : Node). same_node log.node x ≡ false) s.0 n in
          cond-true (same_node l.node m) l.calls (calls_of (slice_set logs k (with_calls log calls)) m) s.1 ∙ (sym (cond-true (same_node l.node m) l.calls (calls_of logs m) s.1) ∙ sym (advanced_other (calls_of (l ∷ logs)) log.node m calls o))
      | inr c ↦
          let a : calls_of (l ∷ logs) m ≡ calls_of logs m = cond-false (same_node l.node m) l.calls (calls_of logs m) c in
          let b : advanced (calls_of (l ∷ logs)) log.node calls m ≡ advanced (calls_of logs) log.node calls m = ap (λ (x : List Logged). cond (same_node log.node m) calls x) a in
          cond-false (same_node l.node m) l.calls (calls_of (slice_set logs k (with_calls log calls)) m) c ∙ (i ∙ sym b)
    ]

-- a log at a place
pub record Found (logs : List NodeLog) (node : Node) (calls : List Logged) : Type 0 where
  pub place : ℕ
  pub log : NodeLog
  pub at : slice_get logs place ≡ Some log
  pub node_is : log.node ≡ node
  pub calls_are : log.calls ≡ calls

-- calls that a node has are those of a log
pub calls_found : (logs : List NodeLog) (m : Node) (r : Logged) (calls : List Logged) → calls_of logs m ≡ r ∷ calls → Found logs m (r ∷ calls)
calls_found [] m r calls h = absurd cc
calls_found (l ∷ logs) m r calls h = elim (name_cases l.node m) [
  | inl s ↦ record { place = zero; log = l; at = refl; node_is = s.0; calls_are = sym (cond-true (same_node l.node m) l.calls (calls_of logs m) s.1) ∙ h }
  | inr d ↦
      let i = calls_found logs m r calls (sym (cond-false (same_node l.node m) l.calls (calls_of logs m) d) ∙ h) in
      record { place = suc i.place; log = i.log; at = i.at; node_is = i.node_is; calls_are = i.calls_are }
]

-- one call less is left
pub left_set : (logs : List NodeLog) (k : ℕ) (log : NodeLog) (r : Logged) (calls : List Logged) → slice_get logs k ≡ Some log → log.calls ≡ r ∷ calls → calls_left (slice_set logs k (with_calls log calls)) < calls_left logs
left_set [] k log r calls e h = absurd cc
left_set (l ∷ logs) zero log r calls e h =
    let f : length l.calls ≡ length (r ∷ calls) = ap (λ (x : NodeLog). length x.calls) (same_log l log e) ∙ ap length h in
    omega arith
left_set (l ∷ logs) (suc k) log r calls e h = let i = left_set logs k log r calls e h in omega arith

-- where no log goes on, no node does
pub all_stuck : (packets : List Packet) (lines : List NodeLog) → AllWait packets lines → Stuck packets (calls_of lines)
all_stuck packets lines w node r calls h e asks =
    let f = calls_found lines node r calls h in
    let a : Asks packets e f.log.node r = subst (λ (x : Node). Asks packets e x r) (sym f.node_is) asks in
    w f.place f.log f.at r calls f.calls_are e a.0 a.1

-- an order goes on by one event
pub made_more : (given : Node → List Logged) (old new : OrderParts) → IsMadeByEvents given old → IsPlaced old new → IsMadeByEvents given new
made_more given old new m p =
    let d : all_distinct new.lines ≡ true = ap all_distinct p.lines ∙ (distinct_set old.lines p.place p.log p.calls p.at ∙ m.distinct) in
    let head : calls_of old.lines p.log.node ≡ p.first ∷ p.calls = calls_at old.lines p.place p.log m.distinct p.at ∙ p.is in
    let after : (x : Node) → calls_of new.lines x ≡ advanced (calls_of old.lines) p.log.node p.calls x = λ x. ap (λ (l : List NodeLog). calls_of l x) p.lines ∙ calls_set old.lines p.place p.log p.calls m.distinct p.at x in
    let l = leads_more [] given old.events old.packets (calls_of old.lines) p.event p.log.node p.first p.calls (calls_of new.lines) m.leads p.asks head after in
    let a : Leads [] given new.events (posted old.packets p.log.node p.first.sent) (calls_of new.lines) = subst (λ (es : List Event). Leads [] given es (posted old.packets p.log.node p.first.sent) (calls_of new.lines)) (sym p.events) l in
    record { distinct = d; leads = subst (λ (ps : List Packet). Leads [] given new.events ps (calls_of new.lines)) (sym p.packets) a }

pub fewer_left : (old new : OrderParts) → IsPlaced old new → calls_left new.lines < calls_left old.lines
fewer_left old new p = subst (λ (l : List NodeLog). calls_left l < calls_left old.lines) (sym p.lines) (left_set old.lines p.place p.log p.first p.calls p.at p.is)

none_of : (lines : List NodeLog) → AllPlaced lines → (m : Node) → calls_of lines m ≡ []
none_of lines f m = by (calls_of lines m) refl
  where
    by : (x : List Logged) → calls_of lines m ≡ x → calls_of lines m ≡ []
    by [] e = e
    by (r ∷ calls) e = let g = calls_found lines m r calls e in let c : r ∷ calls ≡ [] = sym g.calls_are ∙ f g.place g.log g.at in absurd cc

-- an order that has nothing left makes all calls, and its packets are what they send
pub all_made : (given : Node → List Logged) (order : OrderParts) → IsMadeByEvents given order → AllPlaced order.lines → Completes given order.events order.packets
all_made given order m f =
    let n = none_of order.lines f in
    let e : calls_of order.lines ≡ none_left = λ i. λ x. n x i in
    subst (λ (left : Node → List Logged). Leads [] given order.events order.packets left) e m.leads

-- an order that is stuck with calls left shows that there is none
pub none_made : (given : Node → List Logged) (order : OrderParts) → IsMadeByEvents given order → AllWait order.packets order.lines → (AllPlaced order.lines → ⊥) → NoOrder given
none_made given order m w n events o =
    let left = finished given events order.events o.sent order.packets (calls_of order.lines) o.leads m.leads (all_stuck order.packets order.lines w) in
    n (λ k log e. sym (calls_at order.lines k log m.distinct e) ∙ left log.node)
