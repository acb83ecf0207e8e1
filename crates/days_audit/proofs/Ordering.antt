-- An order of calls that goes on one by one, what it is when nothing is left, and that there is none where it is stuck or broken.
use Rattle.std.proofs.Common.{◌≡◌, ℕ, zero, suc, ◌+◌, ◌<◌, ◌==◌, true, false, not, List, [], ◌∷◌, ◌++◌, length, Option, Some, slice_get, slice_set, refl, sym, ap, ◌∙◌, subst, ◌⊎◌, inl, inr, arith, append-nil, eqb-true}
use Rattle.std.specs.Prelude.{option_map}
use Rattle.std.specs.List.{list_all}
use Rattle.std.proofs.lemmas.Bool.{and_parts, eq-eqb, and_from}
use Rattle.claim_model.specs.Context.{Context}
use Rattle.claim_model.specs.Logs.{Logged, NodeLog, replay}
use Rattle.claim_model.specs.Node.{Node, Done}
use Rattle.claim_model.specs.Nodes.{AnyNode, node_at, called}
use Rattle.claim_model.specs.World.{World, on_node}
use Rattle.claim_model.proofs.Names.{told_apart}
use Rattle.claim_model.proofs.Steps.{accepted}
use Rattle.claim_model.proofs.Walking.{same_first, same_rest}
use Rattle.crash_safety.specs.Explained.{Turn, log_among}
use Rattle.run_merge.specs.Naming.{all_distinct, calls_of}
use Rattle.run_merge.specs.Order.{advanced, calls_left}
use Rattle.vouched_runs.specs.Parties.{Parties, world_of, parties_in}
use Rattle.vouched_runs.specs.Vouched.{Leads}
use Rattle.crash_safety.specs.Greedy.{BeginsAs}
use Rattle.vouched_runs.specs.Days.{GoesOn}
use Rattle.days_audit.specs.Orders.{OrderParts, is_done, AllWait, IsPlaced, IsBroken, IsStill, HasTurns, NoTurns}
use Rattle.run_merge.proofs.Lines.{calls_at, distinct_set, calls_set, calls_found}
use Rattle.crash_safety.proofs.Taking.{own_first}
use Rattle.vouched_runs.proofs.Walking.{turned, own_replay, other_log, made_replay}
use Rattle.days_audit.proofs.Turning.{leads_more, among_left, one_longer}

-- an order that calls made, from these parties and these logs
pub record IsMadeBy (ctx : Context) (p : Parties) (logs : List NodeLog) (o : OrderParts) : Type 0 where
  pub distinct : all_distinct o.lines ≡ true
  pub turns : List Turn
  pub leads : Leads ctx p turns o.live
  pub among : (node : Node) → log_among turns node ++ calls_of o.lines node ≡ calls_of logs node
  pub count : o.placed ≡ length turns
  pub whole : o.broken ≡ false

pub made_first : (ctx : Context) (p : Parties) (logs : List NodeLog) → all_distinct logs ≡ true → IsMadeBy ctx p logs (record { lines = logs; live = p; placed = 0; broken = false })
made_first ctx p logs d = record { distinct = d; turns = []; leads = refl; among = λ node. refl; count = refl; whole = refl }

-- one call more
pub made_more : (ctx : Context) (p : Parties) (logs : List NodeLog) (old new : OrderParts) → IsMadeBy ctx p logs old → IsPlaced ctx old new → IsMadeBy ctx p logs new
made_more ctx p logs old new m s =
    let t : Turn = record { node = s.log.node; logged = s.first } in
    let head : calls_of old.lines s.log.node ≡ s.first ∷ s.calls = calls_at old.lines s.place s.log m.distinct s.at ∙ s.is in
    let after : (x : Node) → calls_of new.lines x ≡ advanced (calls_of old.lines) s.log.node s.calls x = λ x. ap (λ (l : List NodeLog). calls_of l x) s.lines ∙ calls_set old.lines s.place s.log s.calls m.distinct s.at x in
    record {
      distinct = ap all_distinct s.lines ∙ (distinct_set old.lines s.place s.log s.calls s.at ∙ m.distinct);
      turns = m.turns ++ t ∷ [];
      leads = leads_more ctx p old.live new.live m.turns t m.leads s.vouched s.does;
      among = λ x. ap (λ (l : List Logged). log_among (m.turns ++ t ∷ []) x ++ l) (after x) ∙ (among_left m.turns t (calls_of old.lines) s.calls x head ∙ m.among x);
      count = s.placed ∙ (ap (λ (n : ℕ). n + 1) m.count ∙ sym (one_longer m.turns t));
      whole = s.broken ∙ m.whole;
    }

-- nothing is left

no_calls : (calls : List Logged) → length calls ≡ 0 → calls ≡ []
no_calls [] h = refl
no_calls (r ∷ calls) h = absurd (omega arith)

none_left : (lines : List NodeLog) → list_all (λ (line : NodeLog). length line.calls == 0) lines ≡ true → (k : ℕ) (log : NodeLog) → slice_get lines k ≡ Some log → log.calls ≡ []
none_left [] h k log e = absurd cc
none_left (line ∷ lines) h zero log e =
    let p = and_parts (length line.calls == 0) (list_all (λ (x : NodeLog). length x.calls == 0) lines) h in
    let same : line ≡ log = cc in
    subst (λ (x : NodeLog). x.calls ≡ []) same (no_calls line.calls (eqb-true (length line.calls) 0 p.0))
none_left (line ∷ lines) h (suc k) log e =
    let p = and_parts (length line.calls == 0) (list_all (λ (x : NodeLog). length x.calls == 0) lines) h in
    none_left lines p.1 k log e

none_of : (lines : List NodeLog) → list_all (λ (line : NodeLog). length line.calls == 0) lines ≡ true → (m : Node) → calls_of lines m ≡ []
none_of lines f m = by (calls_of lines m) refl
  where
    by : (x : List Logged) → calls_of lines m ≡ x → calls_of lines m ≡ []
    by [] e = e
    by (r ∷ calls) e = let g = calls_found lines m r calls e in let c : r ∷ calls ≡ [] = sym g.calls_are ∙ none_left lines f g.place g.log g.at in absurd cc

pub done_turns : (ctx : Context) (p : Parties) (logs : List NodeLog) (o : OrderParts) → IsMadeBy ctx p logs o → is_done o ≡ true → HasTurns ctx p logs o.placed
done_turns ctx p logs o m d =
    let all = (and_parts (not o.broken) (list_all (λ (line : NodeLog). length line.calls == 0) o.lines) d).1 in
    record {
      turns = m.turns;
      after = o.live;
      leads = m.leads;
      among = λ node. sym (append-nil (log_among m.turns node)) ∙ (ap (λ (l : List Logged). log_among m.turns node ++ l) (sym (none_of o.lines all node)) ∙ m.among node);
      count = m.count;
    }

-- an order that is stuck

all_none : (lines whole : List NodeLog) → ((k : ℕ) (log : NodeLog) → slice_get lines k ≡ Some log → log.calls ≡ []) → list_all (λ (line : NodeLog). length line.calls == 0) lines ≡ true
all_none [] whole f = refl
all_none (line ∷ lines) whole f =
    and_from (length line.calls == 0) (list_all (λ (x : NodeLog). length x.calls == 0) lines) (eq-eqb (length line.calls) 0 (ap length (f zero line refl))) (all_none lines whole (λ k log e. f (suc k) log e))

same_left : (xs ys zs : List Logged) → xs ++ ys ≡ xs ++ zs → ys ≡ zs
same_left [] ys zs e = e
same_left (x ∷ xs) ys zs e = same_left xs ys zs (same_rest x x (xs ++ ys) (xs ++ zs) e)

abbrev pub GoOn : Context → Type 0
GoOn ctx = (p q r : Parties) (turns made : List Turn) → Leads ctx p turns q → Leads ctx p made r → BeginsAs made turns → GoesOn ctx r made turns

pub still_none : (ctx : Context) (p : Parties) (logs : List NodeLog) (o : OrderParts) → GoOn ctx → IsMadeBy ctx p logs o → AllWait ctx o → is_done o ≡ false → NoTurns ctx p logs
still_none ctx p logs o go m w d calls h =
    let both : (node : Node) → log_among h.turns node ≡ log_among m.turns node ++ calls_of o.lines node = λ node. h.among node ∙ sym (m.among node) in
    elim (go p h.after o.live h.turns m.turns h.leads m.leads (λ node. (calls_of o.lines node, both node))) [
      | inl c ↦
          let left : calls_of o.lines c.next.node ≡ c.next.logged ∷ c.more = same_left (log_among m.turns c.next.node) (calls_of o.lines c.next.node) (c.next.logged ∷ c.more) (sym (both c.next.node) ∙ c.is) in
          let f = calls_found o.lines c.next.node c.next.logged c.more left in
          w f.place (record { log = f.log; at = f.at; goes = record { first = c.next.logged; calls = c.more; is = f.calls_are; vouched = c.leads.0 } })
      | inr all ↦
          let none : (node : Node) → calls_of o.lines node ≡ [] = λ node. same_left (log_among m.turns node) (calls_of o.lines node) [] (sym (both node) ∙ (sym (all node) ∙ sym (append-nil (log_among m.turns node)))) in
          let each : list_all (λ (line : NodeLog). length line.calls == 0) o.lines ≡ true = all_none o.lines o.lines (λ k log e. sym (calls_at o.lines k log m.distinct e) ∙ none log.node) in
          let yes : is_done o ≡ true = and_from (not o.broken) (list_all (λ (line : NodeLog). length line.calls == 0) o.lines) (ap not m.whole) each in
          let no : true ≡ false = sym yes ∙ d in
          absurd cc
    ]

-- an order that is broken: the node makes this call in no order

none_is_left : (ahead : List Logged) (first : Logged) (calls : List Logged) → [] ≡ ahead ++ first ∷ calls → ⊥
none_is_left [] first calls e = cc
none_is_left (l ∷ ahead) first calls e = cc

-- what a node does next, where others have made its calls as far as these
module _ (ctx : Context) (r : Parties) (node : Node) (first : Logged) (calls : List Logged) where
  made_there : (v : Parties) (rest : List Turn) (q : Parties) (ahead : List Logged) → Leads ctx v rest q → log_among rest node ≡ ahead ++ first ∷ calls
      → node_at (world_of r) node ≡ option_map (λ (s : AnyNode). replay ctx s ahead) (node_at (world_of v) node) → (u : World) × (on_node ctx (world_of r) node first.call ≡ Done u first.sent)
  made_there v [] q ahead l is leads = absurd (none_is_left ahead first calls is)
  made_there v (t ∷ rest) q ahead l is leads =
      let f = turned ctx v l.1.0 t l.1.1 in
      elim (told_apart t.node node) [
        | inl same ↦ by_ahead ahead (λ behind more on. made_there (parties_in l.1.0) rest q behind l.1.2 more on) same.1 is leads
        | inr other ↦
            made_there (parties_in l.1.0) rest q ahead l.1.2 (sym (other_log t rest node other.0) ∙ is)
            (leads ∙ ap (option_map (λ (s : AnyNode). replay ctx s ahead)) (sym (f.others node (λ e. other.1 (sym e)))))
      ]
    where
      by_ahead : (ahead : List Logged) → ((behind : List Logged) → log_among rest node ≡ behind ++ first ∷ calls → node_at (world_of r) node ≡ option_map (λ (s : AnyNode). replay ctx s behind) (node_at (world_of (parties_in l.1.0)) node) → (u : World) × (on_node ctx (world_of r) node first.call ≡ Done u first.sent))
          → t.node ≡ node → log_among (t ∷ rest) node ≡ ahead ++ first ∷ calls
          → node_at (world_of r) node ≡ option_map (λ (s : AnyNode). replay ctx s ahead) (node_at (world_of v) node) → (u : World) × (on_node ctx (world_of r) node first.call ≡ Done u first.sent)
      by_ahead [] go same is leads =
          let f = turned ctx v l.1.0 t l.1.1 in
          let heads : t.logged ∷ log_among rest t.node ≡ first ∷ calls = sym (own_first t rest) ∙ (ap (log_among (t ∷ rest)) same ∙ is) in
          let one : t.logged ≡ first = same_first t.logged first (log_among rest t.node) calls heads in
          let there : node_at (world_of r) t.node ≡ Some f.before =
          ap (node_at (world_of r)) same ∙ (leads ∙ (ap (λ (n : Node). option_map (λ (s : AnyNode). replay ctx s []) (node_at (world_of v) n)) (sym same) ∙ ap (option_map (λ (s : AnyNode). replay ctx s [])) f.was)) in
          let a = accepted ctx (world_of r) t.node t.logged.call f.after t.logged.sent (ap (λ (o : Option AnyNode). called ctx o t.logged.call) there ∙ f.steps) in
          (a.0, subst (λ (x : Logged). on_node ctx (world_of r) node x.call ≡ Done a.0 x.sent) one (subst (λ (n : Node). on_node ctx (world_of r) n t.logged.call ≡ Done a.0 t.logged.sent) same a.1))
      by_ahead (x ∷ ahead) go same is leads =
          let f = turned ctx v l.1.0 t l.1.1 in
          let heads : t.logged ∷ log_among rest t.node ≡ x ∷ (ahead ++ first ∷ calls) = sym (own_first t rest) ∙ (ap (log_among (t ∷ rest)) same ∙ is) in
          let one : t.logged ≡ x = same_first t.logged x (log_among rest t.node) (ahead ++ first ∷ calls) heads in
          let more : log_among rest node ≡ ahead ++ first ∷ calls = ap (log_among rest) (sym same) ∙ same_rest t.logged x (log_among rest t.node) (ahead ++ first ∷ calls) heads in
          let on : option_map (λ (s : AnyNode). replay ctx s (x ∷ ahead)) (node_at (world_of v) node) ≡ option_map (λ (s : AnyNode). replay ctx s ahead) (node_at (world_of (parties_in l.1.0)) node) =
          subst (λ (n : Node). option_map (λ (s : AnyNode). replay ctx s (x ∷ ahead)) (node_at (world_of v) n) ≡ option_map (λ (s : AnyNode). replay ctx s ahead) (node_at (world_of (parties_in l.1.0)) n)) same
          (own_replay ctx v (parties_in l.1.0) t f x ahead one) in
          go ahead more (leads ∙ on)

pub broken_none : (ctx : Context) (p : Parties) (logs : List NodeLog) (old new : OrderParts) → IsMadeBy ctx p logs old → IsBroken ctx old new → NoTurns ctx p logs
broken_none ctx p logs old new m b calls h =
    let node = b.log.node in
    let left : calls_of old.lines node ≡ b.first ∷ b.calls = calls_at old.lines b.place b.log m.distinct b.at ∙ b.is in
    let is : log_among h.turns node ≡ log_among m.turns node ++ b.first ∷ b.calls = h.among node ∙ (sym (m.among node) ∙ ap (λ (l : List Logged). log_among m.turns node ++ l) left) in
    let u = made_there ctx old.live node b.first b.calls p h.turns h.after (log_among m.turns node) h.leads is (made_replay ctx p old.live m.turns m.leads node) in
    b.not u.0 u.1

-- one call less is left

left_set : (logs : List NodeLog) (k : ℕ) (log : NodeLog) (r : Logged) (calls : List Logged) → slice_get logs k ≡ Some log → log.calls ≡ r ∷ calls → calls_left (slice_set logs k (record { node = log.node; calls = calls })) < calls_left logs
left_set [] k log r calls e h = absurd cc
left_set (l ∷ logs) zero log r calls e h =
    let same : l ≡ log = cc in
    let f : length l.calls ≡ length (r ∷ calls) = ap (λ (x : NodeLog). length x.calls) same ∙ ap length h in
    omega arith
left_set (l ∷ logs) (suc k) log r calls e h = let i = left_set logs k log r calls e h in omega arith

pub fewer_left : (ctx : Context) (old new : OrderParts) → IsPlaced ctx old new → calls_left new.lines < calls_left old.lines
fewer_left ctx old new p = subst (λ (l : List NodeLog). calls_left l < calls_left old.lines) (sym p.lines) (left_set old.lines p.place p.log p.first p.calls p.at p.is)

-- where a search ends

pub made_new : (ctx : Context) (p : Parties) (logs : List NodeLog) (o : OrderParts) → o ≡ record { lines = logs; live = p; placed = 0; broken = false } → all_distinct logs ≡ true → IsMadeBy ctx p logs o
made_new ctx p logs o e d = subst (IsMadeBy ctx p logs) (sym e) (made_first ctx p logs d)

pub ended_done : (ctx : Context) (p : Parties) (logs : List NodeLog) (old new : OrderParts) → IsMadeBy ctx p logs old → IsStill ctx old new ⊎ IsBroken ctx old new → is_done new ≡ true → HasTurns ctx p logs new.placed
ended_done ctx p logs old new m (inl s) d = done_turns ctx p logs new (subst (IsMadeBy ctx p logs) (sym s.same) m) d
ended_done ctx p logs old new m (inr b) d =
    let yes : not new.broken ≡ true = (and_parts (not new.broken) (list_all (λ (line : NodeLog). length line.calls == 0) new.lines) d).0 in
    let no : false ≡ true = sym (ap not b.broken) ∙ yes in
    absurd cc

pub ended_not : (ctx : Context) (p : Parties) (logs : List NodeLog) (old new : OrderParts) → GoOn ctx → IsMadeBy ctx p logs old → IsStill ctx old new ⊎ IsBroken ctx old new → is_done new ≡ false → NoTurns ctx p logs
ended_not ctx p logs old new go m (inl s) d = still_none ctx p logs new go (subst (IsMadeBy ctx p logs) (sym s.same) m) s.wait d
ended_not ctx p logs old new go m (inr b) d = broken_none ctx p logs old new m b
