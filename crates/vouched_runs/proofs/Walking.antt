-- One vouched call after another: a walk along given calls, beside parties that have made some of them in another order.
use Rattle.std.proofs.Common.{◌≡◌, ℕ, Bool, cond, List, [], ◌∷◌, ◌++◌, Option, Some, None, refl, sym, ap, ◌∙◌, subst, ◌⊎◌, inl, inr}
use Rattle.std.specs.Prelude.{option_map}
use Rattle.std.proofs.lemmas.List.{append-nil}
use Rattle.claim_model.specs.Context.{Context}
use Rattle.claim_model.specs.Numbered.{numbered}
use Rattle.claim_model.specs.Table.{Table}
use Rattle.claim_model.specs.Node.{Node, Pharmacy, Switch, Payer, Power, Call, Done}
use Rattle.claim_model.specs.World.{World, on_node}
use Rattle.claim_model.specs.Nodes.{AnyNode, OfSwitch, node_step, node_at, called, same_node}
use Rattle.claim_model.specs.Logs.{Logged, node_after, replay}
use Rattle.claim_model.specs.Carried.{IsVouched}
use Rattle.claim_model.proofs.Names.{told_apart}
use Rattle.claim_model.proofs.Runs.{Step, At_pharmacy, At_switch, At_payer, at_node, no_entries}
use Rattle.claim_model.proofs.Steps.{follows, accepted}
use Rattle.claim_model.proofs.Walking.{same_first, same_rest, nothing_left}
use Rattle.crash_safety.specs.Explained.{Turn, log_among}
use Rattle.crash_safety.specs.Greedy.{BeginsAs}
use Rattle.crash_safety.proofs.Taking.{own_first}
use Rattle.vouched_runs.specs.Parties.{Parties, world_of, parties_in}
use Rattle.vouched_runs.specs.Vouched.{Leads}
use Rattle.vouched_runs.specs.Days.{CanGo, GoesOn}
use Rattle.vouched_runs.proofs.Apart.{vouched_later}
use Rattle.vouched_runs.proofs.Further.{further_later}

-- ---- one turn

-- parties after a turn: its node made its step, and every other node is as it was
pub record Turned (ctx : Context) (p q : Parties) (t : Turn) : Type 0 where
  pub before : AnyNode
  pub after : AnyNode
  pub was : node_at (world_of p) t.node ≡ Some before
  pub steps : node_step ctx before t.logged.call ≡ Done after t.logged.sent
  pub is : node_at (world_of q) t.node ≡ Some after
  pub others : (other : Node) → (other ≡ t.node → ⊥) → node_at (world_of q) other ≡ node_at (world_of p) other

no_switches : (ctx : Context) (p : Parties) (v : World) (call : Call) → Step ctx (world_of p) v call → v.switches ≡ []
no_switches ctx p v call (At_pharmacy n s next sent is e f) = ap (λ (x : World). x.switches) f
no_switches ctx p v call (At_switch n s next sent is e f) = absurd (no_entries n s is)
no_switches ctx p v call (At_payer n s next sent is e f) = ap (λ (x : World). x.switches) f

same_parties : (v : World) → v.switches ≡ [] → (node : Node) → node_at (world_of (parties_in v)) node ≡ node_at v node
same_parties v none (Pharmacy n) = refl
same_parties v none (Switch n) = ap (λ (ts : List (Power Table ℕ)). option_map OfSwitch (numbered ts n)) (sym none)
same_parties v none (Payer n) = refl

pub turned : (ctx : Context) (p : Parties) (v : World) (t : Turn) → on_node ctx (world_of p) t.node t.logged.call ≡ Done v t.logged.sent → Turned ctx p (parties_in v) t
turned ctx p v t e =
    let f = follows ctx (world_of p) v t.node t.logged.call t.logged.sent e in
    let same = same_parties v (no_switches ctx p v t.logged.call (at_node ctx (world_of p) v t.node t.logged.call t.logged.sent e)) in
    record { before = f.before; after = f.after; was = f.was; steps = f.steps; is = same t.node ∙ f.is; others = λ other d. same other ∙ f.others other d }

-- the replay of a log that begins with the turn
pub own_replay : (ctx : Context) (p q : Parties) (t : Turn) (f : Turned ctx p q t) (l : Logged) (log : List Logged) → t.logged ≡ l
    → option_map (λ (s : AnyNode). replay ctx s (l ∷ log)) (node_at (world_of p) t.node) ≡ option_map (λ (s : AnyNode). replay ctx s log) (node_at (world_of q) t.node)
own_replay ctx p q t f l log first =
    let made : node_after f.before (node_step ctx f.before l.call) ≡ f.after =
    ap (λ (x : Logged). node_after f.before (node_step ctx f.before x.call)) (sym first) ∙ ap (node_after f.before) f.steps in
    ap (option_map (λ (s : AnyNode). replay ctx s (l ∷ log))) f.was
    ∙ (ap (λ (s : AnyNode). Some (replay ctx s log)) made ∙ ap (option_map (λ (s : AnyNode). replay ctx s log)) (sym f.is))

pub other_log : (t : Turn) (rest : List Turn) (node : Node) → same_node t.node node ≡ Bool.false → log_among (t ∷ rest) node ≡ log_among rest node
other_log t rest node other = ap (λ (b : Bool). cond b (t.logged ∷ []) [] ++ log_among rest node) other

-- ---- after some calls each node is the replay of its own

no_calls : (ctx : Context) (o : Option AnyNode) → o ≡ option_map (λ (s : AnyNode). replay ctx s []) o
no_calls ctx None = refl
no_calls ctx (Some s) = refl

pub made_replay : (ctx : Context) (p r : Parties) (made : List Turn) → Leads ctx p made r → (node : Node) → node_at (world_of r) node ≡ option_map (λ (s : AnyNode). replay ctx s (log_among made node)) (node_at (world_of p) node)
made_replay ctx p r [] l node = ap (λ (q : Parties). node_at (world_of q) node) (sym l) ∙ no_calls ctx (node_at (world_of p) node)
made_replay ctx p r (t ∷ made) l node =
    let q : Parties = parties_in l.1.0 in
    let f = turned ctx p l.1.0 t l.1.1 in
    let rest = made_replay ctx q r made l.1.2 in
    elim (told_apart t.node node) [
      | inl same ↦
          subst (λ (n : Node). node_at (world_of r) n ≡ option_map (λ (s : AnyNode). replay ctx s (log_among (t ∷ made) n)) (node_at (world_of p) n)) same.1
          (rest t.node
          ∙ (sym (own_replay ctx p q t f t.logged (log_among made t.node) refl)
          ∙ ap (λ (log : List Logged). option_map (λ (s : AnyNode). replay ctx s log) (node_at (world_of p) t.node)) (sym (own_first t made))))
      | inr other ↦
          rest node
          ∙ (ap (option_map (λ (s : AnyNode). replay ctx s (log_among made node))) (f.others node (λ e. other.1 (sym e)))
          ∙ ap (λ (log : List Logged). option_map (λ (s : AnyNode). replay ctx s log) (node_at (world_of p) node)) (sym (other_log t made node other.0)))
    ]

-- ---- the walk

-- a node on the way: which calls were made beyond the way, and which are left to both
record Here (ctx : Context) (v r : Parties) (rest : List Turn) (left : List Logged) (node : Node) : Type 0 where
  ahead : List Logged
  is : log_among rest node ≡ ahead ++ left
  leads : node_at (world_of r) node ≡ option_map (λ (s : AnyNode). replay ctx s ahead) (node_at (world_of v) node)

module _ (ctx : Context) (r : Parties) (made turns : List Turn) (left : Node → List Logged) (whole : (node : Node) → log_among turns node ≡ log_among made node ++ left node) where
  -- the first turn on the way that was not made yet can be made now
  now : (v q : Parties) (t : Turn) (rest : List Turn) → ((node : Node) → Here ctx v r (t ∷ rest) (left node) node) → IsVouched ctx (world_of v) t.logged.call → Turned ctx v q t → left t.node ≡ log_among (t ∷ rest) t.node
      → node_at (world_of r) t.node ≡ option_map (λ (s : AnyNode). replay ctx s []) (node_at (world_of v) t.node) → CanGo ctx r made turns
  now v q t rest here x f is leads =
      let later = further_later ctx v r (λ node. ((here node).ahead, (here node).leads)) in
      let there : node_at (world_of r) t.node ≡ Some f.before = leads ∙ ap (option_map (λ (s : AnyNode). replay ctx s [])) f.was in
      let a = accepted ctx (world_of r) t.node t.logged.call f.after t.logged.sent (ap (λ (o : Option AnyNode). called ctx o t.logged.call) there ∙ f.steps) in
      record {
        next = t;
        more = log_among rest t.node;
        is = whole t.node ∙ ap (λ (log : List Logged). log_among made t.node ++ log) (is ∙ own_first t rest);
        then = parties_in a.0;
        leads = (vouched_later ctx (world_of v) (world_of r) t.logged.call later x, (a.0, a.1, refl));
      }

  onward : (v q : Parties) (t : Turn) (rest : List Turn) → ((node : Node) → Here ctx v r (t ∷ rest) (left node) node) → IsVouched ctx (world_of v) t.logged.call → Turned ctx v q t
      → (((node : Node) → Here ctx q r rest (left node) node) → CanGo ctx r made turns ⊎ ((node : Node) → left node ≡ []))
      → (ahead : List Logged) → log_among (t ∷ rest) t.node ≡ ahead ++ left t.node → node_at (world_of r) t.node ≡ option_map (λ (s : AnyNode). replay ctx s ahead) (node_at (world_of v) t.node)
      → CanGo ctx r made turns ⊎ ((node : Node) → left node ≡ [])
  onward v q t rest here x f go [] is leads = inl (now v q t rest here x f (sym is) leads)
  onward v q t rest here x f go (l ∷ ahead) is leads =
      let both : t.logged ∷ log_among rest t.node ≡ l ∷ (ahead ++ left t.node) = sym (own_first t rest) ∙ is in
      let first : t.logged ≡ l = same_first t.logged l (log_among rest t.node) (ahead ++ left t.node) both in
      let own : Here ctx q r rest (left t.node) t.node = record {
        ahead = ahead;
        is = same_rest t.logged l (log_among rest t.node) (ahead ++ left t.node) both;
        leads = leads ∙ own_replay ctx v q t f l ahead first;
      } in
      go (λ node. elim (told_apart t.node node) [
        | inl same ↦ subst (λ (y : Node). Here ctx q r rest (left y) y) same.1 own
        | inr other ↦
            let h = here node in
            record {
              ahead = h.ahead;
              is = sym (other_log t rest node other.0) ∙ h.is;
              leads = h.leads ∙ ap (option_map (λ (s : AnyNode). replay ctx s h.ahead)) (sym (f.others node (λ e. other.1 (sym e))));
            }
      ])

  walk : (v q : Parties) (rest : List Turn) → ((node : Node) → Here ctx v r rest (left node) node) → Leads ctx v rest q → CanGo ctx r made turns ⊎ ((node : Node) → left node ≡ [])
  walk v q [] here l = inr (λ node. nothing_left (here node).ahead (left node) (here node).is)
  walk v q (t ∷ rest) here l =
      let n : Parties = parties_in l.1.0 in
      let h = here t.node in
      onward v n t rest here l.0 (turned ctx v l.1.0 t l.1.1) (λ later. walk n q rest later l.1.2) h.ahead h.is h.leads

pub vouched_goes_on : (ctx : Context) (p q r : Parties) (turns made : List Turn) → Leads ctx p turns q → Leads ctx p made r → BeginsAs made turns → GoesOn ctx r made turns
vouched_goes_on ctx p q r turns made l m begins =
    let left : Node → List Logged = λ node. (begins node).0 in
    elim (walk ctx r made turns left (λ node. (begins node).1) p q turns (λ node. record { ahead = log_among made node; is = (begins node).1; leads = made_replay ctx p r made m node }) l) [
      | inl can ↦ inl can
      | inr none ↦ inr (λ node. sym ((begins node).1 ∙ (ap (λ (log : List Logged). log_among made node ++ log) (none node) ∙ append-nil (log_among made node))))
    ]
