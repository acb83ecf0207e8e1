-- Equal packets serve alike, and what is enabled stays enabled.
use Rattle.std.proofs.Common.{◌≡◌, ℕ, List, [], ◌∷◌, ◌++◌, Option, Some, None, refl, sym, ap, ◌∙◌, subst, inl, inr, append_assoc}
use Rattle.std.specs.Prelude.{option_map}
use Rattle.std.proofs.lemmas.List.{append-nil}
use Rattle.claim_model.specs.Context.{Context}
use Rattle.claim_model.specs.Numbered.{numbered}
use Rattle.claim_model.specs.Node.{Node, Sent, Done, Refused}
use Rattle.claim_model.specs.World.{World, Packet, Event, Submission, Ticking, Delivery, Stopping, Starting, Revising, Adjudication, packet_from, step, run}
use Rattle.claim_model.proofs.Lists.{numbered_append}
use Rattle.claim_model.specs.Nodes.{AnyNode, node_step, node_at, called, Asked, taking, adjudicating, asked, asked_step}
use Rattle.claim_model.specs.Logs.{Logged, logged_by, log_in}
use Rattle.claim_model.specs.Local.{StaysEnabled}
use Rattle.claim_model.proofs.Names.{told_apart}
use Rattle.claim_model.proofs.Steps.{follows, accepted, step_asked}
use Rattle.claim_model.proofs.Ends.{Unchanged, One_call, ended, log_unchanged, log_own, log_other}
use Rattle.claim_model.proofs.Replaying.{run_unchanged}

-- events that ask for the same call are the same step

pub asks_alike : (ctx : Context) (w : World) (event other : Event) → asked w.packets event ≡ asked w.packets other → step ctx w event ≡ step ctx w other
asks_alike ctx w event other e = step_asked ctx w event ∙ (ap (asked_step ctx w) e ∙ sym (step_asked ctx w other))

pub delivers_alike : (ctx : Context) (w : World) (j k : ℕ) → numbered w.packets j ≡ numbered w.packets k → step ctx w (Delivery j) ≡ step ctx w (Delivery k)
delivers_alike ctx w j k e = asks_alike ctx w (Delivery j) (Delivery k) (ap (option_map taking) e)

pub logs_alike : (ctx : Context) (w : World) (j k : ℕ) (node : Node) → numbered w.packets j ≡ numbered w.packets k
    → logged_by node (asked w.packets (Delivery j)) (step ctx w (Delivery j)) ≡ logged_by node (asked w.packets (Delivery k)) (step ctx w (Delivery k))
logs_alike ctx w j k node e =
    ap (λ (o : Option Asked). logged_by node o (step ctx w (Delivery j))) (ap (option_map taking) e)
    ∙ ap (logged_by node (asked w.packets (Delivery k))) (delivers_alike ctx w j k e)

pub adjudicates_alike : (ctx : Context) (w : World) (j k : ℕ) (advice : List ℕ) → numbered w.packets j ≡ numbered w.packets k → step ctx w (Adjudication j advice) ≡ step ctx w (Adjudication k advice)
adjudicates_alike ctx w j k advice e = asks_alike ctx w (Adjudication j advice) (Adjudication k advice) (ap (option_map (adjudicating advice)) e)

pub adjudications_logged_alike : (ctx : Context) (w : World) (j k : ℕ) (advice : List ℕ) (node : Node) → numbered w.packets j ≡ numbered w.packets k
    → logged_by node (asked w.packets (Adjudication j advice)) (step ctx w (Adjudication j advice)) ≡ logged_by node (asked w.packets (Adjudication k advice)) (step ctx w (Adjudication k advice))
adjudications_logged_alike ctx w j k advice node e =
    ap (λ (o : Option Asked). logged_by node o (step ctx w (Adjudication j advice))) (ap (option_map (adjudicating advice)) e)
    ∙ ap (logged_by node (asked w.packets (Adjudication k advice))) (adjudicates_alike ctx w j k advice e)

-- packets are never used up

pub record Grown (before after : List Packet) : Type 0 where
  pub more : List Packet
  pub is : after ≡ before ++ more

pub packets_grow : (ctx : Context) (w : World) (events : List Event) → Grown w.packets (run ctx w events).packets
packets_grow ctx w [] = record { more = []; is = sym (append-nil w.packets) }
packets_grow ctx w (event ∷ events) =
    elim (ended ctx w event) [
      | Unchanged why q ↦ subst (λ (x : World). Grown w.packets x.packets) (sym (run_unchanged ctx w event events (Refused why) q)) (packets_grow ctx w events)
      | One_call a v sent p q f ↦
          let g = packets_grow ctx v events in
          subst (λ (x : World). Grown w.packets x.packets) (sym (run_unchanged ctx w event events (Done v sent) q))
          (record {
            more = Rattle.std.proofs.Common.map (packet_from a.node) sent ++ g.more;
            is = g.is ∙ (ap (λ (ps : List Packet). ps ++ g.more) f.posts ∙ append_assoc w.packets (Rattle.std.proofs.Common.map (packet_from a.node) sent) g.more);
          })
    ]

-- what an event asked for, it asks for where there are more packets

asks_with : (before more : List Packet) (k : ℕ) (a : Asked) (o : Option Packet) → numbered before k ≡ o → option_map taking o ≡ Some a → asked (before ++ more) (Delivery k) ≡ Some a
asks_with before more k a None is e = absurd cc
asks_with before more k a (Some p) is e = ap (option_map taking) (numbered_append before more k p is) ∙ e

asks_adjudicated : (before more : List Packet) (k : ℕ) (advice : List ℕ) (a : Asked) (o : Option Packet) → numbered before k ≡ o → option_map (adjudicating advice) o ≡ Some a → asked (before ++ more) (Adjudication k advice) ≡ Some a
asks_adjudicated before more k advice a None is e = absurd cc
asks_adjudicated before more k advice a (Some p) is e = ap (option_map (adjudicating advice)) (numbered_append before more k p is) ∙ e

pub asks_still : (before more : List Packet) (event : Event) (a : Asked) → asked before event ≡ Some a → asked (before ++ more) event ≡ Some a
asks_still before more (Submission n text) a e = e
asks_still before more (Ticking n) a e = e
asks_still before more (Delivery k) a e = asks_with before more k a (numbered before k) refl e
asks_still before more (Stopping node) a e = e
asks_still before more (Starting node) a e = e
asks_still before more (Revising n change) a e = e
asks_still before more (Adjudication k advice) a e = asks_adjudicated before more k advice a (numbered before k) refl e

-- a node that makes no call stays as it is

no_more : {A : Type 0} (x : A) (xs : List A) → x ∷ xs ≡ [] → ⊥
no_more x xs e = cc

pub idle_stays : (ctx : Context) (w : World) (events : List Event) (node : Node) → log_in ctx w events node ≡ [] → node_at w node ≡ node_at (run ctx w events) node
idle_stays ctx w [] node idle = refl
idle_stays ctx w (event ∷ events) node idle =
    elim (ended ctx w event) [
      | Unchanged why q ↦
          idle_stays ctx w events node (sym (log_unchanged ctx w event events node why q) ∙ idle) ∙ ap (λ (x : World). node_at x node) (sym (run_unchanged ctx w event events (Refused why) q))
      | One_call a v sent p q f ↦
          (elim (told_apart a.node node) [
            | inl t ↦ absurd (no_more (let l : Logged = record { call = a.call; sent = sent } in l) (log_in ctx v events node) (sym (log_own ctx w v event events node a sent p q t.0) ∙ idle))
            | inr t ↦
                sym (f.others node (λ e. t.1 (sym e)))
                ∙ (idle_stays ctx v events node (sym (log_other ctx w v event events node a sent p q t.0) ∙ idle)
                ∙ ap (λ (x : World). node_at x node) (sym (run_unchanged ctx w event events (Done v sent) q)))
          ])
    ]

-- a call is accepted wherever its node is the same

pub accepts_alike : (ctx : Context) (w v u : World) (event other : Event) (a : Asked) (sent : List Sent) → asked w.packets event ≡ Some a → asked v.packets other ≡ Some a → node_at w a.node ≡ node_at v a.node
    → step ctx w event ≡ Done u sent → (x : World) × (step ctx v other ≡ Done x sent) × (node_at x a.node ≡ node_at u a.node)
accepts_alike ctx w v u event other a sent p r nodes q =
    let f = follows ctx w u a.node a.call sent (sym (ap (asked_step ctx w) p) ∙ (sym (step_asked ctx w event) ∙ q)) in
    let there : node_at v a.node ≡ Some f.before = sym nodes ∙ f.was in
    let taken = accepted ctx v a.node a.call f.after sent (ap (λ (o : Option AnyNode). called ctx o a.call) there ∙ f.steps) in
    let g = follows ctx v taken.0 a.node a.call sent taken.1 in
    let same : g.before ≡ f.before = let e : Some g.before ≡ Some f.before = sym g.was ∙ there in cc in
    let ends : Done g.after sent ≡ Done f.after sent = sym g.steps ∙ (ap (λ (n : AnyNode). node_step ctx n a.call) same ∙ f.steps) in
    let after : g.after ≡ f.after = cc in
    (taken.0, step_asked ctx v other ∙ (ap (asked_step ctx v) r ∙ taken.1), g.is ∙ (ap (λ (n : AnyNode). Some n) after ∙ sym f.is))

pub stays_enabled : (ctx : Context) (w : World) (event : Event) (a : Asked) (events : List Event) → StaysEnabled ctx w event a events
stays_enabled ctx w event a events = λ p idle.
    let grown = packets_grow ctx w events in
    let r : asked (run ctx w events).packets event ≡ Some a = ap (λ (ps : List Packet). asked ps event) grown.is ∙ asks_still w.packets grown.more event a p in
    let nodes = idle_stays ctx w events a.node idle in
    record {
      first = p;
      second = r;
      nodes = nodes;
      accepted = λ u sent q. accepts_alike ctx w (run ctx w events) u event event a sent p r nodes q;
    }
