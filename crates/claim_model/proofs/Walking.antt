-- One enabled call after another: a walk along the events whose logs are given, beside a run that has made some of their calls.
use Rattle.std.proofs.Common.{◌≡◌, ℕ, List, [], ◌∷◌, ◌++◌, map, Option, Some, None, refl, sym, ap, ◌∙◌, subst, ◌⊎◌, inl, inr}
use Rattle.std.specs.Prelude.{option_map, filter}
use Rattle.std.specs.List.{AllByRecursion}
use Rattle.std.proofs.lemmas.List.{append-nil}
use Rattle.claim_model.specs.Context.{Context}
use Rattle.claim_model.specs.Numbered.{numbered}
use Rattle.claim_model.specs.Node.{Node, Sent, Done}
use Rattle.claim_model.specs.World.{World, Packet, Event, Submission, Ticking, Delivery, Stopping, Starting, Revising, Adjudication, packet_from, step, run}
use Rattle.claim_model.proofs.Lists.{all_at, all_from, all_append, all_filter}
use Rattle.claim_model.specs.Nodes.{AnyNode, node_step, node_at, called, Asked, taking, adjudicating, asked, asked_step}
use Rattle.claim_model.specs.Logs.{Logged, log_in, node_after, replay, posted_by, is_from}
use Rattle.claim_model.specs.Local.{Follows}
use Rattle.claim_model.specs.Interleavings.{Begins, GoesOn}
use Rattle.claim_model.proofs.Names.{told_apart, same_self}
use Rattle.claim_model.proofs.Steps.{accepted, step_asked}
use Rattle.claim_model.proofs.Ends.{Unchanged, One_call, ended, log_unchanged, log_own, log_other}
use Rattle.claim_model.proofs.Serving.{packets_grow}
use Rattle.claim_model.proofs.Replaying.{replays, absent_stays}
use Rattle.claim_model.proofs.Posting.{posted_more, are_posted}

-- the packet is one of these
record IsAmong (packets : List Packet) (p : Packet) : Type 0 where
  number : ℕ
  is : numbered packets number ≡ Some p

all_among : (packets : List Packet) → AllByRecursion (IsAmong packets) packets
all_among packets = all_from (IsAmong packets) packets (λ n p e. record { number = n; is = e })

pub all_left : {A : Type 0} (P : A → Type 0) (xs ys : List A) → AllByRecursion P (xs ++ ys) → AllByRecursion P xs
all_left P [] ys a = tt
all_left P (x ∷ xs) ys a = (a.0, all_left P xs ys a.1)

pub all_right : {A : Type 0} (P : A → Type 0) (xs ys : List A) → AllByRecursion P (xs ++ ys) → AllByRecursion P ys
all_right P [] ys a = a
all_right P (x ∷ xs) ys a = all_right P xs ys a.1

-- between a world on the way and the run beside it: which calls of a node the run has made beyond the way, and which are left to both
record Between (ctx : Context) (v m : World) (node : Node) (log left : List Logged) : Type 0 where
  done : List Logged
  is : log ≡ done ++ left
  leads : node_at m node ≡ option_map (λ (s : AnyNode). replay ctx s done) (node_at v node)
  sent : AllByRecursion (IsAmong m.packets) (posted_by node done)

-- the next call of a node can be made in the run
record Next (ctx : Context) (m : World) (left : Node → List Logged) : Type 0 where
  node : Node
  next : Logged
  more : List Logged
  is : left node ≡ next ∷ more
  event : Event
  asks : asked m.packets event ≡ Some (record { node = node; call = next.call })
  after : World
  accepted : step ctx m event ≡ Done after next.sent

-- an event that asks for the same call
record Again (m : World) (a : Asked) : Type 0 where
  event : Event
  asks : asked m.packets event ≡ Some a

delivered_again : (v m : World) (k : ℕ) (a : Asked) (o : Option Packet) → AllByRecursion (IsAmong m.packets) v.packets → numbered v.packets k ≡ o → option_map taking o ≡ Some a → Again m a
delivered_again v m k a None all is e = absurd cc
delivered_again v m k a (Some p) all is e =
    let among = all_at (IsAmong m.packets) v.packets k p all is in
    record { event = Delivery among.number; asks = ap (option_map taking) among.is ∙ e }

adjudicated_again : (v m : World) (k : ℕ) (advice : List ℕ) (a : Asked) (o : Option Packet) → AllByRecursion (IsAmong m.packets) v.packets → numbered v.packets k ≡ o → option_map (adjudicating advice) o ≡ Some a → Again m a
adjudicated_again v m k advice a None all is e = absurd cc
adjudicated_again v m k advice a (Some p) all is e =
    let among = all_at (IsAmong m.packets) v.packets k p all is in
    record { event = Adjudication among.number advice; asks = ap (option_map (adjudicating advice)) among.is ∙ e }

again : (v m : World) (event : Event) (a : Asked) → AllByRecursion (IsAmong m.packets) v.packets → asked v.packets event ≡ Some a → Again m a
again v m (Submission n text) a all e = record { event = Submission n text; asks = e }
again v m (Ticking n) a all e = record { event = Ticking n; asks = e }
again v m (Delivery k) a all e = delivered_again v m k a (numbered v.packets k) all refl e
again v m (Stopping node) a all e = record { event = Stopping node; asks = e }
again v m (Starting node) a all e = record { event = Starting node; asks = e }
again v m (Revising n change) a all e = record { event = Revising n change; asks = e }
again v m (Adjudication k advice) a all e = adjudicated_again v m k advice a (numbered v.packets k) all refl e

-- what two logs share

pub same_first : (l d : Logged) (log rest : List Logged) → l ∷ log ≡ d ∷ rest → l ≡ d
same_first l d log rest e = cc

pub same_rest : (l d : Logged) (log rest : List Logged) → l ∷ log ≡ d ∷ rest → log ≡ rest
same_rest l d log rest e = cc

pub nothing_left : (done left : List Logged) → [] ≡ done ++ left → left ≡ []
nothing_left [] left e = sym e
nothing_left (d ∷ done) left e = absurd cc

-- one call further, at the node that makes it
own_between : (ctx : Context) (v u m : World) (a : Asked) (sent : List Sent) (f : Follows ctx v u a.node a.call sent) (d : Logged) (done left log : List Logged)
    → record { call = a.call; sent = sent } ≡ d → log ≡ done ++ left → node_at m a.node ≡ option_map (λ (s : AnyNode). replay ctx s (d ∷ done)) (node_at v a.node)
    → AllByRecursion (IsAmong m.packets) (posted_by a.node (d ∷ done)) → Between ctx u m a.node log left
own_between ctx v u m a sent f d done left log first rest leads posts =
    let called_so : node_after f.before (node_step ctx f.before d.call) ≡ f.after =
    ap (λ (l : Logged). node_after f.before (node_step ctx f.before l.call)) (sym first) ∙ ap (node_after f.before) f.steps in
    record {
      done = done;
      is = rest;
      leads = leads ∙ (ap (option_map (λ (s : AnyNode). replay ctx s (d ∷ done))) f.was
          ∙ (ap (λ (s : AnyNode). Some (replay ctx s done)) called_so
          ∙ ap (option_map (λ (s : AnyNode). replay ctx s done)) (sym f.is)));
      sent = all_right (IsAmong m.packets) (map (packet_from a.node) d.sent) (posted_by a.node done) (subst (AllByRecursion (IsAmong m.packets)) (posted_more a.node d done) posts);
    }

-- and at every other node
other_between : (ctx : Context) (v u m : World) (node : Node) (log more left : List Logged) → log ≡ more → node_at u node ≡ node_at v node → Between ctx v m node log left → Between ctx u m node more left
other_between ctx v u m node log more left same at b = record {
  done = b.done;
  is = sym same ∙ b.is;
  leads = b.leads ∙ ap (option_map (λ (s : AnyNode). replay ctx s b.done)) (sym at);
  sent = b.sent;
}

-- the walk

module _ (ctx : Context) (m : World) (left : Node → List Logged) where
  here : (v u : World) (event : Event) (a : Asked) (sent : List Sent) → asked v.packets event ≡ Some a → Follows ctx v u a.node a.call sent → AllByRecursion (IsAmong m.packets) v.packets
      → node_at m a.node ≡ option_map (λ (s : AnyNode). replay ctx s []) (node_at v a.node) → (log : List Logged) → left a.node ≡ record { call = a.call; sent = sent } ∷ log → Next ctx m left
  here v u event a sent p f all leads log is =
      let e = again v m event a all p in
      let there : node_at m a.node ≡ Some f.before = leads ∙ ap (option_map (λ (s : AnyNode). replay ctx s [])) f.was in
      let taken = accepted ctx m a.node a.call f.after sent (ap (λ (o : Option AnyNode). called ctx o a.call) there ∙ f.steps) in
      record {
        node = a.node;
        next = record { call = a.call; sent = sent };
        more = log;
        is = is;
        event = e.event;
        asks = e.asks;
        after = taken.0;
        accepted = step_asked ctx m e.event ∙ (ap (asked_step ctx m) e.asks ∙ taken.1);
      }

  -- one call further on the way: the run has made it, or it can make it now
  onward : (v u : World) (event : Event) (events : List Event) (a : Asked) (sent : List Sent) → asked v.packets event ≡ Some a → step ctx v event ≡ Done u sent → Follows ctx v u a.node a.call sent
      → ((node : Node) → Between ctx v m node (log_in ctx v (event ∷ events) node) (left node)) → AllByRecursion (IsAmong m.packets) v.packets
      → (((node : Node) → Between ctx u m node (log_in ctx u events node) (left node)) → AllByRecursion (IsAmong m.packets) u.packets → Next ctx m left ⊎ ((node : Node) → left node ≡ []))
      → (done : List Logged) → record { call = a.call; sent = sent } ∷ log_in ctx u events a.node ≡ done ++ left a.node
      → node_at m a.node ≡ option_map (λ (s : AnyNode). replay ctx s done) (node_at v a.node) → AllByRecursion (IsAmong m.packets) (posted_by a.node done)
      → Next ctx m left ⊎ ((node : Node) → left node ≡ [])
  onward v u event events a sent p q f between all go [] is leads posts = inl (here v u event a sent p f all leads (log_in ctx u events a.node) (sym is))
  onward v u event events a sent p q f between all go (d ∷ done) is leads posts =
      let l : Logged = record { call = a.call; sent = sent } in
      let first : l ≡ d = same_first l d (log_in ctx u events a.node) (done ++ left a.node) is in
      let rest : log_in ctx u events a.node ≡ done ++ left a.node = same_rest l d (log_in ctx u events a.node) (done ++ left a.node) is in
      let own = own_between ctx v u m a sent f d done (left a.node) (log_in ctx u events a.node) first rest leads posts in
      let new : AllByRecursion (IsAmong m.packets) (map (packet_from a.node) sent) =
      subst (λ (x : Logged). AllByRecursion (IsAmong m.packets) (map (packet_from a.node) x.sent)) (sym first)
      (all_left (IsAmong m.packets) (map (packet_from a.node) d.sent) (posted_by a.node done) (subst (AllByRecursion (IsAmong m.packets)) (posted_more a.node d done) posts)) in
      go
      (λ node. elim (told_apart a.node node) [
        | inl t ↦ subst (λ (n : Node). Between ctx u m n (log_in ctx u events n) (left n)) t.1 own
        | inr t ↦ other_between ctx v u m node (log_in ctx v (event ∷ events) node) (log_in ctx u events node) (left node) (log_other ctx v u event events node a sent p q t.0) (f.others node (λ e. t.1 (sym e))) (between node)
      ])
      (subst (AllByRecursion (IsAmong m.packets)) (sym f.posts) (all_append (IsAmong m.packets) v.packets (map (packet_from a.node) sent) all new))

  walk : (v : World) (events : List Event) → ((node : Node) → Between ctx v m node (log_in ctx v events node) (left node)) → AllByRecursion (IsAmong m.packets) v.packets → Next ctx m left ⊎ ((node : Node) → left node ≡ [])
  walk v [] between all = inr (λ node. nothing_left (between node).done (left node) (between node).is)
  walk v (event ∷ events) between all =
      elim (ended ctx v event) [
        | Unchanged why q ↦ walk v events (λ node. other_between ctx v v m node (log_in ctx v (event ∷ events) node) (log_in ctx v events node) (left node) (log_unchanged ctx v event events node why q) refl (between node)) all
        | One_call a u sent p q f ↦
            let b = between a.node in
            onward v u event events a sent p q f between all (walk u events) b.done (sym (log_own ctx v u event events a.node a sent p q (same_self a.node)) ∙ b.is) b.leads b.sent
      ]

-- the walk from the beginning

pub leads_from : (ctx : Context) (w : World) (made : List Event) (node : Node) (o : Option AnyNode) → node_at w node ≡ o → node_at (run ctx w made) node ≡ option_map (λ (s : AnyNode). replay ctx s (log_in ctx w made node)) o
leads_from ctx w made node None is = (absent_stays ctx w made node is).1
leads_from ctx w made node (Some s) is = (replays ctx w made node s is).leads

-- a run has sent what its logs sent
sent_by_run : (ctx : Context) (w : World) (made : List Event) (node : Node) → AllByRecursion (IsAmong (run ctx w made).packets) (posted_by node (log_in ctx w made node))
sent_by_run ctx w made node =
    let packets = (run ctx w made).packets in
    all_right (IsAmong packets) (filter (is_from node) w.packets) (posted_by node (log_in ctx w made node))
    (subst (AllByRecursion (IsAmong packets)) (are_posted ctx w made node) (all_filter (IsAmong packets) (is_from node) packets (all_among packets)))

there_before : (ctx : Context) (w : World) (made : List Event) → AllByRecursion (IsAmong (run ctx w made).packets) w.packets
there_before ctx w made =
    let packets = (run ctx w made).packets in
    let g = packets_grow ctx w made in
    all_left (IsAmong packets) w.packets g.more (subst (AllByRecursion (IsAmong packets)) g.is (all_among packets))

pub goes_on : (ctx : Context) (w : World) (events made : List Event) → ((node : Node) → Begins (log_in ctx w made node) (log_in ctx w events node)) → GoesOn ctx w events made
goes_on ctx w events made begins =
    let m = run ctx w made in
    elim (walk ctx m (λ node. (begins node).left) w events
    (λ node. record { done = log_in ctx w made node; is = (begins node).is; leads = leads_from ctx w made node (node_at w node) refl; sent = sent_by_run ctx w made node })
    (there_before ctx w made)) [
      | inl n ↦ inl (record {
        node = n.node;
        next = n.next;
        more = n.more;
        is = (begins n.node).is ∙ ap (λ (log : List Logged). log_in ctx w made n.node ++ log) n.is;
        event = n.event;
        asks = n.asks;
        after = n.after;
        accepted = n.accepted;
      })
      | inr none ↦ inr (λ node. sym ((begins node).is ∙ (ap (λ (log : List Logged). log_in ctx w made node ++ log) (none node) ∙ append-nil (log_in ctx w made node))))
    ]
