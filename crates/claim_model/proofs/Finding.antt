-- Interleavings of logs, found call by call.
use Rattle.std.proofs.Common.{◌≡◌, List, [], ◌∷◌, ◌++◌, Option, Some, None, refl, sym, ap, ◌∙◌, subst, ◌⊎◌, inl, inr}
use Rattle.std.specs.Prelude.{option_map, IsSome}
use Rattle.std.specs.List.{AllByRecursion}
use Rattle.std.proofs.lemmas.Bool.{false≢true}
use Rattle.claim_model.specs.Context.{Context}
use Rattle.claim_model.specs.Settings.{WorldSettings, opening}
use Rattle.claim_model.specs.Node.{Node}
use Rattle.claim_model.specs.World.{Event, run}
use Rattle.claim_model.proofs.Lists.{all_at, all_from}
use Rattle.claim_model.specs.Nodes.{AnyNode, node_at, Asked}
use Rattle.claim_model.specs.Logs.{Logged, NodeLog, log_in, replay, Makes, posted_by}
use Rattle.claim_model.specs.Interleavings.{HasLog, OnePerNode, IsInterleaving, Begins, CanGoOn, IsBegun, NextCall, IsLogOf, SameNodes}
use Rattle.claim_model.proofs.Replaying.{replays, absent_stays}
use Rattle.claim_model.proofs.Posting.{are_posted}
use Rattle.claim_model.proofs.Walking.{leads_from, goes_on}

-- a node is not there, or it has its log
log_of : (settings : WorldSettings) (logs : List NodeLog) → OnePerNode settings logs → (node : Node) (o : Option AnyNode) → node_at (opening settings) node ≡ o → (node_at (opening settings) node ≡ None) ⊎ HasLog logs node
log_of settings logs one node None is = inl is
log_of settings logs one node (Some s) is = inr (one.each node (subst IsSome (sym is) refl))

log_at : (ctx : Context) (settings : WorldSettings) (logs : List NodeLog) (events : List Event) → IsInterleaving ctx settings logs events → (node : Node) (h : HasLog logs node) → log_in ctx (opening settings) events node ≡ h.log.calls
log_at ctx settings logs events i node h =
    ap (log_in ctx (opening settings) events) (sym h.names) ∙ all_at (λ log. log_in ctx (opening settings) events log.node ≡ log.calls) logs h.number h.log i.same h.at

-- the logs of a run that is begun along an interleaving are how those of the interleaving begin
begins_by : (ctx : Context) (settings : WorldSettings) (logs : List NodeLog) (events made : List Event) → IsInterleaving ctx settings logs events → IsBegun ctx settings logs made → (node : Node)
    → (node_at (opening settings) node ≡ None) ⊎ HasLog logs node → Begins (log_in ctx (opening settings) made node) (log_in ctx (opening settings) events node)
begins_by ctx settings logs events made i b node (inl none) =
    let o = opening settings in
    record { left = []; is = (absent_stays ctx o events node none).0 ∙ ap (λ (log : List Logged). log ++ []) (sym (absent_stays ctx o made node none).0) }
begins_by ctx settings logs events made i b node (inr h) =
    let o = opening settings in
    let begun = all_at (λ log. Begins (log_in ctx o made log.node) log.calls) logs h.number h.log b.begun h.at in
    record { left = begun.left; is = log_at ctx settings logs events i node h ∙ (begun.is ∙ ap (λ (n : Node). log_in ctx o made n ++ begun.left) h.names) }

nothing_next : (done : List Logged) (next : Logged) (more : List Logged) → [] ≡ done ++ next ∷ more → ⊥
nothing_next [] next more e = cc
nothing_next (d ∷ done) next more e = cc

next_by : (ctx : Context) (settings : WorldSettings) (logs : List NodeLog) (events made : List Event) → IsInterleaving ctx settings logs events → (n : CanGoOn ctx (opening settings) made (log_in ctx (opening settings) events))
    → (node_at (opening settings) n.node ≡ None) ⊎ HasLog logs n.node → NextCall ctx settings logs made
next_by ctx settings logs events made i n (inl none) =
    let o = opening settings in
    absurd (nothing_next (log_in ctx o made n.node) n.next n.more (sym (absent_stays ctx o events n.node none).0 ∙ n.is))
next_by ctx settings logs events made i n (inr h) =
    let o = opening settings in
    record {
      number = h.number;
      log = h.log;
      at = h.at;
      next = n.next;
      more = n.more;
      is = sym (log_at ctx settings logs events i n.node h) ∙ (n.is ∙ ap (λ (x : Node). log_in ctx o made x ++ n.next ∷ n.more) (sym h.names));
      event = n.event;
      asks = n.asks ∙ ap (λ (x : Node). let a : Asked = record { node = x; call = n.next.call } in Some a) (sym h.names);
      after = n.after;
      accepted = n.accepted;
    }

pub found : (ctx : Context) (settings : WorldSettings) (logs : List NodeLog) (events made : List Event) → IsInterleaving ctx settings logs events → IsBegun ctx settings logs made
    → NextCall ctx settings logs made ⊎ IsInterleaving ctx settings logs made
found ctx settings logs events made i b =
    let o = opening settings in
    elim (goes_on ctx o events made (λ node. begins_by ctx settings logs events made i b node (log_of settings logs i.one node (node_at o node) refl))) [
      | inl n ↦ inl (next_by ctx settings logs events made i n (log_of settings logs i.one n.node (node_at o n.node) refl))
      | inr all ↦ inr (record {
        one = i.one;
        accepted = b.accepted;
        same = all_from (λ log. log_in ctx o made log.node ≡ log.calls) logs (λ k log at. all log.node ∙ all_at (λ log. log_in ctx o events log.node ≡ log.calls) logs k log i.same at);
      })
    ]

-- a log of an interleaving

some_node : (o : Option AnyNode) → IsSome o → (s : AnyNode) × (o ≡ Some s)
some_node None is = absurd (false≢true is)
some_node (Some s) is = (s, refl)

is_log : (ctx : Context) (settings : WorldSettings) (events : List Event) (log : NodeLog) → IsSome (node_at (opening settings) log.node) → log_in ctx (opening settings) events log.node ≡ log.calls → IsLogOf ctx settings events log
is_log ctx settings events log known same =
    let o = opening settings in
    let s = some_node (node_at o log.node) known in
    let r = replays ctx o events log.node s.0 s.1 in
    record {
      before = s.0;
      opens = s.1;
      makes = subst (Makes ctx s.0) same r.makes;
      leads = r.leads ∙ ap (λ (calls : List Logged). Some (replay ctx s.0 calls)) same;
      posts = are_posted ctx o events log.node ∙ ap (posted_by log.node) same;
    }

pub are_logs : (ctx : Context) (settings : WorldSettings) (logs : List NodeLog) (events : List Event) → IsInterleaving ctx settings logs events → AllByRecursion (IsLogOf ctx settings events) logs
are_logs ctx settings logs events i =
    all_from (IsLogOf ctx settings events) logs
    (λ k log at. is_log ctx settings events log (all_at (λ log. IsSome (node_at (opening settings) log.node)) logs k log i.one.known at)
    (all_at (λ log. log_in ctx (opening settings) events log.node ≡ log.calls) logs k log i.same at))

-- two interleavings

same_log : (ctx : Context) (settings : WorldSettings) (logs : List NodeLog) (events others : List Event) → IsInterleaving ctx settings logs events → IsInterleaving ctx settings logs others → (node : Node)
    → (node_at (opening settings) node ≡ None) ⊎ HasLog logs node → log_in ctx (opening settings) events node ≡ log_in ctx (opening settings) others node
same_log ctx settings logs events others i j node (inl none) = (absent_stays ctx (opening settings) events node none).0 ∙ sym (absent_stays ctx (opening settings) others node none).0
same_log ctx settings logs events others i j node (inr h) = log_at ctx settings logs events i node h ∙ sym (log_at ctx settings logs others j node h)

pub agree : (ctx : Context) (settings : WorldSettings) (logs : List NodeLog) (events others : List Event) → IsInterleaving ctx settings logs events → IsInterleaving ctx settings logs others
    → SameNodes (run ctx (opening settings) events) (run ctx (opening settings) others)
agree ctx settings logs events others i j =
    let o = opening settings in
    let same = λ (node : Node). same_log ctx settings logs events others i j node (log_of settings logs i.one node (node_at o node) refl) in
    record {
      nodes = λ node. leads_from ctx o events node (node_at o node) refl
          ∙ (ap (λ (log : List Logged). option_map (λ (s : AnyNode). replay ctx s log) (node_at o node)) (same node) ∙ sym (leads_from ctx o others node (node_at o node) refl));
      packets = λ node. are_posted ctx o events node ∙ (ap (λ (log : List Logged). posted_by node log) (same node) ∙ sym (are_posted ctx o others node));
    }
