-- A call is appended to a stream: on the disk of the one process its node starts, makes it, and syncs it.
use Rattle.std.proofs.Common.{◌≡◌, List, [], ◌∷◌, ◌++◌, Some, refl, sym, ap, ◌∙◌, subst}
use Rattle.std.proofs.lemmas.List.{append-nil}
use Rattle.std.specs.Prelude.{option_map}
use Rattle.claim_model.specs.Context.{Context}
use Rattle.claim_model.specs.Node.{Node, Done}
use Rattle.claim_model.specs.World.{Event}
use Rattle.claim_model.specs.Settings.{WorldSettings, opening}
use Rattle.claim_model.specs.Nodes.{AnyNode, node_step, node_at, Asked, asked}
use Rattle.claim_model.specs.Logs.{Logged, node_after, replay, Makes}
use Rattle.crash_safety.specs.Network.{Process, Network, Move, Calling, Syncing, Restarting, file, replayed, put, after_call, calls, calling, one_synced, restarted, moved, after}
use Rattle.crash_safety.proofs.Replaying.{makes_last}
use Rattle.crash_safety.proofs.Sound.{at_each}

-- the process that was put, and the others

pub put_own : (n : Network) (node : Node) (p : Process) → (put n node p).at node ≡ p
put_own n node p = at_each (λ (x : Node) (q : Process). node ≡ x → q ≡ p) n node p (λ same. refl) (λ other d same. absurd (d same)) node refl

pub put_other : (n : Network) (node other : Node) (p : Process) → (node ≡ other → ⊥) → (put n node p).at other ≡ n.at other
put_other n node other p d = at_each (λ (x : Node) (q : Process). (node ≡ x → ⊥) → q ≡ n.at x) n node p (λ e. absurd (e refl)) (λ x e f. refl) other d

-- a disk with one call more, nothing left to sync, and all else as it was
pub record Appended (n m : Network) (node : Node) (l : Logged) : Type 0 where
  pub own : (m.at node).synced ≡ (n.at node).synced ++ l ∷ []
  pub idle : (m.at node).unsynced ≡ []
  pub others : (other : Node) → (node ≡ other → ⊥) → m.at other ≡ n.at other
  pub wire : m.wire ≡ n.wire

abbrev pub appends_by : Node → Event → List Move
appends_by node event = Restarting node ∷ Calling event ∷ Syncing node ∷ []

-- the process after the call
made : Process → AnyNode → Logged → Process
made p next l = record { memory = Some next; synced = p.synced; unsynced = p.unsynced ++ l ∷ [] }

synced_last : (n m : Network) (node : Node) (next : AnyNode) (l : Logged) → (n.at node).unsynced ≡ [] → (m.at node) ≡ record { memory = Some next; synced = (n.at node).synced; unsynced = (n.at node).unsynced ++ l ∷ [] }
    → ((other : Node) → (node ≡ other → ⊥) → m.at other ≡ n.at other) → m.wire ≡ n.wire → Appended n (put m node (one_synced (m.at node) (m.at node).unsynced)) node l
synced_last n m node next l empty is others wire =
    let p = n.at node in
    let q : Process = record { memory = Some next; synced = p.synced; unsynced = p.unsynced ++ l ∷ [] } in
    let done : one_synced (m.at node) (m.at node).unsynced ≡ record { memory = Some next; synced = p.synced ++ l ∷ []; unsynced = [] } =
    ap (λ (x : Process). one_synced x x.unsynced) is ∙ ap (λ (log : List Logged). one_synced q (log ++ l ∷ [])) empty in
    let at = put_own m node (one_synced (m.at node) (m.at node).unsynced) ∙ done in
    record {
      own = ap (λ (x : Process). x.synced) at;
      idle = ap (λ (x : Process). x.unsynced) at;
      others = λ other d. put_other m node other (one_synced (m.at node) (m.at node).unsynced) d ∙ others other d;
      wire = wire;
    }

pub append_one : (ctx : Context) (s : WorldSettings) (n : Network) (node : Node) (before : AnyNode) (l : Logged) (event : Event) → (n.at node).unsynced ≡ [] → node_at (opening s) node ≡ Some before → Makes ctx before ((n.at node).synced ++ l ∷ [])
    → asked n.wire event ≡ Some (record { node = node; call = l.call }) → Appended n (after ctx s n (appends_by node event)) node l
unfolding moved
append_one ctx s n node before l event empty opens makes asks =
    let p = n.at node in
    let now = replay ctx before p.synced in
    let next = node_after now (node_step ctx now l.call) in
    let a : Asked = record { node = node; call = l.call } in
    let q = restarted ctx s node p in
    let m = put n node q in
    let whole : file p ≡ p.synced = ap (λ (log : List Logged). p.synced ++ log) empty ∙ append-nil p.synced in
    let memory : q.memory ≡ Some now = ap (λ (log : List Logged). replayed ctx s node log) whole ∙ ap (option_map (λ (b : AnyNode). replay ctx b p.synced)) opens in
    let at : m.at node ≡ q = put_own n node q in
    let steps : node_step ctx now l.call ≡ Done next l.sent = makes_last ctx before p.synced l makes in
    let behind : calls ctx (m.at node) l.call (m.at node).memory ≡ record { memory = Some next; synced = p.synced; unsynced = p.unsynced ++ l ∷ [] } =
    ap (λ (x : Process). calls ctx x l.call x.memory) at ∙ (ap (calls ctx q l.call) memory ∙ ap (after_call q l.call) steps) in
    let third = put m node (calls ctx (m.at node) l.call (m.at node).memory) in
    let leads : calling ctx m (asked n.wire event) ≡ third = ap (calling ctx m) asks in
    subst (λ (x : Network). Appended n (put x node (one_synced (x.at node) (x.at node).unsynced)) node l) (sym leads)
    (synced_last n third node next l empty (put_own m node (calls ctx (m.at node) l.call (m.at node).memory) ∙ behind)
    (λ other d. put_other m node other (calls ctx (m.at node) l.call (m.at node).memory) d ∙ put_other n node other q d) refl)
