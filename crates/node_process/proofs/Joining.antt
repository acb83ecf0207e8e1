-- What happens to all nodes over bytes is a network of the model.
use Rattle.std.proofs.Common.{◌≡◌, inl, inr, ℕ, Bool, true, false, List, [], ◌∷◌, ◌++◌, Option, Some, None, refl, sym, ap, ◌∙◌, subst, append_assoc, append-nil}
use Rattle.std.specs.List.{AllByRecursion}
use Rattle.claim_model.specs.Context.{Context}
use Rattle.claim_model.specs.Laws.{Laws}
use Rattle.claim_model.specs.Node.{Node, Call, Submit, Tick, Take, Stop, Start, Revise, Adjudicate, Outcome, Done, Refused}
use Rattle.claim_model.specs.World.{World, Packet}
use Rattle.claim_model.specs.Settings.{WorldSettings, Accepts, opening}
use Rattle.claim_model.specs.Nodes.{AnyNode, node_step, node_at, same_node}
use Rattle.claim_model.specs.Logs.{Logged, posted_by}
use Rattle.claim_model.proofs.Names.{told_apart, same_self}
use Rattle.crash_safety.specs.Network.{Process, Network, Move, replayed, calls, after_call, one_synced, beginning, after, network}
use Rattle.crash_safety.specs.Network.{file as model_file}
use Rattle.crash_safety.specs.Runs.{IsAmong, on_disks, in_files}
use Rattle.crash_safety.specs.Kept.{AreNodes}
use Rattle.crash_safety.specs.Steps.{Step, Makes, Syncs, Crashes, Restarts, replayed_from, step, steps_from, in_front}
use Rattle.crash_safety.proofs.Courses.{after_append}
use Rattle.crash_safety.proofs.Closing.{replays_on, steps_in_front}
use Rattle.crash_safety.proofs.Stepping.{are_moves}
use Rattle.crash_safety.proofs.Worlds.{world_on_disks, world_in_files}
use Rattle.crash_safety.proofs.Promises.{one_standing_kept, counted_kept, one_answer_at_once}
use Rattle.world_setup.specs.Seen.{settings_seen}
use Rattle.world_setup.specs.declared.settings.WorldSettings.{WorldSettings as Settings}
use Rattle.node_logged.specs.Setting.{context_of}
use Rattle.kept_logs.specs.Fits.{FitsNode}
use Rattle.kept_logs.specs.Rests.{begins}
use Rattle.node_service.specs.Opened.{Spells}
use Rattle.node_process.specs.Acts.{Act}
use Rattle.node_process.specs.Histories.{Happening, acts_of, on_disk, digest_of, CanBegin, IsHistory, HasCalls, IsAlive, AreAskedIn, lines_at, lines_of}
use Rattle.node_process.specs.Joined.{Turn, own, Owners, IsOfPacket, TakesWhatWasSent, IsNetwork, BeginsAtRest, AreNodesOf, disks_of, files_of, Keeps, KeepPromises}
use Rattle.node_process.proofs.Between.{IsInner, digest_length}
use Rattle.node_process.proofs.Running.{next_step}
use Rattle.node_process.proofs.Bases.{base}
use Rattle.node_process.proofs.Histories.{earlier, asked_in_all}
use Rattle.node_process.proofs.OwnSteps.{kind_opens, AreKind, kind_replayed, none_kind, same_kind, is_own, kept_if, own_steps, own_lead}
use Rattle.node_process.proofs.Packets.{sent_still, CanAsk, CanAskAll, says}
use Rattle.node_process.proofs.Among.{one_reading, has_reads, Stands, Lies, lies_at, sent_now, own_turn, other_turn, Tied, tied_append, tied, can_be_asked, Idle, Live}

-- ---- steps take no synced call away

record Grown (old new : List Logged) : Type 0 where
  more : List Logged
  is : new ≡ old ++ more

same_grown : (old new : List Logged) → new ≡ old → Grown old new
same_grown old new e = record { more = []; is = e ∙ sym (append-nil old) }

called_synced : (ctx : Context) (p : Process) (call : Call) (m : Option AnyNode) → (calls ctx p call m).synced ≡ p.synced
called_synced ctx p call None = refl
called_synced ctx p call (Some m) = by_outcome (node_step ctx m call)
  where
    by_outcome : (o : Outcome AnyNode) → (after_call p call o).synced ≡ p.synced
    by_outcome (Done next sent) = refl
    by_outcome (Refused why) = refl

synced_grows : (p : Process) (log : List Logged) → Grown p.synced (one_synced p log).synced
synced_grows p [] = same_grown p.synced p.synced refl
synced_grows p (l ∷ more) = record { more = l ∷ []; is = refl }

step_grows : (ctx : Context) (first : Option AnyNode) (p : Process) (one : Step) → Grown p.synced (step ctx first p one).synced
step_grows ctx first p (Makes call) = same_grown p.synced (calls ctx p call p.memory).synced (called_synced ctx p call p.memory)
step_grows ctx first p Syncs = synced_grows p p.unsynced
step_grows ctx first p (Crashes left) = same_grown p.synced p.synced refl
step_grows ctx first p Restarts = same_grown p.synced p.synced refl

steps_grow : (ctx : Context) (first : Option AnyNode) (p : Process) (steps : List Step) → Grown p.synced (steps_from ctx first p steps).synced
steps_grow ctx first p [] = same_grown p.synced p.synced refl
steps_grow ctx first p (one ∷ steps) =
    let a = step_grows ctx first p one in
    let b = steps_grow ctx first (step ctx first p one) steps in
    record { more = a.more ++ b.more; is = b.is ∙ (ap (λ (log : List Logged). log ++ b.more) a.is ∙ append_assoc p.synced a.more b.more) }

-- ---- the network

record Joined (settings : Settings) (owners : Owners) (rest : BeginsAtRest settings owners) (all : List Turn) : Type 0 where
  moves : List Move
  at : (node : Node) → Stands settings owners rest all (network (context_of settings) (settings_seen settings) moves) node
  keeps : (later earlier : List Turn) → all ≡ later ++ earlier → (from : Node) (calls : List Logged) (p : Packet)
      → HasCalls (digest_of (owners.whose from) (owners.begun from)) (owners.whose from).node (on_disk (owners.begun from) (own from earlier)) calls → IsAmong (posted_by from calls) p
      → IsAmong (posted_by from ((network (context_of settings) (settings_seen settings) moves).at from).synced) p

abbrev Kept : Network → Owners → List Turn → Type 0
Kept n owners all =
    (later earlier : List Turn) → all ≡ later ++ earlier → (from : Node) (calls : List Logged) (p : Packet)
    → HasCalls (digest_of (owners.whose from) (owners.begun from)) (owners.whose from).node (on_disk (owners.begun from) (own from earlier)) calls → IsAmong (posted_by from calls) p
    → IsAmong (posted_by from (n.at from).synced) p

can_ask : (n : Network) (owners : Owners) (all : List Turn) (node : Node) (call : Call) → Kept n owners all → is_own node call ≡ true → IsOfPacket owners all node call → CanAsk n node call
can_ask n owners all node (Take from bytes) keeps own w = keeps w.later w.earlier w.is from w.calls (record { from = from; to = node; bytes = bytes }) w.has w.sent
can_ask n owners all node (Submit text) keeps own w = own
can_ask n owners all node Tick keeps own w = own
can_ask n owners all node Stop keeps own w = tt
can_ask n owners all node Start keeps own w = tt
can_ask n owners all node (Revise change) keeps own w = own
can_ask n owners all node (Adjudicate from bytes advice) keeps own w = keeps w.later w.earlier w.is from w.calls (record { from = from; to = node; bytes = bytes }) w.has w.sent

can_ask_all : (n : Network) (owners : Owners) (all : List Turn) (node : Node) (lines : List (List ℕ)) (steps : List Step) → Kept n owners all → Tied owners all node lines → AreAskedIn lines steps → CanAskAll n node (own_steps node steps)
can_ask_all n owners all node lines [] keeps ties a = tt
can_ask_all n owners all node lines (Makes call ∷ more) keeps ties a = by_kind (can_ask_all n owners all node lines more keeps ties a.1) (is_own node call) refl
  where
    by_kind : CanAskAll n node (own_steps node more) → (own : Bool) → is_own node call ≡ own → CanAskAll n node (kept_if own (Makes call) (own_steps node more))
    by_kind rest true e = (can_ask n owners all node call keeps e (can_be_asked owners all node lines call ties a.0), rest)
    by_kind rest false e = rest
can_ask_all n owners all node lines (Syncs ∷ more) keeps ties a = can_ask_all n owners all node lines more keeps ties a
can_ask_all n owners all node lines (Crashes left ∷ more) keeps ties a = can_ask_all n owners all node lines more keeps ties a
can_ask_all n owners all node lines (Restarts ∷ more) keeps ties a = can_ask_all n owners all node lines more keeps ties a

-- what lives in a process is what its log makes of the node that it begins with
alive_kind : (ctx : Context) (node : Node) (first : Option AnyNode) (acts : List Act) (p : Process) → AreKind node first → IsAlive ctx first acts p → AreKind node p.memory
alive_kind ctx node first [] p f a = same_kind node p.memory None a (none_kind node)
alive_kind ctx node first (act ∷ []) p f a = same_kind node p.memory None a (none_kind node)
alive_kind ctx node first (act ∷ one ∷ acts) p f a = same_kind node p.memory (replayed_from ctx first (model_file p)) a (kind_replayed ctx node first (model_file p) f)

same_tail : (t u : Turn) (a b : List Turn) → t ∷ a ≡ u ∷ b → a ≡ b
same_tail t u a b e = cc

module _ (settings : Settings) (owners : Owners) (rest : BeginsAtRest settings owners) (spells : (node : Node) → Spells (owners.whose node).settings settings) (can : (node : Node) → CanBegin (owners.whose node) (owners.begun node)) where
  abbrev ctx : Context
  ctx = context_of settings

  abbrev s : WorldSettings
  s = settings_seen settings

  abbrev begin_of : Node → Option AnyNode
  begin_of node = begins settings (owners.whose node).node (owners.whose node).rest

  first : Joined settings owners rest []
  first = record { moves = rest.moves; at = λ node. Idle refl refl; keeps = λ later earlier e from calls p has a. at_rest later earlier e from calls p has a }
    where
      n : Network
      n = network ctx s rest.moves

      none_before : (later earlier : List Turn) → ◌≡◌ {A = List Turn} [] (later ++ earlier) → earlier ≡ []
      none_before [] earlier e = sym e
      none_before (t ∷ later) earlier e = absurd cc

      at_rest : Kept (network ctx s rest.moves) owners []
      at_rest later earlier e from calls p has a =
          sent_now settings owners rest [] (network ctx s rest.moves) from calls p (can from) (Idle refl refl)
          (subst (λ (x : List Turn). HasCalls (digest_of (owners.whose from) (owners.begun from)) (owners.whose from).node (on_disk (owners.begun from) (own from x)) calls) (none_before later earlier e) has) a

  -- a process that stands there, with its own log
  record Here (all : List Turn) (n : Network) (node : Node) : Type 0 where
    p : Process
    at : n.at node ≡ in_front (rest.closed node) p
    inner : IsInner (owners.whose node) (owners.begun node) (own node all) p
    alive : IsAlive ctx (begin_of node) (acts_of (own node all)) p

  here : (all : List Turn) (n : Network) (node : Node) → FitsNode (owners.whose node).node → Stands settings owners rest all n node → Here all n node
  here all n node fits (Live p at i alive) = record { p = p; at = at; inner = i; alive = alive }
  here all n node fits (Idle none at) =
      let whose = owners.whose node in
      let begun = owners.begun node in
      let b = base whose begun settings (spells node) fits (can node) in
      let p : Process = record { memory = None; synced = b.calls; unsynced = [] } in
      record {
        p = p;
        at = at ∙ rest.at node b.calls b.has;
        inner = subst (λ (h : List Happening). IsInner whose begun h p) (sym none) b.inner;
        alive = subst (λ (h : List Happening). IsAlive ctx (begin_of node) (acts_of h) p) (sym none) refl;
      }

  one_more : (t : Turn) (all : List Turn) → Joined settings owners rest all → FitsNode (owners.whose t.node).node → IsHistory (owners.whose t.node) (owners.begun t.node) (own t.node (t ∷ all)) → TakesWhatWasSent owners (t ∷ all) → Joined settings owners rest (t ∷ all)
  one_more t all j fits history asks =
      let node = t.node in
      let whose = owners.whose node in
      let begun = owners.begun node in
      let n = network ctx s j.moves in
      let h = own node all in
      let mine = own_turn t all node (same_self node) in
      let now = here all n node fits (j.at node) in
      let is : IsHistory whose begun (t.happens ∷ h) = subst (IsHistory whose begun) mine history in
      let g = next_step whose begun settings (spells node) fits h now.p now.inner now.alive t.happens is in
      let ties = tied_append owners all node (lines_of h) (lines_at (t.happens ∷ h)) (tied owners all node asks.1) asks.0 in
      let wanted = can_ask_all n owners all node (lines_of (t.happens ∷ h)) g.steps j.keeps ties (asked_in_all (t.happens ∷ h) g.steps g.asked) in
      let steps = own_steps node g.steps in
      let said = says ctx s n node steps wanted in
      let m = after ctx s n said.moves in
      let made = are_moves ctx s m node steps said.can in
      let last = after ctx s m made.moves in
      let moves = j.moves ++ (said.moves ++ made.moves) in
      let leads : network ctx s moves ≡ last = after_append ctx s beginning j.moves (said.moves ++ made.moves) ∙ after_append ctx s n said.moves made.moves in
      let q = steps_from ctx (begin_of node) now.p g.steps in
      let first_kind : AreKind node (begin_of node) = same_kind node (begin_of node) (replayed_from ctx (node_at (opening s) node) (rest.closed node)) (rest.rests node) (kind_replayed ctx node (node_at (opening s) node) (rest.closed node) (kind_opens (opening s) node)) in
      let same_steps = own_lead ctx node (begin_of node) now.p g.steps first_kind (alive_kind ctx node (begin_of node) (acts_of h) now.p first_kind now.alive) in
      let own_at : last.at node ≡ in_front (rest.closed node) q =
      made.own
      ∙ (ap (λ (x : Process). steps_from ctx (node_at (opening s) node) x steps) (said.same node ∙ now.at)
      ∙ (steps_in_front ctx (node_at (opening s) node) (rest.closed node) now.p steps
      ∙ (ap (λ (x : Option AnyNode). in_front (rest.closed node) (steps_from ctx x now.p steps)) (sym (rest.rests node)) ∙ ap (in_front (rest.closed node)) same_steps))) in
      let others : (other : Node) → same_node node other ≡ false → last.at other ≡ n.at other = λ other d. made.others other d ∙ said.same other in
      let live : Stands settings owners rest (t ∷ all) last node =
      Live q own_at (subst (λ (x : List Happening). IsInner whose begun x q) (sym mine) g.inner) (subst (λ (x : List Happening). IsAlive ctx (begin_of node) (acts_of x) q) (sym mine) g.alive) in
      let at : (x : Node) → Stands settings owners rest (t ∷ all) last x =
      λ x. elim (told_apart node x) [
        | inl e ↦ subst (Stands settings owners rest (t ∷ all) last) e.1 live
        | inr e ↦ stays t all n last x (other_turn t all x e.0) (others x e.0) (j.at x)
      ] in
      let grows : (x : Node) → Grown (n.at x).synced (last.at x).synced =
      λ x. elim (told_apart node x) [
        | inl e ↦ subst (λ (y : Node). Grown (n.at y).synced (last.at y).synced) e.1 (grown_here ctx (node_at (opening s) node) (n.at node) (m.at node) (last.at node) steps (said.same node) made.own)
        | inr e ↦ same_grown (n.at x).synced (last.at x).synced (ap (λ (p : Process). p.synced) (others x e.0))
      ] in
      let keeps : Kept last owners (t ∷ all) = kept_on t all n last at grows j.keeps in
      record {
        moves = moves;
        at = subst (λ (x : Network). (y : Node) → Stands settings owners rest (t ∷ all) x y) (sym leads) at;
        keeps = subst (λ (x : Network). Kept x owners (t ∷ all)) (sym leads) keeps;
      }
    where
      stays : (t : Turn) (all : List Turn) (n last : Network) (x : Node) → own x (t ∷ all) ≡ own x all → last.at x ≡ n.at x → Stands settings owners rest all n x → Stands settings owners rest (t ∷ all) last x
      stays t all n last x same there (Idle none at) = Idle (same ∙ none) (there ∙ at)
      stays t all n last x same there (Live p at i alive) =
          Live p (there ∙ at) (subst (λ (h : List Happening). IsInner (owners.whose x) (owners.begun x) h p) (sym same) i) (subst (λ (h : List Happening). IsAlive ctx (begin_of x) (acts_of h) p) (sym same) alive)

      grown_here : (ctx : Context) (b : Option AnyNode) (p m last : Process) (steps : List Step) → m ≡ p → last ≡ steps_from ctx b m steps → Grown p.synced last.synced
      grown_here ctx b p m last steps same is =
          subst (λ (x : Process). Grown p.synced x.synced) (sym (is ∙ ap (λ (x : Process). steps_from ctx b x steps) same)) (steps_grow ctx b p steps)

      kept_on : (t : Turn) (all : List Turn) (n last : Network) → ((x : Node) → Stands settings owners rest (t ∷ all) last x) → ((x : Node) → Grown (n.at x).synced (last.at x).synced) → Kept n owners all → Kept last owners (t ∷ all)
      kept_on t all n last at grows keeps [] earlier e from calls p has a =
          sent_now settings owners rest (t ∷ all) last from calls p (can from) (at from)
          (subst (λ (x : List Turn). HasCalls (digest_of (owners.whose from) (owners.begun from)) (owners.whose from).node (on_disk (owners.begun from) (own from x)) calls) (sym e) has) a
      kept_on t all n last at grows keeps (u ∷ later) earlier e from calls p has a =
          let g = grows from in
          subst (λ (log : List Logged). IsAmong (posted_by from log) p) (sym g.is)
          (sent_still from (n.at from).synced g.more p (keeps later earlier (same_tail t u all (later ++ earlier) e) from calls p has a))

  joined : (all : List Turn) → AllByRecursion (λ (t : Turn). FitsNode (owners.whose t.node).node) all → ((node : Node) → IsHistory (owners.whose node) (owners.begun node) (own node all)) → TakesWhatWasSent owners all → Joined settings owners rest all
  joined [] known each asks = first
  joined (t ∷ all) known each asks = one_more t all (joined all known.1 before asks.1) known.0 (each t.node) asks
    where
      before : (node : Node) → IsHistory (owners.whose node) (owners.begun node) (own node all)
      before node = elim (told_apart t.node node) [
        | inl e ↦ earlier_is t.happens node (subst (IsHistory (owners.whose node) (owners.begun node)) (own_turn t all node e.0) (each node))
        | inr e ↦ subst (IsHistory (owners.whose node) (owners.begun node)) (other_turn t all node e.0) (each node)
      ]
        where
          earlier_is : (one : Happening) (node : Node) → IsHistory (owners.whose node) (owners.begun node) (one ∷ own node all) → IsHistory (owners.whose node) (owners.begun node) (own node all)
          earlier_is one node is = earlier (owners.whose node) (owners.begun node) one (own node all) is

  -- ---- the worlds of its bytes

  module _ (laws : Laws ctx) (accepts : Accepts ctx s) (all : List Turn) (j : Joined settings owners rest all) where
    abbrev n : Network
    n = network ctx s j.moves

    l : (node : Node) → Lies owners (rest.closed node) all n node
    l node = lies_at settings owners rest all n node (can node) (j.at node)

    -- closed logs and this one make what this one makes of the node that it begins with
    made_of : (node : Node) (log whole : List Logged) → whole ≡ rest.closed node ++ log → replayed ctx s node whole ≡ replayed_from ctx (begin_of node) log
    made_of node log whole is =
        ap (replayed ctx s node) is ∙ (replays_on ctx (node_at (opening s) node) (rest.closed node) log ∙ ap (λ (x : Option AnyNode). replayed_from ctx x log) (sym (rest.rests node)))

    disk_nodes : (w : World) → AreNodesOf settings owners (disks_of owners all) w → AreNodes ctx s (on_disks n) w
    disk_nodes w are node = are node (l node).synced (l node).disk ∙ sym (made_of node (l node).synced (n.at node).synced (l node).synced_is)

    file_nodes : (w : World) → AreNodesOf settings owners (files_of owners all) w → AreNodes ctx s (in_files n) w
    file_nodes w are node = are node (l node).whole (l node).lies ∙ sym (made_of node (l node).whole (model_file (n.at node)) (l node).whole_is)

    kept_disks : Keeps settings owners (disks_of owners all)
    kept_disks =
        let there = world_on_disks ctx s j.moves in
        record {
          world = there.0;
          is = λ node calls reads.
              let same = one_reading (digest_of (owners.whose node) (owners.begun node)) (owners.whose node).node (disks_of owners all node) calls (l node).synced reads (l node).disk in
              there.1 node ∙ (made_of node (l node).synced (n.at node).synced (l node).synced_is ∙ ap (replayed_from ctx (begin_of node)) (sym same));
          answer = λ w are. one_answer_at_once ctx s j.moves w laws accepts (inl (disk_nodes w are));
          paid = λ w are. one_standing_kept ctx s j.moves w laws accepts (inl (disk_nodes w are));
          counted = λ w are. counted_kept ctx s j.moves w laws accepts (inl (disk_nodes w are));
        }

    kept_files : Keeps settings owners (files_of owners all)
    kept_files =
        let there = world_in_files ctx s j.moves in
        record {
          world = there.0;
          is = λ node calls reads.
              let same = one_reading (digest_of (owners.whose node) (owners.begun node)) (owners.whose node).node (files_of owners all node) calls (l node).whole reads (l node).lies in
              there.1 node ∙ (made_of node (l node).whole (model_file (n.at node)) (l node).whole_is ∙ ap (replayed_from ctx (begin_of node)) (sym same));
          answer = λ w are. one_answer_at_once ctx s j.moves w laws accepts (inr (file_nodes w are));
          paid = λ w are. one_standing_kept ctx s j.moves w laws accepts (inr (file_nodes w are));
          counted = λ w are. counted_kept ctx s j.moves w laws accepts (inr (file_nodes w are));
        }

pub keep_promises : (text : List ℕ) (settings : Settings) (owners : Owners) (all : List Turn) → Spells text settings → Laws (context_of settings) → Accepts (context_of settings) (settings_seen settings) → IsNetwork text owners all → BeginsAtRest settings owners → KeepPromises settings owners all
keep_promises text settings owners all spells laws accepts is rest =
    let spelled : (node : Node) → Spells (owners.whose node).settings settings = λ node. subst (λ (x : List ℕ). Spells x settings) (sym (is.settings node)) spells in
    let j = joined settings owners rest spelled is.can all (known all is.known) is.each is.packets in
    record { disks = kept_disks settings owners rest spelled is.can laws accepts all j; files = kept_files settings owners rest spelled is.can laws accepts all j }
  where
    known : (all : List Turn) → AllByRecursion (λ (t : Turn). FitsNode t.node) all → AllByRecursion (λ (t : Turn). FitsNode (owners.whose t.node).node) all
    known [] k = tt
    known (t ∷ all) k = (subst FitsNode (sym (is.named t.node)) k.0, known all k.1)

-- empty files are those of the empty network
pub empty_rest : (settings : Settings) (owners : Owners) → ((node : Node) → (owners.whose node).node ≡ node) → ((node : Node) → (owners.whose node).rest ≡ None) → ((node : Node) → owners.begun node ≡ []) → BeginsAtRest settings owners
empty_rest settings owners named no_rest empty =
    record {
      moves = [];
      closed = λ node. [];
      rests = λ node.
          ap (begins settings (owners.whose node).node) (no_rest node)
          ∙ (ap (λ (x : Node). node_at (opening (settings_seen settings)) x) (named node) ∙ sym (nothing_made (context_of settings) (node_at (opening (settings_seen settings)) node)));
      at = λ node calls has. ap (λ (log : List Logged). let p : Process = record { memory = None; synced = log; unsynced = [] } in p) (sym (no_calls node calls has));
    }
  where
    nothing_made : (ctx : Context) (o : Option AnyNode) → replayed_from ctx o [] ≡ o
    nothing_made ctx None = refl
    nothing_made ctx (Some x) = refl

    no_calls : (node : Node) (calls : List Logged) → HasCalls (digest_of (owners.whose node) (owners.begun node)) (owners.whose node).node (owners.begun node) calls → calls ≡ []
    no_calls node calls has =
        let whose = owners.whose node in
        let begun = owners.begun node in
        let digest = digest_of whose begun in
        let d = digest_length whose.settings whose.rest begun in
        one_reading digest whose.node begun calls [] (has_reads digest whose.node begun calls d has) (has_reads digest whose.node begun [] d (inr (empty node, refl)))
