-- What the bytes of one node are read as, among the others, and what lines ask it for.
use Rattle.std.proofs.Common.{◌≡◌, inl, inr, ℕ, true, false, cond, List, [], ◌∷◌, ◌++◌, length, Some, Result, Ok, Err, sym, ap, ◌∙◌, subst, arith, append_assoc, append-nil}
use Rattle.claim_model.specs.Node.{Node, Call, Submit, Tick, Take, Stop, Start, Revise, Adjudicate}
use Rattle.claim_model.specs.World.{Packet}
use Rattle.claim_model.specs.Nodes.{same_node}
use Rattle.claim_model.specs.Logs.{Logged, NodeLog, posted_by}
use Rattle.claim_model.proofs.Names.{told_apart}
use Rattle.crash_safety.specs.Network.{Process, Network, calls, after, network}
use Rattle.crash_safety.specs.Network.{file as model_file}
use Rattle.crash_safety.specs.Runs.{IsAmong}
use Rattle.crash_safety.specs.Steps.{in_front}
use Rattle.world_setup.specs.Seen.{call_seen, settings_seen}
use Rattle.world_setup.specs.declared.settings.WorldSettings.{WorldSettings as Settings}
use Rattle.node_logged.specs.Setting.{context_of}
use Rattle.kept_logs.specs.declared.fault.LogFault.{LogFault}
use Rattle.kept_logs.specs.declared.fault.LogFault.TheVariants.{Short}
use Rattle.kept_logs.specs.Logs.{Reading, kept_text, kept_in}
use Rattle.kept_logs.specs.Rests.{begins}
use Rattle.kept_logs.proofs.LogsBack.{reads_short, reads_whole}
use Rattle.node_service.specs.Asking.{Noted, Calls, asked_of}
use Rattle.node_process.specs.Histories.{Happening, acts_of, file_of, on_disk, digest_of, CanBegin, HasCalls, ReadsCalls, IsAlive, IsAskedIn, lines_at, lines_of}
use Rattle.node_process.specs.Joined.{Turn, own, Owners, WasSent, IsOfPacket, AreOfPackets, TakesWhatWasSent, BeginsAtRest}
use Rattle.node_process.proofs.Bare.{bare_has, bare_reads, reading_alone}
use Rattle.node_process.proofs.Left.{torn_fits, torn_reads, front_fits}
use Rattle.node_process.proofs.Between.{IsInner, digest_length, recorded}
use Rattle.node_process.proofs.Bases.{idle_calls}
use Rattle.node_process.proofs.Packets.{sent_behind}

-- ---- what bytes are read as

same_ok : (a b : Reading) → ◌≡◌ {A = Result Reading LogFault} (Ok a) (Ok b) → a ≡ b
same_ok a b e = cc

ok_no_err : (a : Reading) (e : LogFault) → ◌≡◌ {A = Result Reading LogFault} (Ok a) (Err e) → ⊥
ok_no_err a e h = cc

-- bytes are read in one way
pub one_reading : (digest : List ℕ) (node : Node) (bytes : List ℕ) (a b : List Logged) → ReadsCalls digest node bytes a → ReadsCalls digest node bytes b → a ≡ b
one_reading digest node bytes a b (inl x) (inl y) =
    ap (λ (r : Reading). r.log.calls) (same_ok (record { log = record { node = node; calls = a }; whole = x.0 }) (record { log = record { node = node; calls = b }; whole = y.0 }) (sym x.1 ∙ y.1))
one_reading digest node bytes a b (inl x) (inr y) = absurd (ok_no_err (record { log = record { node = node; calls = a }; whole = x.0 }) Short (sym x.1 ∙ y.0))
one_reading digest node bytes a b (inr x) (inl y) = absurd (ok_no_err (record { log = record { node = node; calls = b }; whole = y.0 }) Short (sym y.1 ∙ x.0))
one_reading digest node bytes a b (inr x) (inr y) = x.1 ∙ sym y.1

-- the text of a log is read as its calls
pub has_reads : (digest : List ℕ) (node : Node) (bytes : List ℕ) (calls : List Logged) → length digest ≡ 33 → HasCalls digest node bytes calls → ReadsCalls digest node bytes calls
has_reads digest node bytes calls d (inr none) =
    inr (reading_alone digest bytes (Err Short) (ap (kept_in digest) none.0 ∙ reads_short digest (record { node = node; calls = [] }) 0 d (omega arith)), none.1)
has_reads digest node bytes calls d (inl text) =
    let whole = length (kept_text digest text.kept) in
    inl (
      whole,
      reading_alone digest bytes (Ok (record { log = text.kept; whole = whole })) (ap (kept_in digest) text.is ∙ reads_whole digest text.kept d text.fits)
          ∙ ap (λ (log : NodeLog). let r : Reading = record { log = log; whole = whole } in Ok r) text.of,
    )

-- ---- one node among the others

-- nothing has happened to it, or its process is one of the model with the calls of closed logs in front
pub data Stands (settings : Settings) (owners : Owners) (rest : BeginsAtRest settings owners) (all : List Turn) (n : Network) (node : Node) : Type 0 where
  Idle : own node all ≡ [] → n.at node ≡ (network (context_of settings) (settings_seen settings) rest.moves).at node → Stands settings owners rest all n node
  Live : (p : Process) → n.at node ≡ in_front (rest.closed node) p → IsInner (owners.whose node) (owners.begun node) (own node all) p
      → IsAlive (context_of settings) (begins settings (owners.whose node).node (owners.whose node).rest) (acts_of (own node all)) p → Stands settings owners rest all n node

-- what its bytes are read as
pub record Lies (owners : Owners) (closed : List Logged) (all : List Turn) (n : Network) (node : Node) : Type 0 where
  pub synced : List Logged
  pub whole : List Logged
  pub disk : ReadsCalls (digest_of (owners.whose node) (owners.begun node)) (owners.whose node).node (on_disk (owners.begun node) (own node all)) synced
  pub lies : ReadsCalls (digest_of (owners.whose node) (owners.begun node)) (owners.whose node).node (file_of (owners.begun node) (own node all)) whole
  pub synced_is : (n.at node).synced ≡ closed ++ synced
  pub whole_is : model_file (n.at node) ≡ closed ++ whole

pub lies_at : (settings : Settings) (owners : Owners) (rest : BeginsAtRest settings owners) (all : List Turn) (n : Network) (node : Node) → CanBegin (owners.whose node) (owners.begun node) → Stands settings owners rest all n node → Lies owners (rest.closed node) all n node
lies_at settings owners rest all n node can (Idle none at) =
    let whose = owners.whose node in
    let begun = owners.begun node in
    let digest = digest_of whose begun in
    let c = idle_calls whose begun can in
    let reads = has_reads digest whose.node begun c.calls (digest_length whose.settings whose.rest begun) c.has in
    let is = at ∙ rest.at node c.calls c.has in
    record {
      synced = c.calls;
      whole = c.calls;
      disk = subst (λ (h : List Happening). ReadsCalls digest whose.node (on_disk begun h) c.calls) (sym none) reads;
      lies = subst (λ (h : List Happening). ReadsCalls digest whose.node (file_of begun h) c.calls) (sym none) reads;
      synced_is = ap (λ (p : Process). p.synced) is;
      whole_is = ap model_file is ∙ append-nil (rest.closed node ++ c.calls);
    }
lies_at settings owners rest all n node can (Live p at i alive) =
    let whose = owners.whose node in
    let begun = owners.begun node in
    let h = own node all in
    let digest = digest_of whose begun in
    let d = digest_length whose.settings whose.rest begun in
    let fits = torn_fits digest whose.node (file_of begun h) (i.synced ++ i.unsynced) i.lies in
    record {
      synced = p.synced;
      whole = model_file p;
      disk = has_reads digest whose.node (on_disk begun h) p.synced d
          (subst (HasCalls digest whose.node (on_disk begun h)) i.synced_are (bare_has digest whose.node (on_disk begun h) i.synced (record { node = fits.node; calls = front_fits i.synced i.unsynced fits.calls }) i.disk));
      lies = subst (ReadsCalls digest whose.node (file_of begun h)) (recorded whose begun h p i) (bare_reads digest whose.node (file_of begun h) (i.synced ++ i.unsynced) (torn_reads digest whose.node (file_of begun h) (i.synced ++ i.unsynced) d i.lies));
      synced_is = ap (λ (q : Process). q.synced) at;
      whole_is = ap model_file at ∙ append_assoc (rest.closed node) p.synced p.unsynced;
    }

-- what the calls on its disk sent
pub sent_now : (settings : Settings) (owners : Owners) (rest : BeginsAtRest settings owners) (all : List Turn) (n : Network) (node : Node) (calls : List Logged) (p : Packet) → CanBegin (owners.whose node) (owners.begun node) → Stands settings owners rest all n node
    → HasCalls (digest_of (owners.whose node) (owners.begun node)) (owners.whose node).node (on_disk (owners.begun node) (own node all)) calls → IsAmong (posted_by node calls) p → IsAmong (posted_by node (n.at node).synced) p
sent_now settings owners rest all n node calls p can stands has a =
    let whose = owners.whose node in
    let begun = owners.begun node in
    let digest = digest_of whose begun in
    let l = lies_at settings owners rest all n node can stands in
    let same = one_reading digest whose.node (on_disk begun (own node all)) calls l.synced (has_reads digest whose.node (on_disk begun (own node all)) calls (digest_length whose.settings whose.rest begun) has) l.disk in
    subst (λ (log : List Logged). IsAmong (posted_by node log) p) (sym l.synced_is)
    (sent_behind node (rest.closed node) l.synced p (subst (λ (log : List Logged). IsAmong (posted_by node log) p) same a))

-- ---- what lines ask for

sent_later : (owners : Owners) (t : Turn) (all : List Turn) (p : Packet) → WasSent owners all p → WasSent owners (t ∷ all) p
sent_later owners t all p w = record { later = t ∷ w.later; earlier = w.earlier; is = ap (λ (x : List Turn). t ∷ x) w.is; calls = w.calls; has = w.has; sent = w.sent }

asked_later_too : (owners : Owners) (t : Turn) (all : List Turn) (node : Node) (call : Call) → IsOfPacket owners all node call → IsOfPacket owners (t ∷ all) node call
asked_later_too owners t all node (Take from bytes) c = sent_later owners t all (record { from = from; to = node; bytes = bytes }) c
asked_later_too owners t all node (Submit text) c = c
asked_later_too owners t all node Tick c = c
asked_later_too owners t all node Stop c = c
asked_later_too owners t all node Start c = c
asked_later_too owners t all node (Revise change) c = c
asked_later_too owners t all node (Adjudicate from bytes advice) c = sent_later owners t all (record { from = from; to = node; bytes = bytes }) c

pub own_turn : (t : Turn) (all : List Turn) (node : Node) → same_node t.node node ≡ true → own node (t ∷ all) ≡ t.happens ∷ own node all
own_turn t all node e = ap (λ b. cond b (t.happens ∷ own node all) (own node all)) e

pub other_turn : (t : Turn) (all : List Turn) (node : Node) → same_node t.node node ≡ false → own node (t ∷ all) ≡ own node all
other_turn t all node e = ap (λ b. cond b (t.happens ∷ own node all) (own node all)) e

abbrev pub Tied : Owners → List Turn → Node → List (List ℕ) → Type 0
Tied owners all node lines = AreOfPackets owners all node lines

tied_later : (owners : Owners) (t : Turn) (all : List Turn) (node : Node) (lines : List (List ℕ)) → Tied owners all node lines → Tied owners (t ∷ all) node lines
tied_later owners t all node [] c = tt
tied_later owners t all node (line ∷ lines) c = (λ n e. asked_later_too owners t all node (call_seen n.call) (c.0 n e), tied_later owners t all node lines c.1)

pub tied_append : (owners : Owners) (all : List Turn) (node : Node) (lines more : List (List ℕ)) → Tied owners all node lines → Tied owners all node more → Tied owners all node (lines ++ more)
tied_append owners all node [] more a b = b
tied_append owners all node (line ∷ lines) more a b = (a.0, tied_append owners all node lines more a.1 b)

pub tied : (owners : Owners) (all : List Turn) (node : Node) → TakesWhatWasSent owners all → Tied owners all node (lines_of (own node all))
tied owners [] node c = tt
tied owners (t ∷ all) node c =
    elim (told_apart t.node node) [
      | inl mine ↦
          subst (λ (h : List Happening). Tied owners (t ∷ all) node (lines_of h)) (sym (own_turn t all node mine.0))
          (tied_later owners t all node (lines_of (own node all) ++ lines_at (t.happens ∷ own node all))
          (tied_append owners all node (lines_of (own node all)) (lines_at (t.happens ∷ own node all)) (tied owners all node c.1)
          (subst (λ (x : Node). Tied owners all x (lines_at (t.happens ∷ own x all))) mine.1 c.0)))
      | inr other ↦ subst (λ (h : List Happening). Tied owners (t ∷ all) node (lines_of h)) (sym (other_turn t all node other.0)) (tied_later owners t all node (lines_of (own node all)) (tied owners all node c.1))
    ]

-- of the line that asks for a call
tied_line : (owners : Owners) (all : List Turn) (node : Node) (before : List (List ℕ)) (line : List ℕ) (after : List (List ℕ)) → Tied owners all node (before ++ line ∷ after) → (n : Noted) → asked_of line ≡ Some (Calls n) → IsOfPacket owners all node (call_seen n.call)
tied_line owners all node [] line after c n e = c.0 n e
tied_line owners all node (x ∷ before) line after c n e = tied_line owners all node before line after c.1 n e

pub can_be_asked : (owners : Owners) (all : List Turn) (node : Node) (lines : List (List ℕ)) (call : Call) → Tied owners all node lines → IsAskedIn lines call → IsOfPacket owners all node call
can_be_asked owners all node lines call c a =
    subst (IsOfPacket owners all node) a.call_is (tied_line owners all node a.before a.line a.after (subst (Tied owners all node) a.is c) a.noted a.asks)
