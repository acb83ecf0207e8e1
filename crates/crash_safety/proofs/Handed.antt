-- An order of what pharmacies and payers have on disk, whatever switches are, and that their calls keep it.
use Rattle.std.proofs.Common.{◌≡◌, ℕ, List, [], ◌∷◌, ◌++◌, Option, Some, None, refl, sym, ap, ◌∙◌, subst, append_assoc}
use Rattle.std.specs.Prelude.{option_map}
use Rattle.std.specs.List.{AllByRecursion}
use Rattle.std.proofs.lemmas.List.{append-nil}
use Rattle.claim_model.specs.Context.{Context}
use Rattle.claim_model.specs.Numbered.{numbered}
use Rattle.claim_model.specs.Node.{Node, Pharmacy, Switch, Payer, Call, Submit, Tick, Take, Stop, Start, Revise, OfPlan, OfRule, OfCap, Sent, Outcome, Done, Refused, Power, Revision, pharmacy_step, payer_step}
use Rattle.claim_model.specs.World.{Packet, Event, Submission, Ticking, Delivery, Stopping, Starting, Revising, Adjudication}
use Rattle.claim_model.specs.Settings.{WorldSettings, opening}
use Rattle.claim_model.specs.Nodes.{AnyNode, OfPharmacy, OfPayer, as_node, node_step, node_at, Asked, taking, adjudicating, asked}
use Rattle.claim_model.specs.Journal.{Journal, JournalAtRest}
use Rattle.claim_model.specs.Rows.{Book}
use Rattle.claim_model.specs.Logs.{Logged, node_after, replay, Makes}
use Rattle.claim_model.proofs.Lists.{all_append}
use Rattle.claim_model.proofs.Options.{map_some, same_some}
use Rattle.crash_safety.specs.Network.{Process, Network, file, replayed, put, after_call, calls}
use Rattle.crash_safety.specs.Runs.{IsAmong}
use Rattle.crash_safety.specs.Explained.{Turn, log_among, packet, IsExplained, IsExplainedOrder}
use Rattle.crash_safety.specs.Greedy.{sent_among}
use Rattle.crash_safety.specs.Handing.{calling_outside}
use Rattle.crash_safety.proofs.Replaying.{replay_more, makes_more}
use Rattle.crash_safety.proofs.Sound.{at_each}
use Rattle.crash_safety.proofs.Moving.{some_is, none_some}
use Rattle.crash_safety.proofs.Sources.{NoSwitch, OfItsKind, with_advice, pharmacy_made, payer_made}

-- a packet on the wire: of a pharmacy or a payer, and sent to a switch by a call on a disk; or of a switch, and explained by such packets
abbrev pub HandedFrom : Context → List Packet → Node → Node → List ℕ → Type 0
HandedFrom ctx packets (Pharmacy n) to bytes = IsAmong packets (packet (Pharmacy n) to bytes) × ((m : ℕ) × (to ≡ Switch m))
HandedFrom ctx packets (Payer n) to bytes = IsAmong packets (packet (Payer n) to bytes) × ((m : ℕ) × (to ≡ Switch m))
HandedFrom ctx packets (Switch m) to bytes = IsExplained ctx packets to (Take (Switch m) bytes)

abbrev pub IsHanded : Context → List Packet → Packet → Type 0
IsHanded ctx packets p = HandedFrom ctx packets p.from p.to p.bytes

-- a process of a pharmacy or a payer
pub record IsWellHere (ctx : Context) (s : WorldSettings) (packets : List Packet) (node : Node) (p : Process) : Type 0 where
  pub memory : (m : AnyNode) → p.memory ≡ Some m → replayed ctx s node (file p) ≡ Some m
  pub makes : (before : AnyNode) → node_at (opening s) node ≡ Some before → Makes ctx before (file p)
  pub nobody : node_at (opening s) node ≡ None → p.unsynced ≡ []
  pub explained : AllByRecursion (λ (l : Logged). IsExplained ctx packets node l.call) p.unsynced

pub record IsOrdered (ctx : Context) (s : WorldSettings) (n : Network) (turns : List Turn) : Type 0 where
  pub order : IsExplainedOrder ctx s turns
  pub logs : (node : Node) → NoSwitch node → log_among turns node ≡ (n.at node).synced
  pub wire : (p : Packet) → IsAmong n.wire p → IsHanded ctx (sent_among turns) p
  pub each : (node : Node) → NoSwitch node → IsWellHere ctx s (sent_among turns) node (n.at node)

pub record Further (ctx : Context) (s : WorldSettings) (n : Network) (turns : List Turn) : Type 0 where
  pub more : List Turn
  pub ordered : IsOrdered ctx s n (turns ++ more)

pub as_it_was : (ctx : Context) (s : WorldSettings) (n : Network) (turns : List Turn) → IsOrdered ctx s n turns → Further ctx s n turns
as_it_was ctx s n turns i = record { more = []; ordered = subst (IsOrdered ctx s n) (sym (append-nil turns)) i }

module _ (ctx : Context) (s : WorldSettings) (n : Network) (turns : List Turn) (i : IsOrdered ctx s n turns) where
  pub beside : (node : Node) (p : Process) → p.synced ≡ (n.at node).synced → (NoSwitch node → IsWellHere ctx s (sent_among turns) node p) → Further ctx s (put n node p) turns
  beside node p same well =
      as_it_was ctx s (put n node p) turns (record {
        order = i.order;
        logs = at_each (λ (x : Node) (q : Process). NoSwitch x → log_among turns x ≡ q.synced) n node p (λ d. i.logs node d ∙ sym same) (λ other d. i.logs other);
        wire = i.wire;
        each = at_each (λ (x : Node) (q : Process). NoSwitch x → IsWellHere ctx s (sent_among turns) x q) n node p well (λ other d. i.each other);
      })

-- ---- a call

call_of : (ctx : Context) (packets : List Packet) (node from : Node) (bytes : List ℕ) → NoSwitch node → HandedFrom ctx packets from node bytes → IsExplained ctx packets node (Take from bytes)
call_of ctx packets node (Pharmacy k) bytes d x = absurd (d x.1.0 x.1.1)
call_of ctx packets node (Payer k) bytes d x = absurd (d x.1.0 x.1.1)
call_of ctx packets node (Switch m) bytes d x = x

abbrev AskedSo : Context → List Packet → Asked → Type 0
AskedSo ctx packets a = NoSwitch a.node → OfItsKind a.node a.call → IsExplained ctx packets a.node a.call

stops : (ctx : Context) (packets : List Packet) (node : Node) → NoSwitch node → IsExplained ctx packets node Stop
stops ctx packets (Pharmacy n) d = tt
stops ctx packets (Payer n) d = tt
stops ctx packets (Switch m) d = absurd (d m refl)

starts : (ctx : Context) (packets : List Packet) (node : Node) → NoSwitch node → IsExplained ctx packets node Start
starts ctx packets (Pharmacy n) d = tt
starts ctx packets (Payer n) d = tt
starts ctx packets (Switch m) d = absurd (d m refl)

revises : (ctx : Context) (packets : List Packet) (node : Node) (revision : Revision) → NoSwitch node → OfItsKind node (Revise revision) → IsExplained ctx packets node (Revise revision)
revises ctx packets (Pharmacy n) (OfPlan change) d o = let p = o.plan change refl in absurd (no_payer n p.0 p.1)
  where
    no_payer : (n m : ℕ) → Pharmacy n ≡ Payer m → ⊥
    no_payer n m e = cc
revises ctx packets (Pharmacy n) (OfRule rule) d o = tt
revises ctx packets (Pharmacy n) (OfCap most) d o = let p = o.cap most refl in absurd (d p.0 p.1)
revises ctx packets (Payer n) (OfPlan change) d o = tt
revises ctx packets (Payer n) (OfRule rule) d o = let p = o.rule rule refl in absurd (no_pharmacy n p.0 p.1)
  where
    no_pharmacy : (n m : ℕ) → Payer n ≡ Pharmacy m → ⊥
    no_pharmacy n m e = cc
revises ctx packets (Payer n) (OfCap most) d o = let p = o.cap most refl in absurd (d p.0 p.1)
revises ctx packets (Switch m) revision d o = absurd (d m refl)

asked_so : (ctx : Context) (packets wire : List Packet) (event : Event) (a : Asked) → ((p : Packet) → IsAmong wire p → IsHanded ctx packets p) → asked wire event ≡ Some a → AskedSo ctx packets a
asked_so ctx packets wire (Submission n text) a f e = subst (AskedSo ctx packets) (same_some (record { node = Pharmacy n; call = Submit text }) a e) (λ d o. tt)
asked_so ctx packets wire (Ticking n) a f e = subst (AskedSo ctx packets) (same_some (record { node = Pharmacy n; call = Tick }) a e) (λ d o. tt)
asked_so ctx packets wire (Delivery k) a f e =
    let t = map_some taking (numbered wire k) a e in
    subst (AskedSo ctx packets) t.2 (λ d o. call_of ctx packets t.0.to t.0.from t.0.bytes d (f t.0 (record { number = k; is = t.1 })))
asked_so ctx packets wire (Stopping node) a f e = subst (AskedSo ctx packets) (same_some (record { node = node; call = Stop }) a e) (λ d o. stops ctx packets node d)
asked_so ctx packets wire (Starting node) a f e = subst (AskedSo ctx packets) (same_some (record { node = node; call = Start }) a e) (λ d o. starts ctx packets node d)
asked_so ctx packets wire (Revising node revision) a f e = subst (AskedSo ctx packets) (same_some (record { node = node; call = Revise revision }) a e) (λ d o. revises ctx packets node revision d o)
asked_so ctx packets wire (Adjudication k advice) a f e =
    let t = map_some (adjudicating advice) (numbered wire k) a e in
    subst (AskedSo ctx packets) t.2 (λ d o. with_advice ctx packets t.0.to t.0.from t.0.bytes advice (o.advice t.0.from t.0.bytes advice refl) (call_of ctx packets t.0.to t.0.from t.0.bytes d (f t.0 (record { number = k; is = t.1 }))))

called_well : (ctx : Context) (s : WorldSettings) (packets : List Packet) (node : Node) (p : Process) (m next : AnyNode) (l : Logged) → IsWellHere ctx s packets node p → IsExplained ctx packets node l.call → p.memory ≡ Some m → node_step ctx m l.call ≡ Done next l.sent
    → IsWellHere ctx s packets node (record { memory = Some next; synced = p.synced; unsynced = p.unsynced ++ l ∷ [] })
called_well ctx s packets node p m next l w c is steps =
    let was = some_is ctx s node (file p) m (w.memory m is) in
    let longer : file p ++ l ∷ [] ≡ p.synced ++ (p.unsynced ++ l ∷ []) = append_assoc p.synced p.unsynced (l ∷ []) in
    let now : node_step ctx (replay ctx was.0 (file p)) l.call ≡ Done next l.sent = ap (λ (x : AnyNode). node_step ctx x l.call) was.2 ∙ steps in
    let leads : replay ctx was.0 (file p ++ l ∷ []) ≡ next = replay_more ctx was.0 (file p) l ∙ ap (node_after (replay ctx was.0 (file p))) now in
    record {
      memory = λ x e.
          let same : next ≡ x = same_some next x e in
          ap (λ (log : List Logged). replayed ctx s node log) (sym longer)
          ∙ (ap (option_map (λ (b : AnyNode). replay ctx b (file p ++ l ∷ []))) was.1 ∙ ap (λ (y : AnyNode). Some y) (leads ∙ same));
      makes = λ before e.
          subst (Makes ctx before) longer
          (makes_more ctx before next (file p) l (w.makes before e)
          (subst (λ (b : AnyNode). node_step ctx (replay ctx b (file p)) l.call ≡ Done next l.sent) (same_some was.0 before (sym was.1 ∙ e)) now));
      nobody = λ e. absurd (none_some was.0 (sym e ∙ was.1));
      explained = all_append (λ (x : Logged). IsExplained ctx packets node x.call) p.unsynced (l ∷ []) w.explained (c, tt);
    }

-- a node stays of its kind
after_pharmacy : (o : Outcome (Power Journal JournalAtRest)) (x : Power Journal JournalAtRest) → (y : Power Journal JournalAtRest) × (node_after (OfPharmacy x) (as_node OfPharmacy o) ≡ OfPharmacy y)
after_pharmacy (Refused why) x = (x, refl)
after_pharmacy (Done next sent) x = (next, refl)

replay_pharmacy : (ctx : Context) (x : Power Journal JournalAtRest) (log : List Logged) → (y : Power Journal JournalAtRest) × (replay ctx (OfPharmacy x) log ≡ OfPharmacy y)
replay_pharmacy ctx x [] = (x, refl)
replay_pharmacy ctx x (l ∷ log) =
    let a = after_pharmacy (pharmacy_step ctx x l.call) x in
    let r = replay_pharmacy ctx a.0 log in
    (r.0, ap (λ (z : AnyNode). replay ctx z log) a.1 ∙ r.1)

after_payer : (o : Outcome (Power Book Book)) (x : Power Book Book) → (y : Power Book Book) × (node_after (OfPayer x) (as_node OfPayer o) ≡ OfPayer y)
after_payer (Refused why) x = (x, refl)
after_payer (Done next sent) x = (next, refl)

replay_payer : (ctx : Context) (x : Power Book Book) (log : List Logged) → (y : Power Book Book) × (replay ctx (OfPayer x) log ≡ OfPayer y)
replay_payer ctx x [] = (x, refl)
replay_payer ctx x (l ∷ log) =
    let a = after_payer (payer_step ctx x l.call) x in
    let r = replay_payer ctx a.0 log in
    (r.0, ap (λ (z : AnyNode). replay ctx z log) a.1 ∙ r.1)

-- so only a payer makes a call with an advice or with a change of a plan, and only a pharmacy one with a rule of retries
made_only : (ctx : Context) (s : WorldSettings) (packets : List Packet) (node : Node) (p : Process) (m next : AnyNode) (call : Call) (sent : List Sent) → NoSwitch node → IsWellHere ctx s packets node p → p.memory ≡ Some m → node_step ctx m call ≡ Done next sent → OfItsKind node call
made_only ctx s packets (Payer n) p m next call sent d w is steps =
    let was = some_is ctx s (Payer n) (file p) m (w.memory m is) in
    let b = map_some OfPayer (numbered (opening s).payers n) was.0 was.1 in
    let r = replay_payer ctx b.0 (file p) in
    let same : OfPayer r.0 ≡ m = sym r.1 ∙ (ap (λ (z : AnyNode). replay ctx z (file p)) b.2 ∙ was.2) in
    payer_made ctx n r.0 call next sent (ap (λ (z : AnyNode). node_step ctx z call) same ∙ steps)
made_only ctx s packets (Switch k) p m next call sent d w is steps = absurd (d k refl)
made_only ctx s packets (Pharmacy n) p m next call sent d w is steps =
    let was = some_is ctx s (Pharmacy n) (file p) m (w.memory m is) in
    let j = map_some OfPharmacy (numbered (opening s).pharmacies n) was.0 was.1 in
    let r = replay_pharmacy ctx j.0 (file p) in
    let same : OfPharmacy r.0 ≡ m = sym r.1 ∙ (ap (λ (z : AnyNode). replay ctx z (file p)) j.2 ∙ was.2) in
    pharmacy_made ctx n r.0 call next sent (ap (λ (z : AnyNode). node_step ctx z call) same ∙ steps)

after_well : (ctx : Context) (s : WorldSettings) (packets : List Packet) (node : Node) (p : Process) (m : AnyNode) (call : Call) (o : Outcome AnyNode) → NoSwitch node → IsWellHere ctx s packets node p → (OfItsKind node call → IsExplained ctx packets node call) → p.memory ≡ Some m → node_step ctx m call ≡ o
    → IsWellHere ctx s packets node (after_call p call o)
after_well ctx s packets node p m call (Refused why) d w c is e = w
after_well ctx s packets node p m call (Done next sent) d w c is e = called_well ctx s packets node p m next (record { call = call; sent = sent }) w (c (made_only ctx s packets node p m next call sent d w is e)) is e

calls_well : (ctx : Context) (s : WorldSettings) (packets : List Packet) (node : Node) (p : Process) (call : Call) (o : Option AnyNode) → NoSwitch node → IsWellHere ctx s packets node p → (OfItsKind node call → IsExplained ctx packets node call) → p.memory ≡ o → IsWellHere ctx s packets node (calls ctx p call o)
calls_well ctx s packets node p call None d w c is = w
calls_well ctx s packets node p call (Some m) d w c is = after_well ctx s packets node p m call (node_step ctx m call) d w c is refl

after_same : (p : Process) (call : Call) (o : Outcome AnyNode) → (after_call p call o).synced ≡ p.synced
after_same p call (Refused why) = refl
after_same p call (Done next sent) = refl

calls_same : (ctx : Context) (p : Process) (call : Call) (o : Option AnyNode) → (calls ctx p call o).synced ≡ p.synced
calls_same ctx p call None = refl
calls_same ctx p call (Some m) = after_same p call (node_step ctx m call)

-- unless it is a switch's
pub outside_only : (ctx : Context) (s : WorldSettings) (n next : Network) (turns : List Turn) (node : Node) → IsOrdered ctx s n turns → (NoSwitch node → Further ctx s next turns) → Further ctx s (Rattle.crash_safety.specs.Handing.unless_switch node n next) turns
outside_only ctx s n next turns (Pharmacy k) i f = f (λ m e. cc)
outside_only ctx s n next turns (Payer k) i f = f (λ m e. cc)
outside_only ctx s n next turns (Switch k) i f = as_it_was ctx s n turns i

pub calling_on : (ctx : Context) (s : WorldSettings) (n : Network) (turns : List Turn) (event : Event) (o : Option Asked) → IsOrdered ctx s n turns → asked n.wire event ≡ o → Further ctx s (calling_outside ctx n o) turns
calling_on ctx s n turns event None i e = as_it_was ctx s n turns i
calling_on ctx s n turns event (Some a) i e =
    let p = n.at a.node in
    outside_only ctx s n (put n a.node (calls ctx p a.call p.memory)) turns a.node i
    (λ d. beside ctx s n turns i a.node (calls ctx p a.call p.memory) (calls_same ctx p a.call p.memory)
    (λ d. calls_well ctx s (sent_among turns) a.node p a.call p.memory d (i.each a.node d) (asked_so ctx (sent_among turns) n.wire event a i.wire e d) refl))
