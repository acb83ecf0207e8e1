-- Whatever happens, and whatever switches are, the disks of pharmacies and payers have an explained order.
use Rattle.std.proofs.Common.{◌≡◌, ℕ, Bool, true, false, cond, List, [], ◌∷◌, ◌++◌, map, take, drop, Option, Some, None, refl, sym, ap, ◌∙◌, subst, inl, inr, append_assoc}
use Rattle.std.specs.List.{AllByRecursion}
use Rattle.std.proofs.lemmas.List.{append-nil, take-append-drop}
use Rattle.claim_model.specs.Context.{Context}
use Rattle.claim_model.specs.Laws.{Laws}
use Rattle.claim_model.specs.Numbered.{numbered}
use Rattle.claim_model.specs.Node.{Node, Pharmacy, Switch, Payer, Take}
use Rattle.claim_model.specs.World.{Packet, packet_from, run}
use Rattle.claim_model.specs.Settings.{WorldSettings, Accepts, opening}
use Rattle.claim_model.specs.Nodes.{AnyNode, node_at, same_node, asked}
use Rattle.claim_model.specs.Logs.{Logged, log_in, Makes, posted_by}
use Rattle.claim_model.proofs.Lists.{all_at, all_append, all_weaker}
use Rattle.claim_model.proofs.Names.{told_apart, same_self}
use Rattle.claim_model.proofs.Posting.{posted_more}
use Rattle.claim_model.proofs.Walking.{all_left}
use Rattle.crash_safety.specs.Network.{Process, Network, Calling, Syncing, Saying, Crashing, Restarting, file, replayed, put, one_synced, saying, crashed, restarted, beginning}
use Rattle.crash_safety.specs.Runs.{IsAmong}
use Rattle.crash_safety.specs.Explained.{Turn, sent_in, log_among, packet, Heard, Answer as Heard_answer, Rejection as Heard_rejection, IsExplained, Explained, IsThereIn}
use Rattle.crash_safety.specs.Explains.{explains}
use Rattle.crash_safety.specs.Greedy.{sent_among}
use Rattle.crash_safety.specs.Handing.{Happening, Moving, Handing, happened, after_all, handing, OrdersDisks, OrdersGoOn}
use Rattle.crash_safety.proofs.Replaying.{makes_left}
use Rattle.crash_safety.proofs.Sound.{at_each, nothing_numbered}
use Rattle.crash_safety.proofs.Moving.{empty_left, none_some, sent_by}
use Rattle.crash_safety.proofs.Lighter.{among_left}
use Rattle.crash_safety.proofs.Sources.{among_split, among_one, NoSwitch}
use Rattle.crash_safety.proofs.Explaining.{explained_goes}
use Rattle.crash_safety.proofs.Tracking.{logs_outside, sent_to_switch}
use Rattle.crash_safety.proofs.Taking.{IsSent, explained_more, sent_of}
use Rattle.crash_safety.proofs.Deciding.{explains_only}
use Rattle.crash_safety.proofs.Handed.{HandedFrom, IsHanded, IsWellHere, IsOrdered, Further, as_it_was, beside, outside_only, calling_on}

handed_more : (ctx : Context) (packets more : List Packet) (from to : Node) (bytes : List ℕ) → ((p : Packet) → IsAmong packets p → IsAmong more p) → HandedFrom ctx packets from to bytes → HandedFrom ctx more from to bytes
handed_more ctx packets more (Pharmacy n) to bytes f x = (f (packet (Pharmacy n) to bytes) x.0, x.1)
handed_more ctx packets more (Payer n) to bytes f x = (f (packet (Payer n) to bytes) x.0, x.1)
handed_more ctx packets more (Switch m) to bytes f x = explained_more ctx packets more to (Take (Switch m) bytes) f x

-- ---- a sync

sent_append : (turns more : List Turn) → sent_among (turns ++ more) ≡ sent_among turns ++ sent_among more
sent_append [] more = refl
sent_append (t ∷ turns) more = ap (λ (ps : List Packet). sent_in t ++ ps) (sent_append turns more) ∙ sym (append_assoc (sent_in t) (sent_among turns) (sent_among more))

log_append : (turns more : List Turn) (node : Node) → log_among (turns ++ more) node ≡ log_among turns node ++ log_among more node
log_append [] more node = refl
log_append (t ∷ turns) more node =
    let first = cond (same_node t.node node) (t.logged ∷ []) [] in
    ap (λ (log : List Logged). first ++ log) (log_append turns more node) ∙ sym (append_assoc first (log_among turns node) (log_among more node))

explained_append : (ctx : Context) (packets : List Packet) (turns : List Turn) (t : Turn) → Explained ctx packets turns → IsExplained ctx (packets ++ sent_among turns) t.node t.logged.call → Explained ctx packets (turns ++ t ∷ [])
explained_append ctx packets [] t x y = (subst (λ (ps : List Packet). IsExplained ctx ps t.node t.logged.call) (append-nil packets) y, tt)
explained_append ctx packets (u ∷ turns) t x y =
    (x.0, explained_append ctx (packets ++ sent_in u) turns t x.1 (subst (λ (ps : List Packet). IsExplained ctx ps t.node t.logged.call) (sym (append_assoc packets (sent_in u) (sent_among turns))) y))

grows_by : (turns : List Turn) (t : Turn) (p : Packet) → IsAmong (sent_among turns) p → IsAmong (sent_among (turns ++ t ∷ [])) p
grows_by turns t p a = subst (λ (ps : List Packet). IsAmong ps p) (sym (sent_append turns (t ∷ []))) (among_left (sent_among turns) (sent_among (t ∷ [])) p a)

well_more : (ctx : Context) (s : WorldSettings) (packets more : List Packet) (node : Node) (p : Process) → ((q : Packet) → IsAmong packets q → IsAmong more q) → IsWellHere ctx s packets node p → IsWellHere ctx s more node p
well_more ctx s packets more node p f w = record {
  memory = w.memory;
  makes = w.makes;
  nobody = w.nobody;
  explained = all_weaker (λ (l : Logged). IsExplained ctx packets node l.call) (λ (l : Logged). IsExplained ctx more node l.call) (λ l x. explained_more ctx packets more node l.call f x) p.unsynced w.explained;
}

there_of : (s : WorldSettings) (node : Node) (o : Option AnyNode) (l : Logged) (more : List Logged) (unsynced : List Logged) → node_at (opening s) node ≡ o → (node_at (opening s) node ≡ None → unsynced ≡ []) → unsynced ≡ l ∷ more → (x : AnyNode) × (node_at (opening s) node ≡ Some x)
there_of s node (Some x) l more unsynced e f is = (x, e)
there_of s node None l more unsynced e f is = let wrong : l ∷ more ≡ [] = sym is ∙ f e in absurd cc

own_log : (t : Turn) → log_among (t ∷ []) t.node ≡ t.logged ∷ []
own_log t = ap (λ (b : Bool). cond b (t.logged ∷ []) [] ++ []) (same_self t.node)

other_log : (t : Turn) (node : Node) → same_node t.node node ≡ false → log_among (t ∷ []) node ≡ []
other_log t node e = ap (λ (b : Bool). cond b (t.logged ∷ []) [] ++ []) e

pub sync_one : (ctx : Context) (s : WorldSettings) (n : Network) (turns : List Turn) (node : Node) (l : Logged) (more : List Logged) → IsOrdered ctx s n turns → NoSwitch node → (n.at node).unsynced ≡ l ∷ more
    → Further ctx s (put n node (record { memory = (n.at node).memory; synced = (n.at node).synced ++ l ∷ []; unsynced = more })) turns
sync_one ctx s n turns node l more i d is =
    let p = n.at node in
    let w = i.each node d in
    let t : Turn = record { node = node; logged = l } in
    let later = turns ++ t ∷ [] in
    let next : Process = record { memory = p.memory; synced = p.synced ++ l ∷ []; unsynced = more } in
    let same : file next ≡ file p = append_assoc p.synced (l ∷ []) more ∙ ap (λ (log : List Logged). p.synced ++ log) (sym is) in
    let parts = subst (AllByRecursion (λ (x : Logged). IsExplained ctx (sent_among turns) node x.call)) is w.explained in
    let longer : log_among later node ≡ p.synced ++ l ∷ [] = log_append turns (t ∷ []) node ∙ (ap (λ (log : List Logged). log ++ log_among (t ∷ []) node) (i.logs node d) ∙ ap (λ (log : List Logged). p.synced ++ log) (own_log t)) in
    let others : (x : Node) → same_node node x ≡ false → log_among later x ≡ log_among turns x = λ x e. log_append turns (t ∷ []) x ∙ (ap (λ (log : List Logged). log_among turns x ++ log) (other_log t x e) ∙ append-nil (log_among turns x)) in
    let grows = grows_by turns t in
    let well : IsWellHere ctx s (sent_among turns) node next = record {
      memory = λ m e. ap (replayed ctx s node) same ∙ w.memory m e;
      makes = λ b e. subst (Makes ctx b) (sym same) (w.makes b e);
      nobody = λ e. let x = there_of s node (node_at (opening s) node) l more p.unsynced refl w.nobody is in absurd (none_some x.0 (sym e ∙ x.1));
      explained = parts.1;
    } in
    record {
      more = t ∷ [];
      ordered = record {
        order = record {
          there = all_append (IsThereIn (opening s)) turns (t ∷ []) i.order.there (there_of s node (node_at (opening s) node) l more p.unsynced refl w.nobody is, tt);
          makes = λ x before e. elim (told_apart node x) [
            | inl own ↦
                let made : Makes ctx before (log_among later node) = subst (Makes ctx before) (sym longer) (makes_left ctx before (p.synced ++ l ∷ []) more (subst (Makes ctx before) (sym same) (w.makes before (ap (node_at (opening s)) own.1 ∙ e)))) in
                subst (λ (y : Node). Makes ctx before (log_among later y)) own.1 made
            | inr other ↦ subst (Makes ctx before) (sym (others x other.0)) (i.order.makes x before e)
          ];
          explained = explained_append ctx [] turns t i.order.explained parts.0;
        };
        logs = at_each (λ (x : Node) (q : Process). NoSwitch x → log_among later x ≡ q.synced) n node next (λ f. longer)
            (λ other f g. elim (told_apart node other) [ inl e ↦ absurd (f e.1) | inr e ↦ others other e.0 ∙ i.logs other g ]);
        wire = λ q a. handed_more ctx (sent_among turns) (sent_among later) q.from q.to q.bytes grows (i.wire q a);
        each = at_each (λ (x : Node) (q : Process). NoSwitch x → IsWellHere ctx s (sent_among later) x q) n node next (λ f. well_more ctx s (sent_among turns) (sent_among later) node next grows well)
            (λ other f g. well_more ctx s (sent_among turns) (sent_among later) other (n.at other) grows (i.each other g));
      };
    }

syncing_on : (ctx : Context) (s : WorldSettings) (n : Network) (turns : List Turn) (node : Node) (log : List Logged) → IsOrdered ctx s n turns → NoSwitch node → (n.at node).unsynced ≡ log → Further ctx s (put n node (one_synced (n.at node) log)) turns
syncing_on ctx s n turns node [] i d is = beside ctx s n turns i node (n.at node) refl (i.each node)
syncing_on ctx s n turns node (l ∷ more) i d is = sync_one ctx s n turns node l more i d is

-- ---- a word

all_posted : (packets : List Packet) (node : Node) (log : List Logged) → AllByRecursion (IsSent packets node) log → AllByRecursion (IsAmong packets) (posted_by node log)
all_posted packets node [] all = tt
all_posted packets node (l ∷ log) all =
    subst (AllByRecursion (IsAmong packets)) (sym (posted_more node l log)) (all_append (IsAmong packets) (map (packet_from node) l.sent) (posted_by node log) all.0 (all_posted packets node log all.1))

all_from_it : (node : Node) (log : List Logged) → AllByRecursion (λ (p : Packet). p.from ≡ node) (posted_by node log)
all_from_it node log =
    Rattle.claim_model.proofs.Lists.all_from (λ (p : Packet). p.from ≡ node) (posted_by node log)
    (λ k p e. Rattle.crash_safety.proofs.Sources.from_it node (Rattle.std.specs.Prelude.flat_map (λ (l : Logged). l.sent) log) p (record { number = k; is = e }))

handed_by : (ctx : Context) (packets : List Packet) (from to : Node) (bytes : List ℕ) → NoSwitch from → IsAmong packets (packet from to bytes) → (m : ℕ) × (to ≡ Switch m) → HandedFrom ctx packets from to bytes
handed_by ctx packets (Pharmacy n) to bytes d a x = (a, x)
handed_by ctx packets (Payer n) to bytes d a x = (a, x)
handed_by ctx packets (Switch m) to bytes d a x = absurd (d m refl)

wire_more : (ctx : Context) (s : WorldSettings) (n : Network) (turns : List Turn) (p : Packet) → IsOrdered ctx s n turns → IsHanded ctx (sent_among turns) p → Further ctx s (saying n (Some p)) turns
wire_more ctx s n turns p i h =
    as_it_was ctx s (saying n (Some p)) turns
    (record {
      order = i.order;
      logs = i.logs;
      wire = λ q a. elim (among_split n.wire (p ∷ []) q a) [
        | inl old ↦ i.wire q old
        | inr new ↦ subst (IsHanded ctx (sent_among turns)) (among_one p q new) h
      ];
      each = i.each;
    })

saying_on : (ctx : Context) (s : WorldSettings) (n : Network) (turns : List Turn) (node : Node) (k : ℕ) (o : Option Packet) → Laws ctx → Accepts ctx s → IsOrdered ctx s n turns → NoSwitch node → numbered (posted_by node (n.at node).synced) k ≡ o → Further ctx s (saying n o) turns
saying_on ctx s n turns node k None laws accepts i d e = as_it_was ctx s n turns i
saying_on ctx s n turns node k (Some p) laws accepts i d e =
    let g = explained_goes ctx s turns laws accepts i.order in
    let from : p.from ≡ node = all_at (λ (q : Packet). q.from ≡ node) (posted_by node (n.at node).synced) k p (all_from_it node (n.at node).synced) e in
    let apart : NoSwitch p.from = subst NoSwitch (sym from) d in
    let among : IsAmong (sent_among turns) p =
    all_at (IsAmong (sent_among turns)) (posted_by node (n.at node).synced) k p
    (subst (λ (log : List Logged). AllByRecursion (IsAmong (sent_among turns)) (posted_by node log)) (i.logs node d) (all_posted (sent_among turns) node (log_among turns node) (sent_of turns node))) e in
    let log : log_in ctx (opening s) g.events node ≡ (n.at node).synced = sym (logs_outside ctx (opening s) g.events node d) ∙ (ap (λ (ts : List Turn). log_among ts node) g.are ∙ i.logs node d) in
    let packets = (run ctx (opening s) g.events).packets in
    let in_run : IsAmong packets p =
    all_at (IsAmong packets) (posted_by node (n.at node).synced) k p (subst (λ (x : List Logged). AllByRecursion (IsAmong packets) (posted_by node x)) log (sent_by ctx s g.events node)) e in
    wire_more ctx s n turns p i (handed_by ctx (sent_among turns) p.from p.to p.bytes apart among (sent_to_switch ctx s g.events p laws accepts apart in_run))

-- ---- what a switch hands on

heard_there : (ctx : Context) (wire packets : List Packet) (n m : ℕ) (bytes : List ℕ) → ((p : Packet) → IsAmong wire p → IsHanded ctx packets p) → Heard ctx wire n m bytes → Heard ctx packets n m bytes
heard_there ctx wire packets n m bytes f (Heard_answer payer a) = Heard_answer payer (f (packet (Payer payer) (Switch m) bytes) a).0
heard_there ctx wire packets n m bytes f (Heard_rejection request e h a reads asks readable_is route spelled) =
    Heard_rejection request e h (f (packet (Pharmacy n) (Switch m) request) a).0 reads asks readable_is route spelled

explained_there : (ctx : Context) (wire packets : List Packet) (to : Node) (m : ℕ) (bytes : List ℕ) → ((p : Packet) → IsAmong wire p → IsHanded ctx packets p) → IsExplained ctx wire to (Take (Switch m) bytes) → IsExplained ctx packets to (Take (Switch m) bytes)
explained_there ctx wire packets (Pharmacy n) m bytes f x = (x.0, x.1, heard_there ctx wire packets n x.0 bytes f x.2)
explained_there ctx wire packets (Payer n) m bytes f x = (x.0, x.1, (x.2.0, (f (packet (Pharmacy x.2.0) (Switch x.0) bytes) x.2.1).0))
explained_there ctx wire packets (Switch k) m bytes f x = x

handing_on : (ctx : Context) (s : WorldSettings) (n : Network) (turns : List Turn) (m : ℕ) (to : Node) (bytes : List ℕ) (b : Bool) → IsOrdered ctx s n turns → explains ctx n.wire to (Take (Switch m) bytes) ≡ b
    → Further ctx s (cond b (saying n (Some (packet (Switch m) to bytes))) n) turns
handing_on ctx s n turns m to bytes false i e = as_it_was ctx s n turns i
handing_on ctx s n turns m to bytes true i e =
    wire_more ctx s n turns (packet (Switch m) to bytes) i (explained_there ctx n.wire (sent_among turns) to m bytes i.wire (explains_only ctx n.wire to (Take (Switch m) bytes) e))

-- ---- deaths and restarts

crashed_well : (ctx : Context) (s : WorldSettings) (packets : List Packet) (node : Node) (p : Process) (left : ℕ) → IsWellHere ctx s packets node p → IsWellHere ctx s packets node (crashed p left)
crashed_well ctx s packets node p left w =
    let parts : take left p.unsynced ++ drop left p.unsynced ≡ p.unsynced = take-append-drop left p.unsynced in
    let whole : (p.synced ++ take left p.unsynced) ++ drop left p.unsynced ≡ file p =
    append_assoc p.synced (take left p.unsynced) (drop left p.unsynced) ∙ ap (λ (log : List Logged). p.synced ++ log) parts in
    record {
      memory = λ m e. absurd (none_some m e);
      makes = λ before e. makes_left ctx before (p.synced ++ take left p.unsynced) (drop left p.unsynced) (subst (Makes ctx before) (sym whole) (w.makes before e));
      nobody = λ e. empty_left (take left p.unsynced) (drop left p.unsynced) (parts ∙ w.nobody e);
      explained = all_left (λ (l : Logged). IsExplained ctx packets node l.call) (take left p.unsynced) (drop left p.unsynced) (subst (AllByRecursion (λ (l : Logged). IsExplained ctx packets node l.call)) (sym parts) w.explained);
    }

restarted_well : (ctx : Context) (s : WorldSettings) (packets : List Packet) (node : Node) (p : Process) → IsWellHere ctx s packets node p → IsWellHere ctx s packets node (restarted ctx s node p)
restarted_well ctx s packets node p w = record { memory = λ m e. e; makes = w.makes; nobody = w.nobody; explained = w.explained }

-- ---- whatever happens

happens : (ctx : Context) (s : WorldSettings) (n : Network) (turns : List Turn) (one : Happening) → Laws ctx → Accepts ctx s → IsOrdered ctx s n turns → Further ctx s (happened ctx s n one) turns
unfolding happened
happens ctx s n turns (Handing m to bytes) laws accepts i = handing_on ctx s n turns m to bytes (explains ctx n.wire to (Take (Switch m) bytes)) i refl
happens ctx s n turns (Moving (Calling event)) laws accepts i = calling_on ctx s n turns event (asked n.wire event) i refl
happens ctx s n turns (Moving (Syncing node)) laws accepts i =
    outside_only ctx s n (put n node (one_synced (n.at node) (n.at node).unsynced)) turns node i (λ d. syncing_on ctx s n turns node (n.at node).unsynced i d refl)
happens ctx s n turns (Moving (Saying node k)) laws accepts i =
    outside_only ctx s n (saying n (numbered (posted_by node (n.at node).synced) k)) turns node i (λ d. saying_on ctx s n turns node k (numbered (posted_by node (n.at node).synced) k) laws accepts i d refl)
happens ctx s n turns (Moving (Crashing node left)) laws accepts i =
    outside_only ctx s n (put n node (crashed (n.at node) left)) turns node i (λ d. beside ctx s n turns i node (crashed (n.at node) left) refl (λ f. crashed_well ctx s (sent_among turns) node (n.at node) left (i.each node f)))
happens ctx s n turns (Moving (Restarting node)) laws accepts i =
    outside_only ctx s n (put n node (restarted ctx s node (n.at node))) turns node i (λ d. beside ctx s n turns i node (restarted ctx s node (n.at node)) refl (λ f. restarted_well ctx s (sent_among turns) node (n.at node) (i.each node f)))

pub happens_all : (ctx : Context) (s : WorldSettings) (n : Network) (turns : List Turn) (all : List Happening) → Laws ctx → Accepts ctx s → IsOrdered ctx s n turns → Further ctx s (after_all ctx s n all) turns
happens_all ctx s n turns [] laws accepts i = as_it_was ctx s n turns i
happens_all ctx s n turns (one ∷ all) laws accepts i =
    let first = happens ctx s n turns one laws accepts i in
    let rest = happens_all ctx s (happened ctx s n one) (turns ++ first.more) all laws accepts first.ordered in
    record { more = first.more ++ rest.more; ordered = subst (IsOrdered ctx s (after_all ctx s (happened ctx s n one) all)) (append_assoc turns first.more rest.more) rest.ordered }

pub begins_ordered : (ctx : Context) (s : WorldSettings) → IsOrdered ctx s beginning []
begins_ordered ctx s = record {
  order = record { there = tt; makes = λ node before e. tt; explained = tt };
  logs = λ node d. refl;
  wire = λ p a. absurd (nothing_numbered a.number p a.is);
  each = λ node d. record { memory = λ m e. absurd (none_some m e); makes = λ before e. tt; nobody = λ e. refl; explained = tt };
}

pub all_append_after : (ctx : Context) (s : WorldSettings) (n : Network) (all more : List Happening) → after_all ctx s n (all ++ more) ≡ after_all ctx s (after_all ctx s n all) more
all_append_after ctx s n [] more = refl
all_append_after ctx s n (one ∷ all) more = all_append_after ctx s (happened ctx s n one) all more

pub orders : (ctx : Context) (s : WorldSettings) (n : Network) (turns : List Turn) → IsOrdered ctx s n turns → OrdersDisks ctx s n turns
orders ctx s n turns i = record { order = i.order; pharmacies = λ k. i.logs (Pharmacy k) (λ m e. cc); payers = λ k. i.logs (Payer k) (λ m e. cc) }

pub orders_go_on : (ctx : Context) (s : WorldSettings) (all more : List Happening) → Laws ctx → Accepts ctx s → OrdersGoOn ctx s (handing ctx s all) (handing ctx s (all ++ more))
orders_go_on ctx s all more laws accepts =
    let first = happens_all ctx s beginning [] all laws accepts (begins_ordered ctx s) in
    let second = happens_all ctx s (handing ctx s all) first.more more laws accepts first.ordered in
    record {
      turns = first.more;
      more = second.more;
      first = orders ctx s (handing ctx s all) first.more first.ordered;
      last = orders ctx s (handing ctx s (all ++ more)) (first.more ++ second.more)
          (subst (λ (n : Network). IsOrdered ctx s n (first.more ++ second.more)) (sym (all_append_after ctx s beginning all more)) second.ordered);
    }
