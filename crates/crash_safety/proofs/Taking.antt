-- One explained call after another.
use Rattle.std.proofs.Common.{◌≡◌, ℕ, Bool, cond, List, [], ◌∷◌, ◌++◌, map, Option, sym, ap, ◌∙◌, subst, ◌⊎◌, inl, inr}
use Rattle.std.specs.List.{AllByRecursion}
use Rattle.claim_model.specs.Words.{RouteKey}
use Rattle.claim_model.specs.Context.{Context}
use Rattle.claim_model.specs.Laws.{Laws}
use Rattle.claim_model.specs.Node.{Node, Pharmacy, Switch, Payer, Call, Submit, Tick, Take, Stop, Start, Revise, OfPlan, OfRule, OfCap, Adjudicate}
use Rattle.claim_model.specs.World.{Packet, Event, packet_from}
use Rattle.claim_model.specs.Settings.{WorldSettings, Accepts, opening}
use Rattle.claim_model.specs.Nodes.{same_node}
use Rattle.claim_model.specs.Logs.{Logged}
use Rattle.claim_model.proofs.Lists.{all_at, all_append, all_weaker}
use Rattle.claim_model.proofs.Names.{told_apart, same_self}
use Rattle.claim_model.proofs.Walking.{same_first, same_rest, nothing_left}
use Rattle.crash_safety.specs.Network.{Move}
use Rattle.crash_safety.specs.Runs.{IsAmong, on_disks, in_files}
use Rattle.crash_safety.specs.Diskless.{light, HasRunHere}
use Rattle.crash_safety.specs.Explained.{Turn, sent_in, log_among, packet, Heard, Answer as Heard_answer, Rejection as Heard_rejection, IsExplained, Explained, IsExplainedOrder, outside}
use Rattle.crash_safety.specs.Told.{rerouted}
use Rattle.crash_safety.specs.Greedy.{sent_among, BeginsAs, CanTake, GoesOn, HasOrder, RejectionStays}
use Rattle.crash_safety.proofs.Sound.{nothing_numbered}
use Rattle.crash_safety.proofs.Lighter.{among_left, among_right, all_themselves}
use Rattle.crash_safety.proofs.Lightness.{course_here}
use Rattle.crash_safety.proofs.Sources.{among_split}
use Rattle.crash_safety.proofs.Rerouted.{reads_same}
use Rattle.crash_safety.proofs.Tracking.{runs_explained, pharmacy_logs, payer_logs}

-- more packets explain what fewer did

heard_more : (ctx : Context) (packets more : List Packet) (n m : ℕ) (bytes : List ℕ) → ((p : Packet) → IsAmong packets p → IsAmong more p) → Heard ctx packets n m bytes → Heard ctx more n m bytes
heard_more ctx packets more n m bytes f (Heard_answer payer a) = Heard_answer payer (f (packet (Payer payer) (Switch m) bytes) a)
heard_more ctx packets more n m bytes f (Heard_rejection request e h a reads asks readable_is route spelled) =
    Heard_rejection request e h (f (packet (Pharmacy n) (Switch m) request) a) reads asks readable_is route spelled

pub explained_more : (ctx : Context) (packets more : List Packet) (node : Node) (call : Call) → ((p : Packet) → IsAmong packets p → IsAmong more p) → IsExplained ctx packets node call → IsExplained ctx more node call
explained_more ctx packets more (Pharmacy n) (Take from bytes) f x = (x.0, x.1, heard_more ctx packets more n x.0 bytes f x.2)
explained_more ctx packets more (Pharmacy n) (Submit text) f x = x
explained_more ctx packets more (Pharmacy n) Tick f x = x
explained_more ctx packets more (Pharmacy n) Stop f x = x
explained_more ctx packets more (Pharmacy n) Start f x = x
explained_more ctx packets more (Pharmacy n) (Revise (OfPlan change)) f x = x
explained_more ctx packets more (Pharmacy n) (Revise (OfRule rule)) f x = x
explained_more ctx packets more (Pharmacy n) (Revise (OfCap most)) f x = x
explained_more ctx packets more (Pharmacy n) (Adjudicate from bytes advice) f x = x
explained_more ctx packets more (Payer n) (Take from bytes) f x = (x.0, x.1, (x.2.0, f (packet (Pharmacy x.2.0) (Switch x.0) bytes) x.2.1))
explained_more ctx packets more (Payer n) (Submit text) f x = x
explained_more ctx packets more (Payer n) Tick f x = x
explained_more ctx packets more (Payer n) Stop f x = x
explained_more ctx packets more (Payer n) Start f x = x
explained_more ctx packets more (Payer n) (Revise (OfPlan change)) f x = x
explained_more ctx packets more (Payer n) (Revise (OfRule rule)) f x = x
explained_more ctx packets more (Payer n) (Revise (OfCap most)) f x = x
explained_more ctx packets more (Payer n) (Adjudicate from bytes advice) f x = (x.0, x.1, (x.2.0, f (packet (Pharmacy x.2.0) (Switch x.0) bytes) x.2.1))
explained_more ctx packets more (Switch m) call f x = x

-- the packets of a call are among these
abbrev pub IsSent : List Packet → Node → Logged → Type 0
IsSent packets node l = AllByRecursion (IsAmong packets) (map (packet_from node) l.sent)

pub sent_of : (done : List Turn) (node : Node) → AllByRecursion (IsSent (sent_among done) node) (log_among done node)
sent_of [] node = tt
sent_of (t ∷ done) node =
    let all = sent_among (t ∷ done) in
    all_append (IsSent all node) (cond (same_node t.node node) (t.logged ∷ []) []) (log_among done node)
    (elim (told_apart t.node node) [
      | inl same ↦
          subst (λ (b : Bool). AllByRecursion (IsSent all node) (cond b (t.logged ∷ []) [])) (sym same.0) (
            subst (λ (x : Node). IsSent all x t.logged) same.1
                (all_weaker (IsAmong (sent_in t)) (IsAmong all) (λ p a. among_left (sent_in t) (sent_among done) p a) (sent_in t) (all_themselves (sent_in t))),
            tt,
          )
      | inr other ↦ subst (λ (b : Bool). AllByRecursion (IsSent all node) (cond b (t.logged ∷ []) [])) (sym other.0) tt
    ])
    (all_weaker (IsSent (sent_among done) node) (IsSent all node)
    (λ l s. all_weaker (IsAmong (sent_among done)) (IsAmong all) (λ p a. among_right (sent_in t) (sent_among done) p a) (map (packet_from node) l.sent) s) (log_among done node) (sent_of done node))

-- a node on the way: which calls were taken beyond the way, and which are left to both
record Here (done rest : List Turn) (left : List Logged) (node : Node) : Type 0 where
  ahead : List Logged
  is : log_among rest node ≡ ahead ++ left
  sent : AllByRecursion (IsSent (sent_among done) node) ahead

-- a node's first turn is its own
pub own_first : (t : Turn) (rest : List Turn) → log_among (t ∷ rest) t.node ≡ t.logged ∷ log_among rest t.node
own_first t rest = ap (λ (b : Bool). cond b (t.logged ∷ []) [] ++ log_among rest t.node) (same_self t.node)

module _ (ctx : Context) (done turns : List Turn) (left : Node → List Logged) (whole : (node : Node) → log_among turns node ≡ log_among done node ++ left node) where
  onward : (packets : List Packet) (t : Turn) (rest : List Turn) → ((node : Node) → Here done (t ∷ rest) (left node) node) → ((p : Packet) → IsAmong packets p → IsAmong (sent_among done) p) → IsExplained ctx packets t.node t.logged.call
      → (((node : Node) → Here done rest (left node) node) → ((p : Packet) → IsAmong (packets ++ sent_in t) p → IsAmong (sent_among done) p) → CanTake ctx done turns ⊎ ((node : Node) → left node ≡ []))
      → (ahead : List Logged) → log_among (t ∷ rest) t.node ≡ ahead ++ left t.node → AllByRecursion (IsSent (sent_among done) t.node) ahead → CanTake ctx done turns ⊎ ((node : Node) → left node ≡ [])
  onward packets t rest here among x go [] is sent =
      inl (record {
        node = t.node;
        next = t.logged;
        left = log_among rest t.node;
        is = whole t.node ∙ ap (λ (log : List Logged). log_among done t.node ++ log) (sym is ∙ own_first t rest);
        explained = explained_more ctx packets (sent_among done) t.node t.logged.call among x;
      })
  onward packets t rest here among x go (l ∷ ahead) is sent =
      let both : t.logged ∷ log_among rest t.node ≡ l ∷ (ahead ++ left t.node) = sym (own_first t rest) ∙ is in
      let first : t.logged ≡ l = same_first t.logged l (log_among rest t.node) (ahead ++ left t.node) both in
      let own : Here done rest (left t.node) t.node = record { ahead = ahead; is = same_rest t.logged l (log_among rest t.node) (ahead ++ left t.node) both; sent = sent.1 } in
      let new : IsSent (sent_among done) t.node t.logged = subst (IsSent (sent_among done) t.node) (sym first) sent.0 in
      go
      (λ node. elim (told_apart t.node node) [
        | inl same ↦ subst (λ (y : Node). Here done rest (left y) y) same.1 own
        | inr other ↦
            let h = here node in
            record { ahead = h.ahead; is = sym (ap (λ (b : Bool). cond b (t.logged ∷ []) [] ++ log_among rest node) other.0) ∙ h.is; sent = h.sent }
      ])
      (λ p a. elim (among_split packets (sent_in t) p a) [
        | inl old ↦ among p old
        | inr fresh ↦ all_at (IsAmong (sent_among done)) (sent_in t) fresh.number p new fresh.is
      ])

  walk : (packets : List Packet) (rest : List Turn) → ((node : Node) → Here done rest (left node) node) → ((p : Packet) → IsAmong packets p → IsAmong (sent_among done) p) → Explained ctx packets rest → CanTake ctx done turns ⊎ ((node : Node) → left node ≡ [])
  walk packets [] here among x = inr (λ node. nothing_left (here node).ahead (left node) (here node).is)
  walk packets (t ∷ rest) here among x =
      let h = here t.node in
      onward packets t rest here among x.0 (λ later more. walk (packets ++ sent_in t) rest later more x.1) h.ahead h.is h.sent

pub goes_on_explained : (ctx : Context) (s : WorldSettings) (done turns : List Turn) → IsExplainedOrder ctx s turns → BeginsAs done turns → GoesOn ctx done turns
goes_on_explained ctx s done turns x begins =
    let left : Node → List Logged = λ node. (begins node).0 in
    elim (walk ctx done turns left (λ node. (begins node).1) [] turns (λ node. record { ahead = log_among done node; is = (begins node).1; sent = sent_of done node }) (λ p a. absurd (nothing_numbered a.number p a.is)) x.explained) [
      | inl can ↦ inl can
      | inr none ↦ inr (λ node. (begins node).1 ∙ (ap (λ (log : List Logged). log_among done node ++ log) (none node) ∙ Rattle.std.proofs.lemmas.List.append-nil (log_among done node)))
    ]

-- ---- disks and files

order_of : (ctx : Context) (s : WorldSettings) (logs : Node → List Logged) (said : List Packet) (events : List Event) → Laws ctx → Accepts ctx s → HasRunHere ctx s logs said events → HasOrder ctx s logs
order_of ctx s logs said events laws accepts h = record {
  turns = outside ctx (opening s) events;
  order = runs_explained ctx s events laws accepts;
  pharmacies = λ k. pharmacy_logs ctx (opening s) events k ∙ h.pharmacies k;
  payers = λ k. payer_logs ctx (opening s) events k ∙ h.payers k;
}

pub disks_order : (ctx : Context) (s : WorldSettings) (moves : List Move) → Laws ctx → Accepts ctx s → HasOrder ctx s (on_disks (light ctx s moves))
disks_order ctx s moves laws accepts =
    let c = course_here ctx s moves [] in
    order_of ctx s (on_disks (light ctx s moves)) (light ctx s moves).wire c.before laws accepts c.first

pub files_order : (ctx : Context) (s : WorldSettings) (moves : List Move) → Laws ctx → Accepts ctx s → HasOrder ctx s (in_files (light ctx s moves))
files_order ctx s moves laws accepts =
    let c = course_here ctx s moves [] in
    subst (λ (ms : List Move). HasOrder ctx s (in_files (light ctx s ms))) (Rattle.std.proofs.lemmas.List.append-nil moves)
    (order_of ctx s (in_files (light ctx s (moves ++ []))) (light ctx s (moves ++ [])).wire ((c.before ++ c.between) ++ c.beyond) laws accepts c.files)

-- ---- other routes

heard_over : (ctx : Context) (route : ℕ → RouteKey → Option ℕ) (packets : List Packet) (n m : ℕ) (from : Node) (bytes : List ℕ) → RejectionStays ctx route (Pharmacy n) (Take from bytes) → Heard ctx packets n m bytes → Heard (rerouted ctx route) packets n m bytes
heard_over ctx route packets n m from bytes stays (Heard_answer payer a) = Heard_answer payer a
heard_over ctx route packets n m from bytes stays (Heard_rejection request e h a reads asks readable_is none spelled) =
    Heard_rejection request e h a reads asks (reads_same ctx route e.payload ∙ readable_is) (stays e h spelled asks readable_is none) spelled

call_over : (ctx : Context) (route : ℕ → RouteKey → Option ℕ) (packets : List Packet) (node : Node) (call : Call) → RejectionStays ctx route node call → IsExplained ctx packets node call → IsExplained (rerouted ctx route) packets node call
call_over ctx route packets (Pharmacy n) (Take from bytes) stays x = (x.0, x.1, heard_over ctx route packets n x.0 from bytes stays x.2)
call_over ctx route packets (Pharmacy n) (Submit text) stays x = x
call_over ctx route packets (Pharmacy n) Tick stays x = x
call_over ctx route packets (Pharmacy n) Stop stays x = x
call_over ctx route packets (Pharmacy n) Start stays x = x
call_over ctx route packets (Pharmacy n) (Revise (OfPlan change)) stays x = x
call_over ctx route packets (Pharmacy n) (Revise (OfRule rule)) stays x = x
call_over ctx route packets (Pharmacy n) (Revise (OfCap most)) stays x = x
call_over ctx route packets (Pharmacy n) (Adjudicate from bytes advice) stays x = x
call_over ctx route packets (Payer n) (Take from bytes) stays x = x
call_over ctx route packets (Payer n) (Submit text) stays x = x
call_over ctx route packets (Payer n) Tick stays x = x
call_over ctx route packets (Payer n) Stop stays x = x
call_over ctx route packets (Payer n) Start stays x = x
call_over ctx route packets (Payer n) (Revise (OfPlan change)) stays x = x
call_over ctx route packets (Payer n) (Revise (OfRule rule)) stays x = x
call_over ctx route packets (Payer n) (Revise (OfCap most)) stays x = x
call_over ctx route packets (Payer n) (Adjudicate from bytes advice) stays x = x
call_over ctx route packets (Switch m) call stays x = x

pub goes_over : (ctx : Context) (route : ℕ → RouteKey → Option ℕ) (packets : List Packet) (turns : List Turn) → AllByRecursion (λ (t : Turn). RejectionStays ctx route t.node t.logged.call) turns
    → Explained ctx packets turns → Explained (rerouted ctx route) packets turns
goes_over ctx route packets [] stays x = tt
goes_over ctx route packets (t ∷ turns) stays x = (call_over ctx route packets t.node t.logged.call stays.0 x.0, goes_over ctx route (packets ++ sent_in t) turns stays.1 x.1)
