-- Where packets, answers in tables and calls of a run come from: what pharmacies and payers send comes so.
use Rattle.std.proofs.Common.{◌≡◌, ℕ, ◌+◌, ◌≤◌, arith, true, false, List, [], ◌∷◌, ◌++◌, map, length, Some, Result, Ok, Err, refl, sym, ap, ◌∙◌, subst}
use Rattle.std.specs.Prelude.{⊤, option_map}
use Rattle.std.specs.List.{AllByRecursion}
use Rattle.claim_model.specs.Words.{TxnId, Envelope, EnvelopeFault}
use Rattle.claim_model.specs.Context.{Context}
use Rattle.claim_model.specs.Readable.{is_request, request_envelope, answer_envelope}
use Rattle.claim_model.specs.Numbered.{numbered}
use Rattle.claim_model.specs.Journal.{Journal, JournalAtRest, Entry, Sending, Submitted, kept_entry, submitted, ticked, due, heard, stopped, started, is_rule, ruled_anew}
use Rattle.claim_model.specs.Table.{Slot, Table}
use Rattle.claim_model.specs.Node.{Node, Pharmacy, Switch, Payer, Power, Up, AtRest, Sent, Call, Submit, Tick, Take, Stop, Start, Revise, OfPlan, OfRule, OfCap, Adjudicate, Done, to_switch, pharmacy_takes, pharmacy_step}
use Rattle.claim_model.specs.World.{World, Packet, Event, Submission, Ticking, Delivery, Stopping, Starting, Revising, Adjudication, packet_from}
use Rattle.claim_model.specs.Settings.{WorldSettings}
use Rattle.claim_model.specs.Nodes.{AnyNode, OfPharmacy, OfSwitch, OfPayer, node_step, node_at, Asked, taking, adjudicating, asked}
use Rattle.claim_model.specs.Promises.{Reached}
use Rattle.claim_model.specs.Limits.{most_entries}
use Rattle.claim_model.specs.Carried.{Carries}
use Rattle.claim_model.proofs.Given.{pharmacy_given}
use Rattle.claim_model.proofs.Lists.{numbered_within, numbered_map, all_at, all_from, all_weaker, all_map}
use Rattle.claim_model.proofs.Options.{map_some, same_some, same_ok}
use Rattle.claim_model.proofs.Tests.{readable_parts}
use Rattle.claim_model.proofs.Sound.{id_at, SoundPacket}
use Rattle.claim_model.proofs.Journals.{Asks, submitted_enters, submitted_is, numbered_middle, due_asks}
use Rattle.claim_model.proofs.PharmacyStep.{after_submit_done, after_hearing_done, done_same, rule_taken}
use Rattle.claim_model.proofs.Runs.{reached_sound}
use Rattle.crash_safety.specs.Runs.{IsAmong}
use Rattle.crash_safety.specs.Explained.{packet, Heard, Answer as Heard_answer, Rejection as Heard_rejection, IsExplained}
use Rattle.crash_safety.proofs.Lighter.{among_left, among_right}
use Rattle.crash_safety.proofs.Sources.{NoSwitch, OfItsKind, with_advice, pharmacy_made, payer_made, PayerTook, payer_took, payer_advised, payer_silent, reply_reads}

-- ---- what is known of a packet

-- where a packet comes from, by its sender and its addressee
abbrev pub TrackedFrom : Context → List Packet → Node → Node → List ℕ → Type 0
TrackedFrom ctx packets (Pharmacy n) to bytes =
    IsAmong packets (packet (Pharmacy n) to bytes) × ((m : ℕ) × (to ≡ Switch m)) × ((e : Envelope) → ctx.read_envelope bytes ≡ Ok e → (is_request e ≡ true) × (e.id.pharmacy ≡ n))
TrackedFrom ctx packets (Payer n) to bytes = IsAmong packets (packet (Payer n) to bytes) × ((m : ℕ) × (to ≡ Switch m)) × ((e : Envelope) → ctx.read_envelope bytes ≡ Ok e → is_request e ≡ false)
TrackedFrom ctx packets (Switch m) (Payer n) bytes = (k : ℕ) × IsAmong packets (packet (Pharmacy k) (Switch m) bytes)
TrackedFrom ctx packets (Switch m) (Pharmacy n) bytes = Heard ctx packets n m bytes
TrackedFrom ctx packets (Switch m) (Switch k) bytes = ⊥

abbrev pub TrackedPacket : Context → List Packet → Packet → Type 0
TrackedPacket ctx packets p = TrackedFrom ctx packets p.from p.to p.bytes

-- where the answer of a slot comes from
abbrev pub SlotSource : Context → List Packet → ℕ → TxnId × Slot → Type 0
SlotSource ctx packets m x = (a : List ℕ) → x.1.answer ≡ Some a → (k : ℕ) × IsAmong packets (packet (Payer k) (Switch m) (ctx.envelope (answer_envelope x.0 a)))

abbrev pub TableSource : Context → List Packet → ℕ → Power Table ℕ → Type 0
TableSource ctx packets m (Up t) = AllByRecursion (SlotSource ctx packets m) t.entries
TableSource ctx packets m (AtRest cap) = ⊤

pub record Tracked (ctx : Context) (s : WorldSettings) (w : World) (packets : List Packet) : Type 0 where
  pub reached : Reached ctx s w
  pub each : (p : Packet) → IsAmong w.packets p → TrackedPacket ctx packets p
  pub tables : (m : ℕ) (x : Power Table ℕ) → node_at w (Switch m) ≡ Some (OfSwitch x) → TableSource ctx packets m x

-- with more packets

heard_later : (ctx : Context) (packets more : List Packet) (n m : ℕ) (bytes : List ℕ) → Heard ctx packets n m bytes → Heard ctx (packets ++ more) n m bytes
heard_later ctx packets more n m bytes (Heard_answer payer a) = Heard_answer payer (among_left packets more (packet (Payer payer) (Switch m) bytes) a)
heard_later ctx packets more n m bytes (Heard_rejection request e h a reads asks readable_is route spelled) =
    Heard_rejection request e h (among_left packets more (packet (Pharmacy n) (Switch m) request) a) reads asks readable_is route spelled

pub from_later : (ctx : Context) (packets more : List Packet) (from to : Node) (bytes : List ℕ) → TrackedFrom ctx packets from to bytes → TrackedFrom ctx (packets ++ more) from to bytes
from_later ctx packets more (Pharmacy n) to bytes x = (among_left packets more (packet (Pharmacy n) to bytes) x.0, x.1, x.2)
from_later ctx packets more (Payer n) to bytes x = (among_left packets more (packet (Payer n) to bytes) x.0, x.1, x.2)
from_later ctx packets more (Switch m) (Payer n) bytes x = (x.0, among_left packets more (packet (Pharmacy x.0) (Switch m) bytes) x.1)
from_later ctx packets more (Switch m) (Pharmacy n) bytes x = heard_later ctx packets more n m bytes x
from_later ctx packets more (Switch m) (Switch k) bytes x = x

slot_later : (ctx : Context) (packets more : List Packet) (m : ℕ) (x : TxnId × Slot) → SlotSource ctx packets m x → SlotSource ctx (packets ++ more) m x
slot_later ctx packets more m x f a e = let y = f a e in (y.0, among_left packets more (packet (Payer y.0) (Switch m) (ctx.envelope (answer_envelope x.0 a))) y.1)

pub table_later : (ctx : Context) (packets more : List Packet) (m : ℕ) (x : Power Table ℕ) → TableSource ctx packets m x → TableSource ctx (packets ++ more) m x
table_later ctx packets more m (Up t) all = all_weaker (SlotSource ctx packets m) (SlotSource ctx (packets ++ more) m) (slot_later ctx packets more m) t.entries all
table_later ctx packets more m (AtRest cap) all = tt

-- ---- what comes to a node

abbrev pub CallTracked : Context → World → List Packet → Node → Call → Type 0
CallTracked ctx w packets node (Take from bytes) = TrackedFrom ctx packets from node bytes × Carries ctx w bytes
CallTracked ctx w packets node (Submit text) = (n : ℕ) × (node ≡ Pharmacy n)
CallTracked ctx w packets node Tick = (n : ℕ) × (node ≡ Pharmacy n)
CallTracked ctx w packets node Stop = ⊤
CallTracked ctx w packets node Start = ⊤
CallTracked ctx w packets node (Revise revision) = ⊤
CallTracked ctx w packets node (Adjudicate from bytes advice) = TrackedFrom ctx packets from node bytes × Carries ctx w bytes

abbrev AskedTracked : Context → World → List Packet → Asked → Type 0
AskedTracked ctx w packets a = CallTracked ctx w packets a.node a.call

pub asked_tracked : (ctx : Context) (s : WorldSettings) (w : World) (packets : List Packet) (event : Event) (a : Asked) → Tracked ctx s w packets → asked w.packets event ≡ Some a → AskedTracked ctx w packets a
asked_tracked ctx s w packets (Submission n text) a x e = subst (AskedTracked ctx w packets) (same_some (record { node = Pharmacy n; call = Submit text }) a e) (n, refl)
asked_tracked ctx s w packets (Ticking n) a x e = subst (AskedTracked ctx w packets) (same_some (record { node = Pharmacy n; call = Tick }) a e) (n, refl)
asked_tracked ctx s w packets (Delivery k) a x e =
    let t = map_some taking (numbered w.packets k) a e in
    let there : IsAmong w.packets t.0 = record { number = k; is = t.1 } in
    subst (AskedTracked ctx w packets) t.2 (x.each t.0 there, all_at (SoundPacket ctx w) w.packets k t.0 (reached_sound ctx s w x.reached).packets t.1)
asked_tracked ctx s w packets (Stopping node) a x e = subst (AskedTracked ctx w packets) (same_some (record { node = node; call = Stop }) a e) tt
asked_tracked ctx s w packets (Starting node) a x e = subst (AskedTracked ctx w packets) (same_some (record { node = node; call = Start }) a e) tt
asked_tracked ctx s w packets (Revising node revision) a x e = subst (AskedTracked ctx w packets) (same_some (record { node = node; call = Revise revision }) a e) tt
asked_tracked ctx s w packets (Adjudication k advice) a x e =
    let t = map_some (adjudicating advice) (numbered w.packets k) a e in
    let there : IsAmong w.packets t.0 = record { number = k; is = t.1 } in
    subst (AskedTracked ctx w packets) t.2 (x.each t.0 there, all_at (SoundPacket ctx w) w.packets k t.0 (reached_sound ctx s w x.reached).packets t.1)

pharmacy_no_payer : (n m : ℕ) → Pharmacy n ≡ Payer m → ⊥
pharmacy_no_payer n m e = cc

takes_explained : (ctx : Context) (packets : List Packet) (node from : Node) (bytes : List ℕ) → NoSwitch node → TrackedFrom ctx packets from node bytes → IsExplained ctx packets node (Take from bytes)
takes_explained ctx packets (Switch m) from bytes d x = absurd (d m refl)
takes_explained ctx packets (Pharmacy n) (Pharmacy k) bytes d x = absurd (d x.1.0 x.1.1)
takes_explained ctx packets (Pharmacy n) (Payer k) bytes d x = absurd (d x.1.0 x.1.1)
takes_explained ctx packets (Pharmacy n) (Switch m) bytes d x = (m, refl, x)
takes_explained ctx packets (Payer n) (Pharmacy k) bytes d x = absurd (d x.1.0 x.1.1)
takes_explained ctx packets (Payer n) (Payer k) bytes d x = absurd (d x.1.0 x.1.1)
takes_explained ctx packets (Payer n) (Switch m) bytes d x = (m, refl, x)

pub explained_of : (ctx : Context) (w : World) (packets : List Packet) (node : Node) (call : Call) → NoSwitch node → OfItsKind node call → CallTracked ctx w packets node call → IsExplained ctx packets node call
explained_of ctx w packets node (Take from bytes) d o x = takes_explained ctx packets node from bytes d x.0
explained_of ctx w packets node (Adjudicate from bytes advice) d o x = with_advice ctx packets node from bytes advice (o.advice from bytes advice refl) (takes_explained ctx packets node from bytes d x.0)
explained_of ctx w packets (Pharmacy n) (Submit text) d o x = tt
explained_of ctx w packets (Pharmacy n) Tick d o x = tt
explained_of ctx w packets (Pharmacy n) Stop d o x = tt
explained_of ctx w packets (Pharmacy n) Start d o x = tt
explained_of ctx w packets (Pharmacy n) (Revise (OfPlan change)) d o x = let p = o.plan change refl in absurd (pharmacy_no_payer n p.0 p.1)
explained_of ctx w packets (Pharmacy n) (Revise (OfRule rule)) d o x = tt
explained_of ctx w packets (Pharmacy n) (Revise (OfCap most)) d o x = let p = o.cap most refl in absurd (d p.0 p.1)
explained_of ctx w packets (Payer n) (Submit text) d o x = absurd (pharmacy_no_payer x.0 n (sym x.1))
explained_of ctx w packets (Payer n) Tick d o x = absurd (pharmacy_no_payer x.0 n (sym x.1))
explained_of ctx w packets (Payer n) Stop d o x = tt
explained_of ctx w packets (Payer n) Start d o x = tt
explained_of ctx w packets (Payer n) (Revise (OfPlan change)) d o x = tt
explained_of ctx w packets (Payer n) (Revise (OfRule rule)) d o x = let p = o.rule rule refl in absurd (pharmacy_no_payer p.0 n (sym p.1))
explained_of ctx w packets (Payer n) (Revise (OfCap most)) d o x = let p = o.cap most refl in absurd (d p.0 p.1)
explained_of ctx w packets (Switch m) (Submit text) d o x = absurd (d m refl)
explained_of ctx w packets (Switch m) Tick d o x = absurd (d m refl)
explained_of ctx w packets (Switch m) Stop d o x = absurd (d m refl)
explained_of ctx w packets (Switch m) Start d o x = absurd (d m refl)
explained_of ctx w packets (Switch m) (Revise revision) d o x = absurd (d m refl)

pub made_by_pharmacy : (ctx : Context) (w : World) (n : ℕ) (call : Call) (now next : AnyNode) (sent : List Sent) → node_at w (Pharmacy n) ≡ Some now → node_step ctx now call ≡ Done next sent → OfItsKind (Pharmacy n) call
made_by_pharmacy ctx w n call now next sent is steps =
    let j = map_some OfPharmacy (numbered w.pharmacies n) now is in
    pharmacy_made ctx n j.0 call next sent (ap (λ (x : AnyNode). node_step ctx x call) j.2 ∙ steps)

pub made_by_payer : (ctx : Context) (w : World) (n : ℕ) (call : Call) (now next : AnyNode) (sent : List Sent) → node_at w (Payer n) ≡ Some now → node_step ctx now call ≡ Done next sent → OfItsKind (Payer n) call
made_by_payer ctx w n call now next sent is steps =
    let b = map_some OfPayer (numbered w.payers n) now is in
    payer_made ctx n b.0 call next sent (ap (λ (x : AnyNode). node_step ctx x call) b.2 ∙ steps)

-- ---- what pharmacies send

-- to a switch, and a request of their own
pub record AsksSwitch (ctx : Context) (n : ℕ) (x : Sent) : Type 0 where
  pub switch : ℕ
  pub to_it : x.to ≡ Switch switch
  pub reads : (e : Envelope) → ctx.read_envelope x.bytes ≡ Ok e → (is_request e ≡ true) × (e.id.pharmacy ≡ n)

asks_switch : (ctx : Context) (s : WorldSettings) (v : World) (n : ℕ) (j : Journal) (x : Sending) → Reached ctx s v → node_at v (Pharmacy n) ≡ Some (OfPharmacy (Up j)) → Asks ctx j x → AsksSwitch ctx n (to_switch x)
unfolding stopped
asks_switch ctx s v n j x r at a =
    let p = map_some OfPharmacy (numbered v.pharmacies n) (OfPharmacy (Up j)) at in
    let same : p.0 ≡ Up j = let f : OfPharmacy p.0 ≡ OfPharmacy (Up j) = p.2 in cc in
    let is : numbered v.pharmacies n ≡ Some (Up j) = p.1 ∙ ap (λ (y : Power Journal JournalAtRest). Some y) same in
    let sj = (reached_sound ctx s v r).pharmacies n (Up j) is in
    let stands : numbered (map kept_entry j.entries) a.number ≡ Some (kept_entry a.entry) = numbered_map kept_entry j.entries a.number ∙ ap (option_map kept_entry) a.stands in
    let e = request_envelope (id_at n a.number) a.entry.request in
    let g = pharmacy_given ctx s n j.settings r.accepts sj.settings in
    let b = numbered_within (map kept_entry j.entries) a.number (kept_entry a.entry) stands in
    let cap : j.settings.cap ≤ most_entries = g.2.cap in
    let room : length (map kept_entry j.entries) ≤ j.settings.cap = sj.room in
    let y = sj.entries a.number (kept_entry a.entry) stands in
    let back : ctx.read_envelope (ctx.envelope e) ≡ Ok e =
    r.laws.envelopes e (record { pharmacy = g.0; pharmacy_fits = omega (arith, g.1); number = b.0; number_fits = omega (arith, b.1); payload = (readable_parts ctx a.entry.request y.header y.reads).0 }) in
    let bytes : x.bytes ≡ ctx.envelope e = a.bytes ∙ ap (λ (m : ℕ). ctx.envelope (request_envelope (id_at m a.number) a.entry.request)) sj.number in
    record {
      switch = x.switch;
      to_it = refl;
      reads = λ f reads.
          let same_e : e ≡ f = same_ok e f (sym back ∙ (ap ctx.read_envelope (sym bytes) ∙ reads)) in
          (ap is_request (sym same_e), ap (λ (y : Envelope). y.id.pharmacy) (sym same_e));
    }

submitted_asks : (ctx : Context) (j : Journal) (text : List ℕ) (s : Submitted) → submitted ctx j text ≡ Ok s → Asks ctx s.journal s.sent
submitted_asks ctx j text s e =
    let f = submitted_enters ctx j text s e in
    let is = submitted_is ctx j text s e in
    let entry : Entry = record { request = text; state = Rattle.claim_model.specs.Journal.Waits 0 } in
    record {
      number = length j.entries + 1;
      entry = entry;
      stands = ap (λ (q : Journal). numbered q.entries (length j.entries + 1)) is ∙ numbered_middle j.entries entry [];
      bytes = ap (λ (q : Sending). q.bytes) f.2 ∙ ap (λ (q : Journal). ctx.envelope (request_envelope (record { pharmacy = q.number; number = length j.entries + 1 }) text)) (sym is);
    }

pub pharmacy_asks : (ctx : Context) (s : WorldSettings) (v : World) (n : ℕ) (x next : Power Journal JournalAtRest) (call : Call) (sent : List Sent) → Reached ctx s v → node_at v (Pharmacy n) ≡ Some (OfPharmacy next) → pharmacy_step ctx x call ≡ Done next sent
    → AllByRecursion (AsksSwitch ctx n) sent
pharmacy_asks ctx s v n (Up j) next (Submit text) sent r at e =
    let d = after_submit_done (submitted ctx j text) next sent e in
    subst (AllByRecursion (AsksSwitch ctx n)) (sym d.3)
    (asks_switch ctx s v n d.0.journal d.0.sent r (at ∙ ap (λ (y : Power Journal JournalAtRest). Some (OfPharmacy y)) d.2) (submitted_asks ctx j text d.0 d.1), tt)
pharmacy_asks ctx s v n (Up j) next Tick sent r at e =
    let d = done_same (Up (ticked j)) next (map to_switch (due ctx (ticked j))) sent e in
    subst (AllByRecursion (AsksSwitch ctx n)) d.1
    (all_map (Asks ctx (ticked j)) (AsksSwitch ctx n) to_switch
    (λ x a. asks_switch ctx s v n (ticked j) x r (at ∙ ap (λ (y : Power Journal JournalAtRest). Some (OfPharmacy y)) (sym d.0)) a) (due ctx (ticked j)) (due_asks ctx (ticked j)))
pharmacy_asks ctx s v n (Up j) next (Take from bytes) sent r at e = hears (ctx.read_envelope bytes) e
  where
    hears : (o : Result Envelope EnvelopeFault) → pharmacy_takes ctx j o ≡ Done next sent → AllByRecursion (AsksSwitch ctx n) sent
    hears (Err f) e = absurd cc
    hears (Ok q) e = subst (AllByRecursion (AsksSwitch ctx n)) (sym (after_hearing_done (heard ctx j q) next sent e).3) tt
pharmacy_asks ctx s v n (Up j) next Stop sent r at e = subst (AllByRecursion (AsksSwitch ctx n)) (done_same (AtRest (stopped j)) next [] sent e).1 tt
pharmacy_asks ctx s v n (AtRest j) next Start sent r at e = subst (AllByRecursion (AsksSwitch ctx n)) (done_same (Up (started j)) next [] sent e).1 tt
pharmacy_asks ctx s v n (Up j) next Start sent r at e = absurd cc
pharmacy_asks ctx s v n (Up j) next (Revise (OfPlan change)) sent r at e = absurd cc
pharmacy_asks ctx s v n (Up j) next (Revise (OfRule rule)) sent r at e = subst (AllByRecursion (AsksSwitch ctx n)) (rule_taken (is_rule ctx.switches rule) (Up (ruled_anew rule j)) next [] sent e).2 tt
pharmacy_asks ctx s v n (Up j) next (Revise (OfCap most)) sent r at e = absurd cc
pharmacy_asks ctx s v n (Up j) next (Adjudicate from bytes advice) sent r at e = absurd cc
pharmacy_asks ctx s v n (AtRest j) next (Submit text) sent r at e = absurd cc
pharmacy_asks ctx s v n (AtRest j) next Tick sent r at e = absurd cc
pharmacy_asks ctx s v n (AtRest j) next (Take from bytes) sent r at e = absurd cc
pharmacy_asks ctx s v n (AtRest j) next Stop sent r at e = absurd cc
pharmacy_asks ctx s v n (AtRest j) next (Revise (OfPlan change)) sent r at e = absurd cc
pharmacy_asks ctx s v n (AtRest j) next (Revise (OfRule rule)) sent r at e = absurd cc
pharmacy_asks ctx s v n (AtRest j) next (Revise (OfCap most)) sent r at e = absurd cc
pharmacy_asks ctx s v n (AtRest j) next (Adjudicate from bytes advice) sent r at e = absurd cc

-- a node's own packets are among those that it sent
own_sent : (ctx : Context) (packets : List Packet) (node : Node) (sent : List Sent) → AllByRecursion (λ (x : Sent). IsAmong (packets ++ map (packet_from node) sent) (packet_from node x)) sent
own_sent ctx packets node sent =
    all_from (λ (x : Sent). IsAmong (packets ++ map (packet_from node) sent) (packet_from node x)) sent
    (λ k x e. among_right packets (map (packet_from node) sent) (packet_from node x)
    (record { number = k; is = numbered_map (packet_from node) sent k ∙ ap (option_map (packet_from node)) e }))

abbrev pub SentTracked : Context → List Packet → Node → Sent → Type 0
SentTracked ctx packets node x = TrackedFrom ctx packets node x.to x.bytes

both : {A : Type 0} (P Q R : A → Type 0) → ((a : A) → P a → Q a → R a) → (xs : List A) → AllByRecursion P xs → AllByRecursion Q xs → AllByRecursion R xs
both P Q R f [] a b = tt
both P Q R f (x ∷ xs) a b = (f x a.0 b.0, both P Q R f xs a.1 b.1)

pub pharmacy_tracked : (ctx : Context) (packets : List Packet) (n : ℕ) (sent : List Sent) → AllByRecursion (AsksSwitch ctx n) sent → AllByRecursion (SentTracked ctx (packets ++ map (packet_from (Pharmacy n)) sent) (Pharmacy n)) sent
pharmacy_tracked ctx packets n sent all =
    let later = packets ++ map (packet_from (Pharmacy n)) sent in
    both (AsksSwitch ctx n) (λ (x : Sent). IsAmong later (packet_from (Pharmacy n) x)) (SentTracked ctx later (Pharmacy n)) (λ x a b. (b, (a.switch, a.to_it), a.reads)) sent all (own_sent ctx packets (Pharmacy n) sent)

-- ---- what payers send

answer_no_request : (id : TxnId) (a : List ℕ) → is_request (answer_envelope id a) ≡ false
answer_no_request id a = refl

payer_reply : (ctx : Context) (s : WorldSettings) (w v : World) (packets : List Packet) (n : ℕ) (from : Node) (bytes : List ℕ) (next : AnyNode) (sent : List Sent) → Reached ctx s v → node_at v (Payer n) ≡ Some next → (m : ℕ) → from ≡ Switch m
    → PayerTook ctx w n from bytes next sent → AllByRecursion (SentTracked ctx (packets ++ map (packet_from (Payer n)) sent) (Payer n)) sent
payer_reply ctx s w v packets n from bytes next sent r at m same t =
    let later = packets ++ map (packet_from (Payer n)) sent in
    let id = t.carries.envelope.id in
    let a = t.answered_is.bytes in
    let reply : Sent = record { to = from; bytes = ctx.envelope (answer_envelope id a) } in
    let back = reply_reads ctx s w v n from bytes next sent r.laws r t at in
    let own : AllByRecursion (λ (x : Sent). IsAmong later (packet_from (Payer n) x)) (reply ∷ []) = subst (AllByRecursion (λ (x : Sent). IsAmong later (packet_from (Payer n) x))) t.sent_is (own_sent ctx packets (Payer n) sent) in
    subst (AllByRecursion (SentTracked ctx later (Payer n))) (sym t.sent_is)
    ((own.0, (m, same), λ e reads. ap is_request (sym (same_ok (answer_envelope id a) e (sym back ∙ reads))) ∙ answer_no_request id a), tt)

silent_tracked : (ctx : Context) (packets : List Packet) (n : ℕ) (sent : List Sent) → sent ≡ [] → AllByRecursion (SentTracked ctx packets (Payer n)) sent
silent_tracked ctx packets n sent e = subst (AllByRecursion (SentTracked ctx packets (Payer n))) (sym e) tt

pub payer_tracked : (ctx : Context) (s : WorldSettings) (w v : World) (packets : List Packet) (n : ℕ) (call : Call) (now next : AnyNode) (sent : List Sent) → Reached ctx s w → Reached ctx s v → node_at w (Payer n) ≡ Some now → node_at v (Payer n) ≡ Some next
    → node_step ctx now call ≡ Done next sent → CallTracked ctx w packets (Payer n) call → AllByRecursion (SentTracked ctx (packets ++ map (packet_from (Payer n)) sent) (Payer n)) sent
payer_tracked ctx s w v packets n (Take from bytes) now next sent r r' is at steps x =
    let t = payer_took ctx s w n from bytes now next sent r x.1 is steps in
    let f = takes_explained ctx packets (Payer n) from bytes (λ m e. cc) x.0 in
    payer_reply ctx s w v packets n from bytes next sent r' at f.0 f.1 t
payer_tracked ctx s w v packets n (Adjudicate from bytes advice) now next sent r r' is at steps x =
    let t = payer_advised ctx s w n from bytes advice now next sent r x.1 is steps in
    let f = takes_explained ctx packets (Payer n) from bytes (λ m e. cc) x.0 in
    payer_reply ctx s w v packets n from bytes next sent r' at f.0 f.1 t
payer_tracked ctx s w v packets n (Submit text) now next sent r r' is at steps x = absurd (pharmacy_no_payer x.0 n (sym x.1))
payer_tracked ctx s w v packets n Tick now next sent r r' is at steps x = absurd (pharmacy_no_payer x.0 n (sym x.1))
payer_tracked ctx s w v packets n Stop now next sent r r' is at steps x = silent_tracked ctx (packets ++ map (packet_from (Payer n)) sent) n sent (payer_silent ctx w n Stop now next sent (λ from bytes e. cc) (λ from bytes advice e. cc) is steps)
payer_tracked ctx s w v packets n Start now next sent r r' is at steps x = silent_tracked ctx (packets ++ map (packet_from (Payer n)) sent) n sent (payer_silent ctx w n Start now next sent (λ from bytes e. cc) (λ from bytes advice e. cc) is steps)
payer_tracked ctx s w v packets n (Revise revision) now next sent r r' is at steps x =
    silent_tracked ctx (packets ++ map (packet_from (Payer n)) sent) n sent (payer_silent ctx w n (Revise revision) now next sent (λ from bytes e. cc) (λ from bytes advice e. cc) is steps)
