-- The test decides what is explained.
use Rattle.std.proofs.Common.{◌≡◌, ℕ, zero, suc, Bool, true, false, ◌&&◌, List, [], ◌∷◌, Option, Some, None, Result, Ok, Err, refl, ap, ◌∙◌, subst, inl, inr}
use Rattle.std.specs.Prelude.{is_none, bytes_eq}
use Rattle.std.specs.List.{list_any}
use Rattle.std.proofs.lemmas.Bool.{and_parts, and_from, or_cases, or_left, or_right}
use Rattle.claim_model.specs.Words.{RequestHeader, Envelope, EnvelopeFault}
use Rattle.claim_model.specs.Context.{Context}
use Rattle.claim_model.specs.Readable.{readable, payer_for, rejection, is_request, answer_envelope}
use Rattle.claim_model.specs.Numbered.{numbered}
use Rattle.claim_model.specs.Node.{Node, Pharmacy, Switch, Payer, Call, Submit, Tick, Take, Stop, Start, Revise, OfPlan, OfRule, OfCap, Adjudicate}
use Rattle.claim_model.specs.World.{Packet}
use Rattle.claim_model.specs.Nodes.{same_node}
use Rattle.claim_model.proofs.Tests.{bytes_same, bytes_self}
use Rattle.claim_model.proofs.Names.{same_is, same_self}
use Rattle.crash_safety.specs.Runs.{IsAmong}
use Rattle.crash_safety.specs.Explained.{packet, Heard, Answer as Heard_answer, Rejection as Heard_rejection, IsExplained}
use Rattle.crash_safety.specs.Explains.{names_pharmacy, names_payer, answers_so, asks_so, rejected_by, rejected_in, rejected_so, hears_from, takes_from, explains}
use Rattle.crash_safety.proofs.Sound.{nothing_numbered}

-- ---- one of some packets

record Found (test : Packet → Bool) (packets : List Packet) : Type 0 where
  packet_is : Packet
  among : IsAmong packets packet_is
  passes : test packet_is ≡ true

further : (test : Packet → Bool) (q : Packet) (packets : List Packet) → Found test packets → Found test (q ∷ packets)
further test q packets f = record { packet_is = f.packet_is; among = Rattle.crash_safety.proofs.Courses.one_further packets f.packet_is q f.among; passes = f.passes }

found : (test : Packet → Bool) (packets : List Packet) → list_any test packets ≡ true → Found test packets
found test [] e = absurd cc
found test (q ∷ packets) e =
    elim (or_cases (test q) (list_any test packets) e) [
      | inl here ↦ record { packet_is = q; among = record { number = suc zero; is = refl }; passes = here }
      | inr later ↦ further test q packets (found test packets later)
    ]

passed : (test : Packet → Bool) (packets : List Packet) (p : Packet) → IsAmong packets p → test p ≡ true → list_any test packets ≡ true
passed test packets p a passes = by_number packets a.number a.is
  where
    by_number : (packets : List Packet) (k : ℕ) → numbered packets k ≡ Some p → list_any test packets ≡ true
    by_number packets zero e = absurd cc
    by_number [] (suc k) e = absurd (nothing_numbered (suc k) p e)
    by_number (q ∷ packets) (suc zero) e = let same : q ≡ p = cc in or_left (test q) (list_any test packets) (ap test same ∙ passes)
    by_number (q ∷ packets) (suc (suc k)) e = or_right (test q) (list_any test packets) (by_number packets (suc k) e)

same_packet : (q : Packet) (from to : Node) (bytes : List ℕ) → q.from ≡ from → q.to ≡ to → q.bytes ≡ bytes → q ≡ packet from to bytes
same_packet q from to bytes e f g = λ i. record { from = e i; to = f i; bytes = g i }

moved : (packets : List Packet) (q : Packet) (from to : Node) (bytes : List ℕ) → q.from ≡ from → q.to ≡ to → q.bytes ≡ bytes → IsAmong packets q → IsAmong packets (packet from to bytes)
moved packets q from to bytes e f g a = subst (IsAmong packets) (same_packet q from to bytes e f g) a

a_payer : (node : Node) → names_payer node ≡ true → (k : ℕ) × (node ≡ Payer k)
a_payer (Payer k) e = (k, refl)
a_payer (Pharmacy k) e = absurd cc
a_payer (Switch k) e = absurd cc

a_pharmacy : (node : Node) → names_pharmacy node ≡ true → (k : ℕ) × (node ≡ Pharmacy k)
a_pharmacy (Pharmacy k) e = (k, refl)
a_pharmacy (Payer k) e = absurd cc
a_pharmacy (Switch k) e = absurd cc

no_route : (o : Option ℕ) → is_none o ≡ true → o ≡ None
no_route None e = refl
no_route (Some k) e = absurd cc

-- ---- the test passes: explained

answered_so : (ctx : Context) (packets : List Packet) (n m : ℕ) (bytes : List ℕ) → Found (answers_so m bytes) packets → Heard ctx packets n m bytes
answered_so ctx packets n m bytes f =
    let q = f.packet_is in
    let a = and_parts (names_payer q.from) (same_node q.to (Switch m) && bytes_eq q.bytes bytes) f.passes in
    let b = and_parts (same_node q.to (Switch m)) (bytes_eq q.bytes bytes) a.1 in
    let k = a_payer q.from a.0 in
    Heard_answer k.0 (moved packets q (Payer k.0) (Switch m) bytes k.1 (same_is q.to (Switch m) b.0) (bytes_same q.bytes bytes b.1) f.among)

header_so : (ctx : Context) (packets : List Packet) (n m : ℕ) (bytes request : List ℕ) (e : Envelope) (o : Option RequestHeader) → IsAmong packets (packet (Pharmacy n) (Switch m) request) → ctx.read_envelope request ≡ Ok e → is_request e ≡ true
    → readable ctx e.payload ≡ o → rejected_by ctx bytes e o ≡ true → Heard ctx packets n m bytes
header_so ctx packets n m bytes request e None a reads asks readable_is passes = absurd cc
header_so ctx packets n m bytes request e (Some h) a reads asks readable_is passes =
    let c = and_parts (is_none (payer_for ctx e.id h)) (bytes_eq bytes (ctx.envelope (answer_envelope e.id (rejection ctx h)))) passes in
    Heard_rejection request e h a reads asks readable_is (no_route (payer_for ctx e.id h) c.0) (bytes_same bytes (ctx.envelope (answer_envelope e.id (rejection ctx h))) c.1)

envelope_so : (ctx : Context) (packets : List Packet) (n m : ℕ) (bytes request : List ℕ) (o : Result Envelope EnvelopeFault) → IsAmong packets (packet (Pharmacy n) (Switch m) request) → ctx.read_envelope request ≡ o → rejected_in ctx bytes o ≡ true → Heard ctx packets n m bytes
envelope_so ctx packets n m bytes request (Err f) a reads passes = absurd cc
envelope_so ctx packets n m bytes request (Ok e) a reads passes =
    let c = and_parts (is_request e) (rejected_by ctx bytes e (readable ctx e.payload)) passes in
    header_so ctx packets n m bytes request e (readable ctx e.payload) a reads c.0 refl c.1

refused_so : (ctx : Context) (packets : List Packet) (n m : ℕ) (bytes : List ℕ) → Found (rejected_so ctx n m bytes) packets → Heard ctx packets n m bytes
refused_so ctx packets n m bytes f =
    let q = f.packet_is in
    let a = and_parts (same_node q.from (Pharmacy n)) (same_node q.to (Switch m) && rejected_in ctx bytes (ctx.read_envelope q.bytes)) f.passes in
    let b = and_parts (same_node q.to (Switch m)) (rejected_in ctx bytes (ctx.read_envelope q.bytes)) a.1 in
    envelope_so ctx packets n m bytes q.bytes (ctx.read_envelope q.bytes) (moved packets q (Pharmacy n) (Switch m) q.bytes (same_is q.from (Pharmacy n) a.0) (same_is q.to (Switch m) b.0) refl f.among) refl b.1

heard_so : (ctx : Context) (packets : List Packet) (n : ℕ) (from : Node) (bytes : List ℕ) → hears_from ctx packets n from bytes ≡ true → IsExplained ctx packets (Pharmacy n) (Take from bytes)
heard_so ctx packets n (Pharmacy k) bytes e = absurd cc
heard_so ctx packets n (Payer k) bytes e = absurd cc
heard_so ctx packets n (Switch m) bytes e =
    elim (or_cases (list_any (answers_so m bytes) packets) (list_any (rejected_so ctx n m bytes) packets) e) [
      | inl answer ↦ (m, refl, answered_so ctx packets n m bytes (found (answers_so m bytes) packets answer))
      | inr refusal ↦ (m, refl, refused_so ctx packets n m bytes (found (rejected_so ctx n m bytes) packets refusal))
    ]

taken_so : (ctx : Context) (packets : List Packet) (n : ℕ) (from : Node) (bytes : List ℕ) → takes_from packets from bytes ≡ true → IsExplained ctx packets (Payer n) (Take from bytes)
taken_so ctx packets n (Pharmacy k) bytes e = absurd cc
taken_so ctx packets n (Payer k) bytes e = absurd cc
taken_so ctx packets n (Switch m) bytes e =
    let f = found (asks_so m bytes) packets e in
    let q = f.packet_is in
    let a = and_parts (names_pharmacy q.from) (same_node q.to (Switch m) && bytes_eq q.bytes bytes) f.passes in
    let b = and_parts (same_node q.to (Switch m)) (bytes_eq q.bytes bytes) a.1 in
    let k = a_pharmacy q.from a.0 in
    (m, refl, (k.0, moved packets q (Pharmacy k.0) (Switch m) bytes k.1 (same_is q.to (Switch m) b.0) (bytes_same q.bytes bytes b.1) f.among))

no_truth : (A : Type 0) → false ≡ true → A
no_truth A e = absurd cc

pub explains_only : (ctx : Context) (packets : List Packet) (node : Node) (call : Call) → explains ctx packets node call ≡ true → IsExplained ctx packets node call
explains_only ctx packets (Pharmacy n) (Take from bytes) e = heard_so ctx packets n from bytes e
explains_only ctx packets (Pharmacy n) (Submit text) e = tt
explains_only ctx packets (Pharmacy n) Tick e = tt
explains_only ctx packets (Pharmacy n) Stop e = tt
explains_only ctx packets (Pharmacy n) Start e = tt
explains_only ctx packets (Pharmacy n) (Revise (OfPlan change)) e = no_truth ⊥ e
explains_only ctx packets (Pharmacy n) (Revise (OfRule rule)) e = tt
explains_only ctx packets (Pharmacy n) (Revise (OfCap most)) e = no_truth ⊥ e
explains_only ctx packets (Pharmacy n) (Adjudicate from bytes advice) e = no_truth ⊥ e
explains_only ctx packets (Payer n) (Take from bytes) e = taken_so ctx packets n from bytes e
explains_only ctx packets (Payer n) (Submit text) e = no_truth ⊥ e
explains_only ctx packets (Payer n) Tick e = no_truth ⊥ e
explains_only ctx packets (Payer n) Stop e = tt
explains_only ctx packets (Payer n) Start e = tt
explains_only ctx packets (Payer n) (Revise (OfPlan change)) e = tt
explains_only ctx packets (Payer n) (Revise (OfRule rule)) e = no_truth ⊥ e
explains_only ctx packets (Payer n) (Revise (OfCap most)) e = no_truth ⊥ e
explains_only ctx packets (Payer n) (Adjudicate from bytes advice) e = taken_so ctx packets n from bytes e
explains_only ctx packets (Switch m) call e = no_truth ⊥ e

-- ---- explained: the test passes

passes_answer : (m : ℕ) (bytes : List ℕ) (k : ℕ) → answers_so m bytes (packet (Payer k) (Switch m) bytes) ≡ true
passes_answer m bytes k = and_from (same_node (Switch m) (Switch m)) (bytes_eq bytes bytes) (same_self (Switch m)) (bytes_self bytes)

passes_asks : (m : ℕ) (bytes : List ℕ) (k : ℕ) → asks_so m bytes (packet (Pharmacy k) (Switch m) bytes) ≡ true
passes_asks m bytes k = and_from (same_node (Switch m) (Switch m)) (bytes_eq bytes bytes) (same_self (Switch m)) (bytes_self bytes)

passes_rejection : (ctx : Context) (n m : ℕ) (bytes request : List ℕ) (e : Envelope) (h : RequestHeader) → ctx.read_envelope request ≡ Ok e → is_request e ≡ true → readable ctx e.payload ≡ Some h → payer_for ctx e.id h ≡ None
    → bytes ≡ ctx.envelope (answer_envelope e.id (rejection ctx h)) → rejected_so ctx n m bytes (packet (Pharmacy n) (Switch m) request) ≡ true
passes_rejection ctx n m bytes request e h reads asks readable_is route spelled =
    let fixed = ctx.envelope (answer_envelope e.id (rejection ctx h)) in
    let same : bytes_eq bytes fixed ≡ true = ap (λ (b : List ℕ). bytes_eq b fixed) spelled ∙ bytes_self fixed in
    let by : rejected_by ctx bytes e (Some h) ≡ true = and_from (is_none (payer_for ctx e.id h)) (bytes_eq bytes fixed) (ap is_none route) same in
    let into : rejected_in ctx bytes (Ok e) ≡ true = and_from (is_request e) (rejected_by ctx bytes e (readable ctx e.payload)) asks (ap (rejected_by ctx bytes e) readable_is ∙ by) in
    and_from (same_node (Pharmacy n) (Pharmacy n)) (same_node (Switch m) (Switch m) && rejected_in ctx bytes (ctx.read_envelope request)) (same_self (Pharmacy n))
    (and_from (same_node (Switch m) (Switch m)) (rejected_in ctx bytes (ctx.read_envelope request)) (same_self (Switch m)) (ap (rejected_in ctx bytes) reads ∙ into))

heard_passes : (ctx : Context) (packets : List Packet) (n m : ℕ) (bytes : List ℕ) → Heard ctx packets n m bytes → hears_from ctx packets n (Switch m) bytes ≡ true
heard_passes ctx packets n m bytes (Heard_answer k a) =
    or_left (list_any (answers_so m bytes) packets) (list_any (rejected_so ctx n m bytes) packets) (passed (answers_so m bytes) packets (packet (Payer k) (Switch m) bytes) a (passes_answer m bytes k))
heard_passes ctx packets n m bytes (Heard_rejection request e h a reads asks readable_is route spelled) =
    or_right (list_any (answers_so m bytes) packets) (list_any (rejected_so ctx n m bytes) packets)
    (passed (rejected_so ctx n m bytes) packets (packet (Pharmacy n) (Switch m) request) a (passes_rejection ctx n m bytes request e h reads asks readable_is route spelled))

pub explains_all : (ctx : Context) (packets : List Packet) (node : Node) (call : Call) → IsExplained ctx packets node call → explains ctx packets node call ≡ true
explains_all ctx packets (Pharmacy n) (Take from bytes) x = ap (λ (f : Node). hears_from ctx packets n f bytes) x.1 ∙ heard_passes ctx packets n x.0 bytes x.2
explains_all ctx packets (Pharmacy n) (Submit text) x = refl
explains_all ctx packets (Pharmacy n) Tick x = refl
explains_all ctx packets (Pharmacy n) Stop x = refl
explains_all ctx packets (Pharmacy n) Start x = refl
explains_all ctx packets (Pharmacy n) (Revise (OfPlan change)) x = absurd x
explains_all ctx packets (Pharmacy n) (Revise (OfRule rule)) x = refl
explains_all ctx packets (Pharmacy n) (Revise (OfCap most)) x = absurd x
explains_all ctx packets (Pharmacy n) (Adjudicate from bytes advice) x = absurd x
explains_all ctx packets (Payer n) (Take from bytes) x =
    ap (λ (f : Node). takes_from packets f bytes) x.1 ∙ passed (asks_so x.0 bytes) packets (packet (Pharmacy x.2.0) (Switch x.0) bytes) x.2.1 (passes_asks x.0 bytes x.2.0)
explains_all ctx packets (Payer n) (Submit text) x = absurd x
explains_all ctx packets (Payer n) Tick x = absurd x
explains_all ctx packets (Payer n) Stop x = refl
explains_all ctx packets (Payer n) Start x = refl
explains_all ctx packets (Payer n) (Revise (OfPlan change)) x = refl
explains_all ctx packets (Payer n) (Revise (OfRule rule)) x = absurd x
explains_all ctx packets (Payer n) (Revise (OfCap most)) x = absurd x
explains_all ctx packets (Payer n) (Adjudicate from bytes advice) x =
    ap (λ (f : Node). takes_from packets f bytes) x.1 ∙ passed (asks_so x.0 bytes) packets (packet (Pharmacy x.2.0) (Switch x.0) bytes) x.2.1 (passes_asks x.0 bytes x.2.0)
explains_all ctx packets (Switch m) call x = absurd x
