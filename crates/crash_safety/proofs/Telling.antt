-- What a pharmacy has heard was decided on the disks of that moment, and so stays decided.
use Rattle.std.proofs.Common.{◌≡◌, ℕ, Bool, true, false, cond, List, [], ◌∷◌, ◌++◌, Option, Some, None, Result, Ok, Err, refl, sym, ap, ◌∙◌, subst, inl, inr, append_assoc}
use Rattle.std.specs.List.{AllByRecursion}
use Rattle.std.proofs.lemmas.Bool.{cases_eq, cond-true}
use Rattle.claim_model.specs.Words.{TxnId, RequestHeader, Envelope, EnvelopeFault}
use Rattle.claim_model.specs.Context.{Context}
use Rattle.claim_model.specs.Laws.{Laws}
use Rattle.claim_model.specs.declared.refusal.Refusal.{Refusal}
use Rattle.claim_model.specs.Readable.{readable, payer_for, is_payer, rejection, answer_text, is_request}
use Rattle.claim_model.specs.Numbered.{numbered, renumbered}
use Rattle.claim_model.specs.Rows.{Row, Book}
use Rattle.claim_model.specs.Book.{row_of, answered_by, answered_readable, answered}
use Rattle.claim_model.specs.Journal.{RetryRule, Journal, JournalAtRest, Kept, Submitted, submitted, ticked, heard, stopped, started, is_rule, with_rule, ruled_anew}
use Rattle.claim_model.specs.Node.{Node, Pharmacy, Power, Up, AtRest, Call, Submit, Tick, Take, Stop, Start, Revise, OfPlan, OfRule, OfCap, Adjudicate, Done, Refused, after_submit, after_hearing, pharmacy_takes}
use Rattle.claim_model.specs.World.{World, Packet, Event, Submission, Ticking, Delivery, Stopping, Starting, Revising, Adjudication, run}
use Rattle.claim_model.specs.Settings.{WorldSettings, Accepts, opening}
use Rattle.claim_model.specs.Held.{journal_in, book_at, asked as submitted_under, row_at, decided, held}
use Rattle.claim_model.specs.Carried.{Carries, IsVouched}
use Rattle.claim_model.specs.Nodes.{AnyNode, OfPharmacy, OfSwitch, OfPayer, as_node, node_step, node_at, Asked, taking, adjudicating, asked}
use Rattle.claim_model.specs.Logs.{Logged, node_after, replay}
use Rattle.claim_model.proofs.Lists.{all_weaker, numbered_more, numbered_put, numbered_put_other, all_at}
use Rattle.claim_model.proofs.Options.{map_some, then_some, same_some}
use Rattle.claim_model.proofs.Tests.{bytes_self, payer_self}
use Rattle.claim_model.proofs.Sound.{id_at, SoundPacket, Sound}
use Rattle.claim_model.proofs.Decided.{Origin, From, Row_of, Fixed as Rejected_for_good, row_there, origin, decided_unrouted, decided_routed}
use Rattle.claim_model.proofs.Journals.{entry_added, entry_settled, submitted_enters, ticked_same, started_same, ruled_same, heard_settles}
use Rattle.claim_model.proofs.PharmacyStep.{carries_reads}
use Rattle.claim_model.proofs.SwitchStep.{response_says}
use Rattle.claim_model.proofs.Held.{held_decided, book_sound}
use Rattle.claim_model.proofs.GoingOn.{run_append}
use Rattle.claim_model.proofs.Runs.{run_sound, reached_sound}
use Rattle.crash_safety.specs.Network.{Process, file, replayed, Network, Move, beginning, network}
use Rattle.crash_safety.specs.Runs.{IsAmong, on_disks, in_files}
use Rattle.crash_safety.specs.Kept.{Holds}
use Rattle.crash_safety.specs.Steps.{replayed_from}
use Rattle.crash_safety.specs.Diskless.{light}
use Rattle.crash_safety.specs.Told.{IsTold, ComesAgain, From_row, Fixed, IsFinal, ToldForGood, ToldForGoodHere}
use Rattle.crash_safety.proofs.Sound.{Comes, IsSound, begins_soundly}
use Rattle.crash_safety.proofs.Moving.{goes_on}
use Rattle.crash_safety.proofs.Closing.{replays_on}
use Rattle.crash_safety.proofs.Courses.{after_append}
use Rattle.crash_safety.proofs.Finishing.{files_run}
use Rattle.crash_safety.proofs.Worlds.{with_packets, nodes_of_run, is_of_run, reached}
use Rattle.crash_safety.proofs.Lighter.{beside_at}
use Rattle.crash_safety.proofs.Lightness.{holds}

-- ---- a pharmacy's journal, of which each answer was decided in this world

record Decides (ctx : Context) (v : World) (n : ℕ) (j : JournalAtRest) : Type 0 where
  number : j.number ≡ n
  answers : (k : ℕ) (e : Kept) (a : List ℕ) → numbered j.entries k ≡ Some e → e.answer ≡ Some a → decided ctx v (id_at n k) ≡ Some a

abbrev DecidesNode : Context → World → ℕ → AnyNode → Type 0
DecidesNode ctx v n (OfPharmacy s) = Decides ctx v n (journal_in s)
DecidesNode ctx v n (OfSwitch s) = ⊥
DecidesNode ctx v n (OfPayer s) = ⊥

no_answer : (text : List ℕ) (e : Kept) (a : List ℕ) → e ≡ record { request = text; answer = None } → e.answer ≡ Some a → ⊥
no_answer text e a is h = let f : ◌≡◌ {A = Option (List ℕ)} None (Some a) = sym (ap (λ (k : Kept). k.answer) is) ∙ h in cc

added : (ctx : Context) (v : World) (n : ℕ) (j : JournalAtRest) (text : List ℕ) → Decides ctx v n j → Decides ctx v n (entry_added j text)
added ctx v n j text d = record {
  number = d.number;
  answers = λ k e a h f. elim (numbered_more j.entries (record { request = text; answer = None }) k e h) [
    | inl old ↦ d.answers k e a old f
    | inr new ↦ absurd (no_answer text e a new.1 f)
  ];
}

settled : (ctx : Context) (v : World) (n : ℕ) (j : JournalAtRest) (number : ℕ) (entry : Kept) (answer : List ℕ) → numbered j.entries number ≡ Some entry → decided ctx v (id_at n number) ≡ Some answer → Decides ctx v n j
    → Decides ctx v n (entry_settled j number entry answer)
settled ctx v n j number entry answer stands is d = record {
  number = d.number;
  answers = λ k e a h f. elim (cases_eq number k) [
    | inl same ↦
        let new : Kept = record { request = entry.request; answer = Some answer } in
        let there : numbered (renumbered j.entries number new) k ≡ Some new = subst (λ (m : ℕ). numbered (renumbered j.entries number new) m ≡ Some new) same (numbered_put j.entries number entry new stands) in
        let is_new : new ≡ e = same_some new e (sym there ∙ h) in
        subst (λ (m : ℕ). decided ctx v (id_at n m) ≡ Some a) same (is ∙ (ap (λ (x : Kept). x.answer) is_new ∙ f))
    | inr other ↦ d.answers k e a (sym (numbered_put_other j.entries number k (record { request = entry.request; answer = Some answer }) other) ∙ h) f
  ];
}

same_journal : (ctx : Context) (v : World) (n : ℕ) (j after : JournalAtRest) → after ≡ j → Decides ctx v n j → Decides ctx v n after
same_journal ctx v n j after e d = subst (Decides ctx v n) (sym e) d

-- what can come to a node was sent
same_call : (node other : Node) (call take : Call) → ◌≡◌ {A = Option Asked} (Some (record { node = other; call = call })) (Some (record { node = node; call = take })) → call ≡ take
same_call node other call take e =
    let a : Asked = record { node = other; call = call } in
    let b : Asked = record { node = node; call = take } in
    ap (λ (x : Asked). x.call) (same_some a b e)

same_bytes : (from other : Node) (bytes out : List ℕ) → Take other out ≡ Take from bytes → out ≡ bytes
same_bytes from other bytes out e = cc

taken_packet : (packets : List Packet) (node from : Node) (bytes : List ℕ) (event : Event) → asked packets event ≡ Some (record { node = node; call = Take from bytes }) → (p : Packet) × IsAmong packets p × (p.bytes ≡ bytes)
taken_packet packets node from bytes (Delivery k) e =
    let t = map_some taking (numbered packets k) (record { node = node; call = Take from bytes }) e in
    (t.0, record { number = k; is = t.1 }, same_bytes from t.0.from bytes t.0.bytes (ap (λ (x : Asked). x.call) t.2))
taken_packet packets node from bytes (Submission n text) e = let f : Submit text ≡ Take from bytes = same_call node (Pharmacy n) (Submit text) (Take from bytes) e in absurd cc
taken_packet packets node from bytes (Ticking n) e = let f : Tick ≡ Take from bytes = same_call node (Pharmacy n) Tick (Take from bytes) e in absurd cc
taken_packet packets node from bytes (Stopping x) e = let f : Stop ≡ Take from bytes = same_call node x Stop (Take from bytes) e in absurd cc
taken_packet packets node from bytes (Starting x) e = let f : Start ≡ Take from bytes = same_call node x Start (Take from bytes) e in absurd cc
taken_packet packets node from bytes (Revising x revision) e = let f : Revise revision ≡ Take from bytes = same_call node x (Revise revision) (Take from bytes) e in absurd cc
taken_packet packets node from bytes (Adjudication k advice) e =
    let t = map_some (adjudicating advice) (numbered packets k) (record { node = node; call = Take from bytes }) e in
    let f : Adjudicate t.0.from t.0.bytes advice ≡ Take from bytes = ap (λ (x : Asked). x.call) t.2 in
    absurd cc

same_advised : (from other : Node) (bytes out advice said : List ℕ) → Adjudicate other out said ≡ Adjudicate from bytes advice → out ≡ bytes
same_advised from other bytes out advice said e = cc

advised_packet : (packets : List Packet) (node from : Node) (bytes advice : List ℕ) (event : Event) → asked packets event ≡ Some (record { node = node; call = Adjudicate from bytes advice }) → (p : Packet) × IsAmong packets p × (p.bytes ≡ bytes)
advised_packet packets node from bytes advice (Adjudication k said) e =
    let t = map_some (adjudicating said) (numbered packets k) (record { node = node; call = Adjudicate from bytes advice }) e in
    (t.0, record { number = k; is = t.1 }, same_advised from t.0.from bytes t.0.bytes advice said (ap (λ (x : Asked). x.call) t.2))
advised_packet packets node from bytes advice (Delivery k) e =
    let t = map_some taking (numbered packets k) (record { node = node; call = Adjudicate from bytes advice }) e in
    let f : Take t.0.from t.0.bytes ≡ Adjudicate from bytes advice = ap (λ (x : Asked). x.call) t.2 in
    absurd cc
advised_packet packets node from bytes advice (Submission n text) e = let f : Submit text ≡ Adjudicate from bytes advice = same_call node (Pharmacy n) (Submit text) (Adjudicate from bytes advice) e in absurd cc
advised_packet packets node from bytes advice (Ticking n) e = let f : Tick ≡ Adjudicate from bytes advice = same_call node (Pharmacy n) Tick (Adjudicate from bytes advice) e in absurd cc
advised_packet packets node from bytes advice (Stopping x) e = let f : Stop ≡ Adjudicate from bytes advice = same_call node x Stop (Adjudicate from bytes advice) e in absurd cc
advised_packet packets node from bytes advice (Starting x) e = let f : Start ≡ Adjudicate from bytes advice = same_call node x Start (Adjudicate from bytes advice) e in absurd cc
advised_packet packets node from bytes advice (Revising x revision) e = let f : Revise revision ≡ Adjudicate from bytes advice = same_call node x (Revise revision) (Adjudicate from bytes advice) e in absurd cc

carries_coming : (ctx : Context) (s : WorldSettings) (v : World) (node from : Node) (bytes : List ℕ) → Sound ctx s v → Comes v.packets node (Take from bytes) → Carries ctx v bytes
carries_coming ctx s v node from bytes x c =
    let t = taken_packet v.packets node from bytes c.event c.asks in
    subst (Carries ctx v) t.2 (all_at (SoundPacket ctx v) v.packets t.1.number t.0 x.packets t.1.is)

carries_advised : (ctx : Context) (s : WorldSettings) (v : World) (node from : Node) (bytes advice : List ℕ) → Sound ctx s v → Comes v.packets node (Adjudicate from bytes advice) → Carries ctx v bytes
carries_advised ctx s v node from bytes advice x c =
    let t = advised_packet v.packets node from bytes advice c.event c.asks in
    subst (Carries ctx v) t.2 (all_at (SoundPacket ctx v) v.packets t.1.number t.0 x.packets t.1.is)

-- ---- its calls

submitted_still : (ctx : Context) (v : World) (n : ℕ) (j : Journal) (text : List ℕ) (o : Result Submitted Refusal) → Decides ctx v n (stopped j) → submitted ctx j text ≡ o → DecidesNode ctx v n (node_after (OfPharmacy (Up j)) (as_node OfPharmacy (after_submit o)))
submitted_still ctx v n j text (Err f) d e = d
submitted_still ctx v n j text (Ok s) d e = subst (Decides ctx v n) (sym (submitted_enters ctx j text s e).1) (added ctx v n (stopped j) text d)

heard_still : (ctx : Context) (v : World) (n : ℕ) (j : Journal) (r : Envelope) (o : Result Journal Refusal) → Decides ctx v n (stopped j) → (is_request r ≡ false → decided ctx v r.id ≡ Some r.payload) → heard ctx j r ≡ o
    → DecidesNode ctx v n (node_after (OfPharmacy (Up j)) (as_node OfPharmacy (after_hearing o)))
unfolding stopped
heard_still ctx v n j r (Err f) d says e = d
heard_still ctx v n j r (Ok next) d says e =
    let h = heard_settles ctx j r next e in
    let own : r.id.pharmacy ≡ n = h.2 ∙ d.number in
    let is : decided ctx v (id_at n r.id.number) ≡ Some r.payload = subst (λ (m : ℕ). decided ctx v (id_at m r.id.number) ≡ Some r.payload) own (says h.1) in
    subst (Decides ctx v n) (sym h.0.is) (settled ctx v n (stopped j) r.id.number h.0.entry r.payload h.0.stands is d)

takes_still : (ctx : Context) (s : WorldSettings) (v : World) (n : ℕ) (j : Journal) (bytes : List ℕ) (c : Carries ctx v bytes) → Laws ctx → Decides ctx v n (stopped j)
    → DecidesNode ctx v n (node_after (OfPharmacy (Up j)) (as_node OfPharmacy (pharmacy_takes ctx j (ctx.read_envelope bytes))))
takes_still ctx s v n j bytes c laws d =
    subst (λ (o : Result Envelope EnvelopeFault). DecidesNode ctx v n (node_after (OfPharmacy (Up j)) (as_node OfPharmacy (pharmacy_takes ctx j o)))) (sym (carries_reads ctx v bytes laws c))
    (heard_still ctx v n j c.envelope (heard ctx j c.envelope) d (λ e. response_says ctx v bytes c e) refl)

ruled : (ctx : Context) (v : World) (n : ℕ) (j : JournalAtRest) (rule : RetryRule) → Decides ctx v n j → Decides ctx v n (with_rule rule j)
ruled ctx v n j rule d = record { number = d.number; answers = λ k e a h f. d.answers k e a h f }

ruled_still : (ctx : Context) (v : World) (n : ℕ) (j : Journal) (rule : RetryRule) (taken : Bool) → Decides ctx v n (stopped j)
    → DecidesNode ctx v n (node_after (OfPharmacy (Up j)) (as_node OfPharmacy (cond taken (Done (Up (ruled_anew rule j)) []) (Refused Refusal.BadRule))))
ruled_still ctx v n j rule true d = subst (Decides ctx v n) (sym (ruled_same rule j)) (ruled ctx v n (stopped j) rule d)
ruled_still ctx v n j rule false d = d

call_still : (ctx : Context) (s : WorldSettings) (v : World) (n : ℕ) (x : Power Journal JournalAtRest) (call : Call) → Laws ctx → Decides ctx v n (journal_in x) → IsVouched ctx v call
    → DecidesNode ctx v n (node_after (OfPharmacy x) (node_step ctx (OfPharmacy x) call))
call_still ctx s v n (Up j) (Submit text) laws d c = submitted_still ctx v n j text (submitted ctx j text) d refl
call_still ctx s v n (Up j) Tick laws d c = same_journal ctx v n (stopped j) (stopped (ticked j)) (ticked_same j) d
call_still ctx s v n (Up j) (Take from bytes) laws d c = takes_still ctx s v n j bytes c laws d
call_still ctx s v n (Up j) Stop laws d c = d
call_still ctx s v n (Up j) Start laws d c = d
call_still ctx s v n (Up j) (Revise (OfPlan change)) laws d c = d
call_still ctx s v n (Up j) (Revise (OfRule rule)) laws d c = ruled_still ctx v n j rule (is_rule ctx.switches rule) d
call_still ctx s v n (Up j) (Revise (OfCap most)) laws d c = d
call_still ctx s v n (Up j) (Adjudicate from bytes advice) laws d c = d
call_still ctx s v n (AtRest j) Start laws d c = same_journal ctx v n j (stopped (started j)) (started_same j) d
call_still ctx s v n (AtRest j) (Submit text) laws d c = d
call_still ctx s v n (AtRest j) Tick laws d c = d
call_still ctx s v n (AtRest j) (Take from bytes) laws d c = d
call_still ctx s v n (AtRest j) Stop laws d c = d
call_still ctx s v n (AtRest j) (Revise (OfPlan change)) laws d c = d
call_still ctx s v n (AtRest j) (Revise (OfRule rule)) laws d c = d
call_still ctx s v n (AtRest j) (Revise (OfCap most)) laws d c = d
call_still ctx s v n (AtRest j) (Adjudicate from bytes advice) laws d c = d

node_still : (ctx : Context) (s : WorldSettings) (v : World) (n : ℕ) (node : AnyNode) (call : Call) → Laws ctx → DecidesNode ctx v n node → IsVouched ctx v call → DecidesNode ctx v n (node_after node (node_step ctx node call))
node_still ctx s v n (OfPharmacy x) call laws d c = call_still ctx s v n x call laws d c
node_still ctx s v n (OfSwitch x) call laws d c = absurd d
node_still ctx s v n (OfPayer x) call laws d c = absurd d

abbrev pub SoundCalls : Context → World → List Logged → Type 0
SoundCalls ctx v log = AllByRecursion (λ (l : Logged). IsVouched ctx v l.call) log

replay_still : (ctx : Context) (s : WorldSettings) (v : World) (n : ℕ) (node : AnyNode) (log : List Logged) → Laws ctx → DecidesNode ctx v n node → SoundCalls ctx v log → DecidesNode ctx v n (replay ctx node log)
replay_still ctx s v n node [] laws d c = d
replay_still ctx s v n node (l ∷ log) laws d c = replay_still ctx s v n (node_after node (node_step ctx node l.call)) log laws (node_still ctx s v n node l.call laws d c.0) c.1

sound_coming : (ctx : Context) (s : WorldSettings) (v : World) (node : Node) (call : Call) → Sound ctx s v → Comes v.packets node call → IsVouched ctx v call
sound_coming ctx s v node (Take from bytes) x c = carries_coming ctx s v node from bytes x c
sound_coming ctx s v node (Submit text) x c = tt
sound_coming ctx s v node Tick x c = tt
sound_coming ctx s v node Stop x c = tt
sound_coming ctx s v node Start x c = tt
sound_coming ctx s v node (Revise revision) x c = tt
sound_coming ctx s v node (Adjudicate from bytes advice) x c = carries_advised ctx s v node from bytes advice x c

-- ---- what is in memory was decided on the disks

there_decides : (ctx : Context) (s : WorldSettings) (v : World) (n : ℕ) (node : AnyNode) → Sound ctx s v → node_at v (Pharmacy n) ≡ Some node → DecidesNode ctx v n node
there_decides ctx s v n node x is =
    let j = map_some OfPharmacy (numbered v.pharmacies n) node is in
    let sj = x.pharmacies n j.0 j.1 in
    subst (DecidesNode ctx v n) j.2 (record { number = sj.number; answers = λ k e a h f. (sj.entries k e h).answer a f })

-- an answer in memory, of which the log so far leads to this world's node, was decided in it
pub told_decided : (ctx : Context) (s : WorldSettings) (v : World) (n : Network) (id : TxnId) (a : List ℕ) → Laws ctx → Sound ctx s v → (t : IsTold n id a)
    → node_at v (Pharmacy id.pharmacy) ≡ replayed ctx s (Pharmacy id.pharmacy) (n.at (Pharmacy id.pharmacy)).synced → SoundCalls ctx v (n.at (Pharmacy id.pharmacy)).unsynced
    → ((m : AnyNode) → (n.at (Pharmacy id.pharmacy)).memory ≡ Some m → replayed ctx s (Pharmacy id.pharmacy) (file (n.at (Pharmacy id.pharmacy))) ≡ Some m) → decided ctx v id ≡ Some a
told_decided ctx s v n id a laws sound t node_is calls memory =
    let node = Pharmacy id.pharmacy in
    let p = n.at node in
    let begins = node_at (opening s) node in
    let all : replayed_from ctx begins (p.synced ++ p.unsynced) ≡ Some (OfPharmacy t.journal) = memory (OfPharmacy t.journal) t.lives in
    let parted : replayed_from ctx (replayed_from ctx begins p.synced) p.unsynced ≡ Some (OfPharmacy t.journal) = sym (replays_on ctx begins p.synced p.unsynced) ∙ all in
    let at = map_some (λ (b : AnyNode). replay ctx b p.unsynced) (replayed_from ctx begins p.synced) (OfPharmacy t.journal) parted in
    let there : node_at v node ≡ Some at.0 = node_is ∙ at.1 in
    let d = replay_still ctx s v id.pharmacy at.0 p.unsynced laws (there_decides ctx s v id.pharmacy at.0 sound there) calls in
    let e : DecidesNode ctx v id.pharmacy (OfPharmacy t.journal) = subst (DecidesNode ctx v id.pharmacy) at.2 d in
    e.answers id.number t.entry a t.stands t.answer

pub told_was_decided : (ctx : Context) (s : WorldSettings) (n : Network) (events : List Event) (id : TxnId) (a : List ℕ) → Laws ctx → Accepts ctx s → IsSound ctx s n events → IsTold n id a → decided ctx (run ctx (opening s) events) id ≡ Some a
told_was_decided ctx s n events id a laws accepts i t =
    let node = Pharmacy id.pharmacy in
    let v = run ctx (opening s) events in
    let sound = reached_sound ctx s v (reached ctx s events laws accepts) in
    told_decided ctx s v n id a laws sound t (nodes_of_run ctx s (on_disks n) n.wire events i.has node)
    (all_weaker (λ (l : Logged). Comes v.packets node l.call) (λ (l : Logged). IsVouched ctx v l.call) (λ l c. sound_coming ctx s v node l.call sound c) (n.at node).unsynced (i.each node).comes) (i.each node).memory

-- ---- and stays so

record Leading (ctx : Context) (s : WorldSettings) (moves more : List Move) (w : World) : Type 0 where
  before : List Event
  further : List Event
  sound : IsSound ctx s (network ctx s moves) before
  is : w ≡ with_packets (run ctx (opening s) (before ++ further)) w.packets

leading : (ctx : Context) (s : WorldSettings) (moves more : List Move) (w : World) → Holds ctx s (network ctx s (moves ++ more)) w → Leading ctx s moves more w
leading ctx s moves more w h =
    let first = goes_on ctx s beginning [] moves (begins_soundly ctx s) in
    let second = goes_on ctx s (network ctx s moves) first.more more first.sound in
    let n = network ctx s (moves ++ more) in
    let events = first.more ++ second.more in
    let sound : IsSound ctx s n events = subst (λ (x : Network). IsSound ctx s x events) (sym (after_append ctx s beginning moves more)) second.sound in
    elim h [
      | inl disks ↦ record { before = first.more; further = second.more; sound = first.sound; is = is_of_run ctx s (on_disks n) n.wire events w sound.has disks }
      | inr files ↦
          let f = files_run ctx s n events sound in
          let joined : events ++ f.beyond ≡ first.more ++ (second.more ++ f.beyond) = append_assoc first.more second.more f.beyond in
          record {
            before = first.more;
            further = second.more ++ f.beyond;
            sound = first.sound;
            is = subst (λ (es : List Event). w ≡ with_packets (run ctx (opening s) es) w.packets) joined (is_of_run ctx s (in_files n) n.wire (events ++ f.beyond) w f.has files);
          }
    ]

-- the row's answer comes again
row_again : (ctx : Context) (s : WorldSettings) (v : World) (id : TxnId) (a request : List ℕ) (h : RequestHeader) (n : ℕ) (row : Row) → Sound ctx s v → submitted_under v id ≡ Some request → readable ctx request ≡ Some h → payer_for ctx id h ≡ Some n
    → row_at v n id ≡ Some row → decided ctx v id ≡ Some a → ComesAgain ctx v id a
unfolding answered
row_again ctx s v id a request h n row x asks reads route at d =
    let b = then_some (λ (b : Book). row_of id b.rows) (book_at v n) row at in
    let sb = book_sound ctx s v n b.0 x b.1 in
    let t = row_there ctx s v n id row x at in
    let same : row.request ≡ request = same_some row.request request (sym t.sound.asks ∙ (ap (submitted_under v) t.same ∙ asks)) in
    let text : answer_text ctx h row ≡ a = same_some (answer_text ctx h row) a (sym (decided_routed ctx v id request h n row asks reads route at same) ∙ d) in
    let ours : is_payer b.0.payer (payer_for ctx id h) ≡ true = ap (is_payer b.0.payer) (route ∙ ap (λ (k : ℕ). Some k) (sym sb.payer)) ∙ payer_self b.0.payer in
    let known : Rattle.std.specs.Prelude.bytes_eq row.request request ≡ true = ap (λ (q : List ℕ). Rattle.std.specs.Prelude.bytes_eq q request) same ∙ bytes_self request in
    From_row request h n b.0 asks reads route b.1
    (λ advice. ap (answered_readable ctx b.0 advice id request) reads
    ∙ (cond-true (is_payer b.0.payer (payer_for ctx id h)) (answered_by ctx b.0 advice id request h (row_of id b.0.rows)) (Err Refusal.NotOurs) ours
    ∙ (ap (answered_by ctx b.0 advice id request h) b.2
    ∙ (cond-true (Rattle.std.specs.Prelude.bytes_eq row.request request) (Ok (record { book = b.0; bytes = answer_text ctx h row; kept = true })) (Err Refusal.NumberReused) known
    ∙ ap (λ (y : List ℕ). Ok (record { book = b.0; bytes = y; kept = true })) text))))

again_by : (ctx : Context) (s : WorldSettings) (v : World) (id : TxnId) (a : List ℕ) → Sound ctx s v → decided ctx v id ≡ Some a → (o : Origin ctx v id a) → From ctx v id o.header o.rulings → ComesAgain ctx v id a
again_by ctx s v id a x d o (Row_of n row route at same) = row_again ctx s v id a o.request o.header n row x o.asks o.reads route at d
again_by ctx s v id a x d o (Rejected_for_good route same) =
    Fixed o.request o.header o.asks o.reads route (same_some a (rejection ctx o.header) (sym d ∙ decided_unrouted ctx v id o.request o.header o.asks o.reads route))

pub final_at : (ctx : Context) (s : WorldSettings) (v : World) (id : TxnId) (a : List ℕ) → Laws ctx → Sound ctx s v → decided ctx v id ≡ Some a → IsFinal ctx v id a
final_at ctx s v id a laws x d =
    let o = origin ctx s v id a laws x d in
    record {
      decided_is = d;
      only = λ node y h. same_some y a (sym (held_decided ctx s v node id y x h) ∙ d);
      again = again_by ctx s v id a x d o.0 o.1;
    }

again_with : (ctx : Context) (v : World) (packets : List Packet) (id : TxnId) (a : List ℕ) → ComesAgain ctx v id a → ComesAgain ctx (with_packets v packets) id a
again_with ctx v packets id a (From_row request h payer b asks reads route book is) = From_row request h payer b asks reads route book is
again_with ctx v packets id a (Fixed request h asks reads route is) = Fixed request h asks reads route is

final_with : (ctx : Context) (v : World) (packets : List Packet) (id : TxnId) (a : List ℕ) → IsFinal ctx v id a → IsFinal ctx (with_packets v packets) id a
unfolding decided held
final_with ctx v packets id a f = record { decided_is = f.decided_is; only = f.only; again = again_with ctx v packets id a f.again }

pub told_for_good : ToldForGood
told_for_good = λ ctx s moves more id a w laws accepts told h.
    let l = leading ctx s moves more w h in
    let v = run ctx (opening s) l.before in
    let u = run ctx (opening s) (l.before ++ l.further) in
    let d = told_was_decided ctx s (network ctx s moves) l.before id a laws accepts l.sound told in
    let sound = reached_sound ctx s v (reached ctx s l.before laws accepts) in
    let later : decided ctx u id ≡ Some a = subst (λ (x : World). decided ctx x id ≡ Some a) (sym (run_append ctx (opening s) l.before l.further)) ((run_sound ctx s v l.further laws accepts sound).later.decides id a d) in
    let final = final_at ctx s u id a laws (reached_sound ctx s u (reached ctx s (l.before ++ l.further) laws accepts)) later in
    subst (λ (x : World). IsFinal ctx x id a) (sym l.is) (final_with ctx u w.packets id a final)

pub told_for_good_here : ToldForGoodHere
told_for_good_here = λ ctx s moves more id a w laws accepts told h.
    let b = beside_at ctx s moves more in
    let there : IsTold (network ctx s b.first) id a = record {
      journal = told.journal;
      lives = ap (λ (p : Process). p.memory) (b.now.pharmacies id.pharmacy) ∙ told.lives;
      entry = told.entry;
      stands = told.stands;
      answer = told.answer;
    } in
    told_for_good ctx s b.first b.second id a w laws accepts there (holds ctx s (light ctx s (moves ++ more)) (network ctx s (b.first ++ b.second)) w b.later h)
