-- What a pharmacy does whose entries all have their answers: nothing.
use Rattle.std.proofs.Common.{◌≡◌, ℕ, zero, suc, ◌+◌, List, [], ◌∷◌, ◌++◌, map, Option, Some, None, Result, Ok, Err, slice_set, refl, sym, ap, ◌∙◌, subst, inl, inr}
use Rattle.std.specs.Prelude.{⊤}
use Rattle.std.specs.List.{AllByRecursion}
use Rattle.std.proofs.lemmas.List.{append-nil}
use Rattle.std.proofs.lemmas.Bool.{cases_eq}
use mathlib.Core.Path.{ap₂}
use Rattle.claim_model.specs.Words.{Envelope, EnvelopeFault}
use Rattle.claim_model.specs.Context.{Context}
use Rattle.claim_model.specs.Numbered.{numbered, renumbered}
use Rattle.claim_model.specs.Rows.{Book}
use Rattle.claim_model.specs.Journal.{State, Waits, Has, Entry, Journal, JournalAtRest, circle, ticked_state, ticked, due_by, due_from, due, heard, answer_in, kept_entry, stopped}
use Rattle.claim_model.specs.Table.{Table}
use Rattle.claim_model.specs.Node.{Node, Pharmacy, Switch, Payer, Power, Up, AtRest, Sent, Call, Submit, Tick, Take, Stop, Start, Revise, Adjudicate, Outcome, Done, Refused, to_switch, pharmacy_takes, pharmacy_step, switch_step, payer_step}
use Rattle.claim_model.specs.World.{World, Packet, Event, Submission, Ticking, Delivery, Stopping, Starting, Revising, Adjudication, on_pharmacy, on_switch, on_payer, on_node, delivered, adjudicated, step, world_after}
use Rattle.claim_model.specs.Held.{journal_in}
use Rattle.claim_model.proofs.Lists.{numbered_put, numbered_put_other, all_at}
use Rattle.claim_model.proofs.Sound.{with_pharmacy}
use Rattle.claim_model.proofs.PharmacyStep.{done_same, after_hearing_done}
use Rattle.claim_model.proofs.Journals.{heard_settles}
use Rattle.claim_model.proofs.Runs.{pharmacy_done, switch_done, payer_done}
use Rattle.claim_recovery.specs.Quiet.{HasAnswer, AllSettled, IsOther, Spares, TicksInVain, StaysSettled}
use Rattle.claim_recovery.proofs.Forward.{tick_pharmacy}

pub none_some : {a : List ℕ} → ◌≡◌ {A = Option (List ℕ)} None (Some a) → ⊥
none_some h = cc

-- ---- a tick

still_state : (phases : ℕ) (s : State) (a : List ℕ) → answer_in s ≡ Some a → ticked_state phases s ≡ s
still_state phases (Waits phase) a h = absurd (none_some h)
still_state phases (Has answer) a h = refl

still_entries : (phases : ℕ) (es : List Entry) → AllByRecursion HasAnswer (map kept_entry es) → map (λ (e : Entry). record { request = e.request; state = ticked_state phases e.state }) es ≡ es
still_entries phases [] all = refl
still_entries phases (e ∷ es) all = ap₂ (λ (s : State) (more : List Entry). record { request = e.request; state = s } ∷ more) (still_state phases e.state all.0.answer all.0.is) (still_entries phases es all.1)

ticked_still : (j : Journal) → AllSettled (stopped j) → ticked j ≡ j
unfolding ticked stopped
ticked_still j all = ap (λ (es : List Entry). record { number = j.number; settings = j.settings; rule = j.rule; entries = es }) (still_entries (circle j.rule) j.entries all)

nothing_by : (ctx : Context) (j : Journal) (number : ℕ) (request : List ℕ) (s : State) (a : List ℕ) → answer_in s ≡ Some a → due_by ctx j number request s ≡ []
nothing_by ctx j number request (Waits phase) a h = absurd (none_some h)
nothing_by ctx j number request (Has answer) a h = refl

nothing_from : (ctx : Context) (j : Journal) (number : ℕ) (es : List Entry) → AllByRecursion HasAnswer (map kept_entry es) → due_from ctx j number es ≡ []
nothing_from ctx j number [] all = refl
nothing_from ctx j number (e ∷ es) all = ap (λ ss. ss ++ due_from ctx j (number + 1) es) (nothing_by ctx j number e.request e.state all.0.answer all.0.is) ∙ nothing_from ctx j (number + 1) es all.1

nothing_due : (ctx : Context) (j : Journal) → AllSettled (stopped j) → due ctx j ≡ []
unfolding due stopped
nothing_due ctx j all = nothing_from ctx j 1 j.entries all

set_same : {A : Type 0} (xs : List A) (k : ℕ) (a : A) → Rattle.std.proofs.Common.slice_get xs k ≡ Some a → slice_set xs k a ≡ xs
set_same [] k a h = refl
set_same (x ∷ xs) zero a h = let e : x ≡ a = cc in ap (λ y. y ∷ xs) (sym e)
set_same (x ∷ xs) (suc k) a h = ap (λ ys. x ∷ ys) (set_same xs k a h)

put_same : {A : Type 0} (xs : List A) (n : ℕ) (a : A) → numbered xs n ≡ Some a → renumbered xs n a ≡ xs
put_same xs zero a h = refl
put_same xs (suc k) a h = set_same xs k a h

world_same : (w : World) (n : ℕ) (s : Power Journal JournalAtRest) → numbered w.pharmacies n ≡ Some s → with_pharmacy w n s [] ≡ w
world_same w n s is =
    let e = put_same w.pharmacies n s is in
    let f = append-nil w.packets in
    λ i. record { pharmacies = e i; switches = w.switches; payers = w.payers; packets = f i }

pub ticks_in_vain : (ctx : Context) (w : World) (n : ℕ) → TicksInVain ctx w n
ticks_in_vain ctx w n = λ j up all.
    let still : ticked j ≡ j = ticked_still j all in
    let none : due ctx (ticked j) ≡ [] = ap (due ctx) still ∙ nothing_due ctx j all in
    tick_pharmacy ctx w n j up
    ∙ (ap (λ ss. Done (with_pharmacy w n (Up (ticked j)) (map to_switch ss)) (map to_switch ss)) none
    ∙ (ap (λ (x : Journal). Done (with_pharmacy w n (Up x) []) []) still ∙ ap (λ (x : World). Done x []) (world_same w n (Up j) up)))

-- ---- every other event

abbrev IsQuietCall : Call → Type 0
IsQuietCall (Submit text) = ⊥
IsQuietCall Tick = ⊤
IsQuietCall (Take from bytes) = ⊤
IsQuietCall Stop = ⊥
IsQuietCall Start = ⊥
IsQuietCall (Revise change) = ⊥
IsQuietCall (Adjudicate from bytes advice) = ⊤

takes_nothing : (ctx : Context) (j : Journal) (r : Result Envelope EnvelopeFault) (next : Power Journal JournalAtRest) (sent : List Sent) → AllSettled (stopped j) → pharmacy_takes ctx j r ≡ Done next sent → next ≡ Up j
takes_nothing ctx j (Err f) next sent all e = absurd cc
takes_nothing ctx j (Ok env) next sent all e =
    let d = after_hearing_done (heard ctx j env) next sent e in
    let s = (heard_settles ctx j env d.0 d.1).0 in
    let a : HasAnswer s.entry = all_at HasAnswer (stopped j).entries env.id.number s.entry all s.stands in
    absurd (none_some (sym s.is_open ∙ a.is))

still_pharmacy : (ctx : Context) (s next : Power Journal JournalAtRest) (call : Call) (sent : List Sent) → AllSettled (journal_in s) → IsQuietCall call → pharmacy_step ctx s call ≡ Done next sent → next ≡ s
still_pharmacy ctx (Up j) next Tick sent all q e = sym (done_same (Up (ticked j)) next (map to_switch (due ctx (ticked j))) sent e).0 ∙ ap (λ (x : Journal). Up x) (ticked_still j all)
still_pharmacy ctx (Up j) next (Take from bytes) sent all q e = takes_nothing ctx j (ctx.read_envelope bytes) next sent all e
still_pharmacy ctx (AtRest j) next Tick sent all q e = absurd cc
still_pharmacy ctx (AtRest j) next (Take from bytes) sent all q e = absurd cc
still_pharmacy ctx (Up j) next (Adjudicate from bytes advice) sent all q e = absurd cc
still_pharmacy ctx (AtRest j) next (Adjudicate from bytes advice) sent all q e = absurd cc
still_pharmacy ctx s next (Submit text) sent all q e = absurd q
still_pharmacy ctx s next Stop sent all q e = absurd q
still_pharmacy ctx s next Start sent all q e = absurd q
still_pharmacy ctx s next (Revise change) sent all q e = absurd q

abbrev SparesCall : ℕ → Node → Call → Type 0
SparesCall n (Pharmacy m) call = m ≡ n → IsQuietCall call
SparesCall n (Switch m) call = ⊤
SparesCall n (Payer m) call = ⊤

at_pharmacy : (ctx : Context) (w v : World) (n m : ℕ) (s : Power Journal JournalAtRest) (call : Call) (sent : List Sent) (o : Option (Power Journal JournalAtRest)) → numbered w.pharmacies n ≡ Some s → AllSettled (journal_in s) → (m ≡ n → IsQuietCall call)
    → numbered w.pharmacies m ≡ o → on_pharmacy ctx w m call o ≡ Done v sent → numbered v.pharmacies n ≡ Some s
at_pharmacy ctx w v n m s call sent None is all q at e = absurd cc
at_pharmacy ctx w v n m s call sent (Some t) is all q at e =
    let d = pharmacy_done w m (pharmacy_step ctx t call) v sent e in
    elim (cases_eq m n) [
      | inl same ↦
          let here : numbered w.pharmacies n ≡ Some t = subst (λ (k : ℕ). numbered w.pharmacies k ≡ Some t) same at in
          let one : t ≡ s = Rattle.claim_model.proofs.Options.same_some t s (sym here ∙ is) in
          let next : d.0 ≡ s = still_pharmacy ctx s d.0 call sent all (q same) (subst (λ (x : Power Journal JournalAtRest). pharmacy_step ctx x call ≡ Done d.0 sent) one d.1) in
          let put : numbered (renumbered w.pharmacies m d.0) n ≡ Some d.0 = subst (λ (k : ℕ). numbered (renumbered w.pharmacies m d.0) k ≡ Some d.0) same (numbered_put w.pharmacies m t d.0 at) in
          ap (λ (x : World). numbered x.pharmacies n) d.2 ∙ (put ∙ ap (λ (x : Power Journal JournalAtRest). Some x) next)
      | inr other ↦ ap (λ (x : World). numbered x.pharmacies n) d.2 ∙ (numbered_put_other w.pharmacies m n d.0 other ∙ is)
    ]

at_switch : (ctx : Context) (w v : World) (n m : ℕ) (s : Power Journal JournalAtRest) (call : Call) (sent : List Sent) (o : Option (Power Table ℕ)) → numbered w.pharmacies n ≡ Some s → on_switch ctx w m call o ≡ Done v sent → numbered v.pharmacies n ≡ Some s
at_switch ctx w v n m s call sent None is e = absurd cc
at_switch ctx w v n m s call sent (Some t) is e = ap (λ (x : World). numbered x.pharmacies n) (switch_done w m (switch_step ctx t call) v sent e).2 ∙ is

at_payer : (ctx : Context) (w v : World) (n m : ℕ) (s : Power Journal JournalAtRest) (call : Call) (sent : List Sent) (o : Option (Power Book Book)) → numbered w.pharmacies n ≡ Some s → on_payer ctx w m call o ≡ Done v sent → numbered v.pharmacies n ≡ Some s
at_payer ctx w v n m s call sent None is e = absurd cc
at_payer ctx w v n m s call sent (Some b) is e = ap (λ (x : World). numbered x.pharmacies n) (payer_done w m (payer_step ctx b call) v sent e).2 ∙ is

at_node : (ctx : Context) (w v : World) (n : ℕ) (s : Power Journal JournalAtRest) (node : Node) (call : Call) (sent : List Sent) → numbered w.pharmacies n ≡ Some s → AllSettled (journal_in s) → SparesCall n node call → on_node ctx w node call ≡ Done v sent → numbered v.pharmacies n ≡ Some s
at_node ctx w v n s (Pharmacy m) call sent is all q e = at_pharmacy ctx w v n m s call sent (numbered w.pharmacies m) is all q refl e
at_node ctx w v n s (Switch m) call sent is all q e = at_switch ctx w v n m s call sent (numbered w.switches m) is e
at_node ctx w v n s (Payer m) call sent is all q e = at_payer ctx w v n m s call sent (numbered w.payers m) is e

quiet_take : (n : ℕ) (node : Node) (from : Node) (bytes : List ℕ) → SparesCall n node (Take from bytes)
quiet_take n (Pharmacy m) from bytes = λ e. tt
quiet_take n (Switch m) from bytes = tt
quiet_take n (Payer m) from bytes = tt

other_spares : (n : ℕ) (node : Node) (call : Call) → IsOther n node → SparesCall n node call
other_spares n (Pharmacy m) call other = λ e. absurd (other e)
other_spares n (Switch m) call other = tt
other_spares n (Payer m) call other = tt

at_delivery : (ctx : Context) (w v : World) (n : ℕ) (s : Power Journal JournalAtRest) (sent : List Sent) (o : Option Packet) → numbered w.pharmacies n ≡ Some s → AllSettled (journal_in s) → delivered ctx w o ≡ Done v sent → numbered v.pharmacies n ≡ Some s
at_delivery ctx w v n s sent None is all e = absurd cc
at_delivery ctx w v n s sent (Some p) is all e = at_node ctx w v n s p.to (Take p.from p.bytes) sent is all (quiet_take n p.to p.from p.bytes) e

quiet_adjudicate : (n : ℕ) (node : Node) (from : Node) (bytes advice : List ℕ) → SparesCall n node (Adjudicate from bytes advice)
quiet_adjudicate n (Pharmacy m) from bytes advice = λ e. tt
quiet_adjudicate n (Switch m) from bytes advice = tt
quiet_adjudicate n (Payer m) from bytes advice = tt

at_adjudication : (ctx : Context) (w v : World) (n : ℕ) (s : Power Journal JournalAtRest) (advice : List ℕ) (sent : List Sent) (o : Option Packet) → numbered w.pharmacies n ≡ Some s → AllSettled (journal_in s) → adjudicated ctx w advice o ≡ Done v sent → numbered v.pharmacies n ≡ Some s
at_adjudication ctx w v n s advice sent None is all e = absurd cc
at_adjudication ctx w v n s advice sent (Some p) is all e = at_node ctx w v n s p.to (Adjudicate p.from p.bytes advice) sent is all (quiet_adjudicate n p.to p.from p.bytes advice) e

at_event : (ctx : Context) (w v : World) (n : ℕ) (s : Power Journal JournalAtRest) (event : Event) (sent : List Sent) → numbered w.pharmacies n ≡ Some s → AllSettled (journal_in s) → Spares n event → step ctx w event ≡ Done v sent → numbered v.pharmacies n ≡ Some s
unfolding step
at_event ctx w v n s (Submission m text) sent is all q e = at_node ctx w v n s (Pharmacy m) (Submit text) sent is all (λ same. absurd (q same)) e
at_event ctx w v n s (Ticking m) sent is all q e = at_node ctx w v n s (Pharmacy m) Tick sent is all (λ same. tt) e
at_event ctx w v n s (Delivery k) sent is all q e = at_delivery ctx w v n s sent (numbered w.packets k) is all e
at_event ctx w v n s (Stopping node) sent is all q e = at_node ctx w v n s node Stop sent is all (other_spares n node Stop q) e
at_event ctx w v n s (Starting node) sent is all q e = at_node ctx w v n s node Start sent is all (other_spares n node Start q) e
at_event ctx w v n s (Revising node revision) sent is all q e = at_node ctx w v n s node (Revise revision) sent is all (other_spares n node (Revise revision) q) e
at_event ctx w v n s (Adjudication k advice) sent is all q e = at_adjudication ctx w v n s advice sent (numbered w.packets k) is all e

at_outcome : (ctx : Context) (w : World) (n : ℕ) (s : Power Journal JournalAtRest) (event : Event) (o : Outcome World) → numbered w.pharmacies n ≡ Some s → AllSettled (journal_in s) → Spares n event → step ctx w event ≡ o → numbered (world_after w o).pharmacies n ≡ Some s
at_outcome ctx w n s event (Refused f) is all q e = is
at_outcome ctx w n s event (Done v sent) is all q e = at_event ctx w v n s event sent is all q e

pub stays_settled : (ctx : Context) (w : World) (n : ℕ) → StaysSettled ctx w n
stays_settled ctx w n s [] is all q = is
stays_settled ctx w n s (event ∷ events) is all q =
    stays_settled ctx (world_after w (step ctx w event)) n s events (at_outcome ctx w n s event (step ctx w event) is all q.0 refl) all q.1
