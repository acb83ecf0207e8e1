-- Every world that events lead to is sound.
use Rattle.std.proofs.Common.{◌≡◌, ℕ, zero, suc, ◌+◌, List, [], ◌∷◌, Option, Some, None, slice_get, refl, sym, ap, ◌∙◌, subst, arith, add-zero}
use Rattle.std.specs.List.{AllByRecursion}
use Rattle.claim_model.specs.Context.{Context}
use Rattle.claim_model.specs.Laws.{Laws}
use Rattle.claim_model.specs.Numbered.{numbered}
use Rattle.claim_model.specs.Rows.{Book}
use Rattle.claim_model.specs.Journal.{opening_rule, PharmacySettings, Journal, JournalAtRest, stopped}
use Rattle.claim_model.specs.Table.{Table}
use Rattle.claim_model.specs.Node.{Node, Pharmacy, Switch, Payer, Power, Up, Sent, Call, Submit, Tick, Take, Stop, Start, Revise, Adjudicate, Outcome, Done, Refused, pharmacy_step, switch_step, payer_step}
use Rattle.claim_model.specs.World.{World, Packet, Event, Submission, Ticking, Delivery, Stopping, Starting, Revising, Adjudication, pharmacy_stepped, on_pharmacy, switch_stepped, on_switch, payer_stepped, on_payer, on_node, delivered, adjudicated, step, world_after, run}
use Rattle.claim_model.specs.Settings.{WorldSettings, PayerSettings, Accepts, pharmacies_from, switches_of, payers_from, opening}
use Rattle.claim_model.specs.Held.{journal_in, book_in}
use Rattle.claim_model.specs.Carried.{IsVouched}
use Rattle.claim_model.specs.Promises.{Reached}
use Rattle.claim_model.proofs.Lists.{all_at}
use Rattle.claim_model.proofs.Sound.{SoundJournal, SoundSwitch, SoundBook, SoundPacket, Sound, later_self, later_trans, with_pharmacy, with_switch, with_payer}
use Rattle.claim_model.proofs.PharmacyStep.{Kept_sound, pharmacy_sound}
use Rattle.claim_model.proofs.SwitchStep.{switch_sound}
use Rattle.claim_model.proofs.PayerStep.{payer_sound}

-- the opening

pub pharmacy_opens : (m : ℕ) (ss : List PharmacySettings) (k : ℕ) (s : Power Journal JournalAtRest) → slice_get (pharmacies_from m ss) k ≡ Some s
    → (p : PharmacySettings) × (slice_get ss k ≡ Some p) × (s ≡ Up (record { number = m + k; settings = p; rule = opening_rule p; entries = [] }))
pharmacy_opens m [] k s e = absurd cc
pharmacy_opens m (p ∷ ss) zero s e =
    let f : Up (record { number = m; settings = p; rule = opening_rule p; entries = [] }) ≡ s = cc in
    (p, refl, sym f ∙ ap (λ (n : ℕ). Up (record { number = n; settings = p; rule = opening_rule p; entries = [] })) (sym (add-zero m)))
pharmacy_opens m (p ∷ ss) (suc k) s e =
    let r = pharmacy_opens (m + 1) ss k s e in
    let n : m + 1 + k ≡ m + suc k = omega arith in
    (r.0, r.1, r.2 ∙ ap (λ (x : ℕ). Up (record { number = x; settings = r.0; rule = opening_rule r.0; entries = [] })) n)

pub payer_opens : (m : ℕ) (ss : List PayerSettings) (k : ℕ) (s : Power Book Book) → slice_get (payers_from m ss) k ≡ Some s
    → (p : PayerSettings) × (slice_get ss k ≡ Some p) × (s ≡ Up (record { payer = m + k; settings = p.book; plan = p.plan; rows = [] }))
payer_opens m [] k s e = absurd cc
payer_opens m (p ∷ ss) zero s e =
    let f : Up (record { payer = m; settings = p.book; plan = p.plan; rows = [] }) ≡ s = cc in
    (p, refl, sym f ∙ ap (λ (n : ℕ). Up (record { payer = n; settings = p.book; plan = p.plan; rows = [] })) (sym (add-zero m)))
payer_opens m (p ∷ ss) (suc k) s e =
    let r = payer_opens (m + 1) ss k s e in
    let n : m + 1 + k ≡ m + suc k = omega arith in
    (r.0, r.1, r.2 ∙ ap (λ (x : ℕ). Up (record { payer = x; settings = r.0.book; plan = r.0.plan; rows = [] })) n)

switch_opens : (ctx : Context) (w : World) (caps : List ℕ) (k : ℕ) (s : Power Table ℕ) → slice_get (switches_of caps) k ≡ Some s → SoundSwitch ctx w s
switch_opens ctx w [] k s e = absurd cc
switch_opens ctx w (c ∷ caps) zero s e = let f : Up (record { cap = c; entries = [] }) ≡ s = cc in subst (SoundSwitch ctx w) f tt
switch_opens ctx w (c ∷ caps) (suc k) s e = switch_opens ctx w caps k s e

pub no_entries : {A : Type 0} (k : ℕ) (a : A) → numbered [] k ≡ Some a → ⊥
no_entries zero a e = cc
no_entries (suc k) a e = cc

new_journal : (ctx : Context) (given : WorldSettings) (w : World) (n : ℕ) (p : PharmacySettings) → numbered given.pharmacies n ≡ Some p → SoundJournal ctx given w n (record { number = n; settings = p; rule = opening_rule p; entries = [] })
new_journal ctx given w n p e = record { number = refl; settings = e; room = omega arith; entries = λ k f h. absurd (no_entries k f h) }

opening_pharmacies : (ctx : Context) (given : WorldSettings) (n : ℕ) (s : Power Journal JournalAtRest) → numbered (pharmacies_from 1 given.pharmacies) n ≡ Some s → SoundJournal ctx given (opening given) n (journal_in s)
unfolding stopped
opening_pharmacies ctx given zero s e = absurd cc
opening_pharmacies ctx given (suc k) s e =
    let r = pharmacy_opens 1 given.pharmacies k s e in
    let n : 1 + k ≡ suc k = omega arith in
    let t : s ≡ Up (record { number = suc k; settings = r.0; rule = opening_rule r.0; entries = [] }) = r.2 ∙ ap (λ (x : ℕ). Up (record { number = x; settings = r.0; rule = opening_rule r.0; entries = [] })) n in
    subst (λ y. SoundJournal ctx given (opening given) (suc k) (journal_in y)) (sym t) (new_journal ctx given (opening given) (suc k) r.0 r.1)

opening_payers : (ctx : Context) (given : WorldSettings) (n : ℕ) (s : Power Book Book) → numbered (payers_from 1 given.payers) n ≡ Some s → SoundBook ctx given (opening given) n (book_in s)
opening_payers ctx given zero s e = absurd cc
opening_payers ctx given (suc k) s e =
    let r = payer_opens 1 given.payers k s e in
    let n : 1 + k ≡ suc k = omega arith in
    let t : s ≡ Up (record { payer = suc k; settings = r.0.book; plan = r.0.plan; rows = [] }) = r.2 ∙ ap (λ (x : ℕ). Up (record { payer = x; settings = r.0.book; plan = r.0.plan; rows = [] })) n in
    subst (λ y. SoundBook ctx given (opening given) (suc k) (book_in y)) (sym t) (record { payer = refl; given_as = r.0; stands = r.1; settings = refl; rows = tt })

opening_switches : (ctx : Context) (w : World) (caps : List ℕ) (n : ℕ) (s : Power Table ℕ) → numbered (switches_of caps) n ≡ Some s → SoundSwitch ctx w s
opening_switches ctx w caps zero s e = absurd cc
opening_switches ctx w caps (suc k) s e = switch_opens ctx w caps k s e

pub opening_sound : (ctx : Context) (given : WorldSettings) → Sound ctx given (opening given)
opening_sound ctx given =
    record { pharmacies = opening_pharmacies ctx given; switches = opening_switches ctx (opening given) given.switches; payers = opening_payers ctx given; packets = tt }

-- one event

pub pharmacy_done : (w : World) (n : ℕ) (o : Outcome (Power Journal JournalAtRest)) (v : World) (sent : List Sent) → pharmacy_stepped w n o ≡ Done v sent
    → (next : Power Journal JournalAtRest) × (o ≡ Done next sent) × (v ≡ with_pharmacy w n next sent)
pharmacy_done w n (Refused f) v sent e = absurd cc
pharmacy_done w n (Done next out) v sent e =
    let f : out ≡ sent = cc in
    let g : with_pharmacy w n next out ≡ v = cc in
    (next, ap (Done next) f, sym g ∙ ap (with_pharmacy w n next) f)

pub switch_done : (w : World) (n : ℕ) (o : Outcome (Power Table ℕ)) (v : World) (sent : List Sent) → switch_stepped w n o ≡ Done v sent
    → (next : Power Table ℕ) × (o ≡ Done next sent) × (v ≡ with_switch w n next sent)
switch_done w n (Refused f) v sent e = absurd cc
switch_done w n (Done next out) v sent e =
    let f : out ≡ sent = cc in
    let g : with_switch w n next out ≡ v = cc in
    (next, ap (Done next) f, sym g ∙ ap (with_switch w n next) f)

pub payer_done : (w : World) (n : ℕ) (o : Outcome (Power Book Book)) (v : World) (sent : List Sent) → payer_stepped w n o ≡ Done v sent
    → (next : Power Book Book) × (o ≡ Done next sent) × (v ≡ with_payer w n next sent)
payer_done w n (Refused f) v sent e = absurd cc
payer_done w n (Done next out) v sent e =
    let f : out ≡ sent = cc in
    let g : with_payer w n next out ≡ v = cc in
    (next, ap (Done next) f, sym g ∙ ap (with_payer w n next) f)

-- what an accepted event does: one node makes its step
pub data Step (ctx : Context) (w v : World) (call : Call) : Type 0 where
  At_pharmacy : (n : ℕ) → (s next : Power Journal JournalAtRest) → (sent : List Sent) → numbered w.pharmacies n ≡ Some s → pharmacy_step ctx s call ≡ Done next sent → v ≡ with_pharmacy w n next sent → Step ctx w v call
  At_switch : (n : ℕ) → (s next : Power Table ℕ) → (sent : List Sent) → numbered w.switches n ≡ Some s → switch_step ctx s call ≡ Done next sent → v ≡ with_switch w n next sent → Step ctx w v call
  At_payer : (n : ℕ) → (s next : Power Book Book) → (sent : List Sent) → numbered w.payers n ≡ Some s → payer_step ctx s call ≡ Done next sent → v ≡ with_payer w n next sent → Step ctx w v call

at_pharmacy : (ctx : Context) (w v : World) (n : ℕ) (call : Call) (sent : List Sent) (o : Option (Power Journal JournalAtRest)) → numbered w.pharmacies n ≡ o → on_pharmacy ctx w n call o ≡ Done v sent → Step ctx w v call
at_pharmacy ctx w v n call sent None is e = absurd cc
at_pharmacy ctx w v n call sent (Some s) is e = let d = pharmacy_done w n (pharmacy_step ctx s call) v sent e in At_pharmacy n s d.0 sent is d.1 d.2

at_switch : (ctx : Context) (w v : World) (n : ℕ) (call : Call) (sent : List Sent) (o : Option (Power Table ℕ)) → numbered w.switches n ≡ o → on_switch ctx w n call o ≡ Done v sent → Step ctx w v call
at_switch ctx w v n call sent None is e = absurd cc
at_switch ctx w v n call sent (Some s) is e = let d = switch_done w n (switch_step ctx s call) v sent e in At_switch n s d.0 sent is d.1 d.2

at_payer : (ctx : Context) (w v : World) (n : ℕ) (call : Call) (sent : List Sent) (o : Option (Power Book Book)) → numbered w.payers n ≡ o → on_payer ctx w n call o ≡ Done v sent → Step ctx w v call
at_payer ctx w v n call sent None is e = absurd cc
at_payer ctx w v n call sent (Some s) is e = let d = payer_done w n (payer_step ctx s call) v sent e in At_payer n s d.0 sent is d.1 d.2

pub at_node : (ctx : Context) (w v : World) (node : Node) (call : Call) (sent : List Sent) → on_node ctx w node call ≡ Done v sent → Step ctx w v call
at_node ctx w v (Pharmacy n) call sent e = at_pharmacy ctx w v n call sent (numbered w.pharmacies n) refl e
at_node ctx w v (Switch n) call sent e = at_switch ctx w v n call sent (numbered w.switches n) refl e
at_node ctx w v (Payer n) call sent e = at_payer ctx w v n call sent (numbered w.payers n) refl e

-- an accepted event is a step with some call, which takes nothing but a packet of this world
pub record Made (ctx : Context) (w v : World) : Type 0 where
  pub call : Call
  pub step_is : Step ctx w v call
  pub takes : AllByRecursion (SoundPacket ctx w) w.packets → IsVouched ctx w call

delivery_made : (ctx : Context) (w v : World) (k : ℕ) (sent : List Sent) (o : Option Packet) → numbered w.packets k ≡ o → delivered ctx w o ≡ Done v sent → Made ctx w v
delivery_made ctx w v k sent None is e = absurd cc
delivery_made ctx w v k sent (Some p) is e =
    record { call = Take p.from p.bytes; step_is = at_node ctx w v p.to (Take p.from p.bytes) sent e; takes = λ all. all_at (SoundPacket ctx w) w.packets k p all is }

adjudication_made : (ctx : Context) (w v : World) (k : ℕ) (advice : List ℕ) (sent : List Sent) (o : Option Packet) → numbered w.packets k ≡ o → adjudicated ctx w advice o ≡ Done v sent → Made ctx w v
adjudication_made ctx w v k advice sent None is e = absurd cc
adjudication_made ctx w v k advice sent (Some p) is e =
    record { call = Adjudicate p.from p.bytes advice; step_is = at_node ctx w v p.to (Adjudicate p.from p.bytes advice) sent e; takes = λ all. all_at (SoundPacket ctx w) w.packets k p all is }

pub event_made : (ctx : Context) (w v : World) (event : Event) (sent : List Sent) → step ctx w event ≡ Done v sent → Made ctx w v
unfolding step
event_made ctx w v (Submission n text) sent e = record { call = Submit text; step_is = at_node ctx w v (Pharmacy n) (Submit text) sent e; takes = λ all. tt }
event_made ctx w v (Ticking n) sent e = record { call = Tick; step_is = at_node ctx w v (Pharmacy n) Tick sent e; takes = λ all. tt }
event_made ctx w v (Delivery k) sent e = delivery_made ctx w v k sent (numbered w.packets k) refl e
event_made ctx w v (Stopping node) sent e = record { call = Stop; step_is = at_node ctx w v node Stop sent e; takes = λ all. tt }
event_made ctx w v (Starting node) sent e = record { call = Start; step_is = at_node ctx w v node Start sent e; takes = λ all. tt }
event_made ctx w v (Revising node revision) sent e = record { call = Revise revision; step_is = at_node ctx w v node (Revise revision) sent e; takes = λ all. tt }
event_made ctx w v (Adjudication k advice) sent e = adjudication_made ctx w v k advice sent (numbered w.packets k) refl e

pub step_sound : (ctx : Context) (given : WorldSettings) (w v : World) (call : Call) → Laws ctx → Accepts ctx given → Sound ctx given w → IsVouched ctx w call → Step ctx w v call → Kept_sound ctx given w v
step_sound ctx given w v call laws accepts x c (At_pharmacy n s next sent is e f) = subst (Kept_sound ctx given w) (sym f) (pharmacy_sound ctx given w n s next call sent laws accepts x is c e)
step_sound ctx given w v call laws accepts x c (At_switch n s next sent is e f) = subst (Kept_sound ctx given w) (sym f) (switch_sound ctx given w n s next call sent laws x is c e)
step_sound ctx given w v call laws accepts x c (At_payer n s next sent is e f) = subst (Kept_sound ctx given w) (sym f) (payer_sound ctx given w n s next call sent laws accepts x is c e)

outcome_sound : (ctx : Context) (given : WorldSettings) (w : World) (event : Event) (o : Outcome World) → Laws ctx → Accepts ctx given → Sound ctx given w → step ctx w event ≡ o → Kept_sound ctx given w (world_after w o)
outcome_sound ctx given w event (Refused f) laws accepts x e = record { sound = x; later = later_self ctx w }
outcome_sound ctx given w event (Done v sent) laws accepts x e =
    let m = event_made ctx w v event sent e in
    step_sound ctx given w v m.call laws accepts x (m.takes x.packets) m.step_is

-- events keep a world sound
pub run_sound : (ctx : Context) (given : WorldSettings) (w : World) (events : List Event) → Laws ctx → Accepts ctx given → Sound ctx given w → Kept_sound ctx given w (run ctx w events)
run_sound ctx given w [] laws accepts x = record { sound = x; later = later_self ctx w }
run_sound ctx given w (event ∷ events) laws accepts x =
    let a = outcome_sound ctx given w event (step ctx w event) laws accepts x refl in
    let b = run_sound ctx given (world_after w (step ctx w event)) events laws accepts a.sound in
    record { sound = b.sound; later = later_trans ctx w (world_after w (step ctx w event)) (run ctx (world_after w (step ctx w event)) events) a.later b.later }

pub reached_sound : (ctx : Context) (given : WorldSettings) (w : World) → Reached ctx given w → Sound ctx given w
reached_sound ctx given w r = subst (Sound ctx given) r.leads (run_sound ctx given (opening given) r.events r.laws r.accepts (opening_sound ctx given)).sound
