-- The calls of pharmacies and payers in a run are vouched for, and lead to where it leads.
use Rattle.std.proofs.Common.{◌≡◌, ℕ, List, [], ◌∷◌, ◌++◌, Option, Some, None, refl, sym, ap, ◌∙◌, subst}
use Rattle.std.specs.List.{AllByRecursion}
use Rattle.claim_model.specs.Context.{Context}
use Rattle.claim_model.specs.Laws.{Laws}
use Rattle.claim_model.specs.Numbered.{numbered}
use Rattle.claim_model.specs.Rows.{Book}
use Rattle.claim_model.specs.Journal.{Journal, JournalAtRest}
use Rattle.claim_model.specs.Table.{Table}
use Rattle.claim_model.specs.Node.{Node, Pharmacy, Switch, Payer, Power, Sent, Call, Submit, Tick, Stop, Start, Revise, Done, Refused, pharmacy_step, switch_step, payer_step}
use Rattle.claim_model.specs.World.{World, Event, Submission, Ticking, Delivery, Stopping, Starting, Revising, Adjudication, pharmacy_stepped, on_pharmacy, on_switch, payer_stepped, on_payer, on_node, step, run}
use Rattle.claim_model.specs.Settings.{WorldSettings, Accepts, opening}
use Rattle.claim_model.specs.Nodes.{Asked, taking, adjudicating, asked, asked_step}
use Rattle.claim_model.specs.Carried.{IsVouched}
use Rattle.claim_model.specs.Promises.{Reached}
use Rattle.claim_model.proofs.Lists.{all_at}
use Rattle.claim_model.proofs.Options.{map_some, same_some}
use Rattle.claim_model.proofs.Sound.{SoundPacket, Sound, with_pharmacy, with_payer}
use Rattle.claim_model.proofs.Runs.{pharmacy_done, switch_done, payer_done, run_sound, opening_sound, reached_sound}
use Rattle.claim_model.proofs.Steps.{step_asked}
use Rattle.claim_model.proofs.Ends.{Unchanged, One_call, ended}
use Rattle.claim_model.proofs.Replaying.{run_unchanged}
use Rattle.crash_safety.specs.Explained.{Turn, turns_at, outside}
use Rattle.crash_safety.proofs.Tracking.{outside_unchanged, outside_called}
use Rattle.vouched_runs.specs.Parties.{world_of, parties_in}
use Rattle.vouched_runs.specs.Vouched.{Leads, Vouched}
use Rattle.vouched_runs.proofs.Apart.{apart_later, vouched_later}
use Rattle.vouched_runs.proofs.Leading.{leads_joined}

-- ---- what an event asks of a node is vouched for

abbrev AskedVouched : Context → World → Asked → Type 0
AskedVouched ctx w a = IsVouched ctx w a.call

asked_vouched : (ctx : Context) (w : World) (event : Event) (a : Asked) → AllByRecursion (SoundPacket ctx w) w.packets → asked w.packets event ≡ Some a → AskedVouched ctx w a
asked_vouched ctx w (Submission n text) a all e = subst (AskedVouched ctx w) (same_some (record { node = Pharmacy n; call = Submit text }) a e) tt
asked_vouched ctx w (Ticking n) a all e = subst (AskedVouched ctx w) (same_some (record { node = Pharmacy n; call = Tick }) a e) tt
asked_vouched ctx w (Delivery k) a all e =
    let t = map_some taking (numbered w.packets k) a e in
    subst (AskedVouched ctx w) t.2 (all_at (SoundPacket ctx w) w.packets k t.0 all t.1)
asked_vouched ctx w (Stopping node) a all e = subst (AskedVouched ctx w) (same_some (record { node = node; call = Stop }) a e) tt
asked_vouched ctx w (Starting node) a all e = subst (AskedVouched ctx w) (same_some (record { node = node; call = Start }) a e) tt
asked_vouched ctx w (Revising node revision) a all e = subst (AskedVouched ctx w) (same_some (record { node = node; call = Revise revision }) a e) tt
asked_vouched ctx w (Adjudication k advice) a all e =
    let t = map_some (adjudicating advice) (numbered w.packets k) a e in
    subst (AskedVouched ctx w) t.2 (all_at (SoundPacket ctx w) w.packets k t.0 all t.1)

-- ---- one call, of the world and of its parties alone

pharmacy_alone : (ctx : Context) (w v : World) (n : ℕ) (call : Call) (sent : List Sent) (o : Option (Power Journal JournalAtRest)) → on_pharmacy ctx w n call o ≡ Done v sent
    → (u : World) × (on_pharmacy ctx (world_of (parties_in w)) n call o ≡ Done u sent) × (parties_in u ≡ parties_in v)
pharmacy_alone ctx w v n call sent None e = absurd cc
pharmacy_alone ctx w v n call sent (Some s) e =
    let a : World = world_of (parties_in w) in
    let d = pharmacy_done w n (pharmacy_step ctx s call) v sent e in
    (with_pharmacy a n d.0 sent, ap (pharmacy_stepped a n) d.1, ap parties_in (sym d.2))

payer_alone : (ctx : Context) (w v : World) (n : ℕ) (call : Call) (sent : List Sent) (o : Option (Power Book Book)) → on_payer ctx w n call o ≡ Done v sent
    → (u : World) × (on_payer ctx (world_of (parties_in w)) n call o ≡ Done u sent) × (parties_in u ≡ parties_in v)
payer_alone ctx w v n call sent None e = absurd cc
payer_alone ctx w v n call sent (Some s) e =
    let a : World = world_of (parties_in w) in
    let d = payer_done w n (payer_step ctx s call) v sent e in
    (with_payer a n d.0 sent, ap (payer_stepped a n) d.1, ap parties_in (sym d.2))

switch_alone : (ctx : Context) (w v : World) (n : ℕ) (call : Call) (sent : List Sent) (o : Option (Power Table ℕ)) → on_switch ctx w n call o ≡ Done v sent → parties_in w ≡ parties_in v
switch_alone ctx w v n call sent None e = absurd cc
switch_alone ctx w v n call sent (Some s) e = ap parties_in (sym (switch_done w n (switch_step ctx s call) v sent e).2)

turn_leads : (ctx : Context) (w v : World) (node : Node) (call : Call) (sent : List Sent) → IsVouched ctx w call → on_node ctx w node call ≡ Done v sent → Leads ctx (parties_in w) (turns_at node call sent) (parties_in v)
turn_leads ctx w v (Pharmacy n) call sent x e = (vouched_later ctx w (world_of (parties_in w)) call (apart_later ctx w) x, pharmacy_alone ctx w v n call sent (numbered w.pharmacies n) e)
turn_leads ctx w v (Switch n) call sent x e = switch_alone ctx w v n call sent (numbered w.switches n) e
turn_leads ctx w v (Payer n) call sent x e = (vouched_later ctx w (world_of (parties_in w)) call (apart_later ctx w) x, payer_alone ctx w v n call sent (numbered w.payers n) e)

-- ---- one event after another

sound_after : (ctx : Context) (given : WorldSettings) (w v : World) (event : Event) (sent : List Sent) → Laws ctx → Accepts ctx given → Sound ctx given w → step ctx w event ≡ Done v sent → Sound ctx given v
sound_after ctx given w v event sent laws accepts x q = subst (Sound ctx given) (run_unchanged ctx w event [] (Done v sent) q) (run_sound ctx given w (event ∷ []) laws accepts x).sound

sound_on : (ctx : Context) (given : WorldSettings) (w : World) (events : List Event) → Laws ctx → Accepts ctx given → Sound ctx given w → Leads ctx (parties_in w) (outside ctx w events) (parties_in (run ctx w events))
sound_on ctx given w [] laws accepts x = refl
sound_on ctx given w (event ∷ events) laws accepts x =
    elim (ended ctx w event) [
      | Unchanged why q ↦
          subst (λ (ts : List Turn). Leads ctx (parties_in w) ts (parties_in (run ctx w (event ∷ events)))) (sym (outside_unchanged ctx w event events why q))
          (subst (λ (u : World). Leads ctx (parties_in w) (outside ctx w events) (parties_in u)) (sym (run_unchanged ctx w event events (Refused why) q)) (sound_on ctx given w events laws accepts x))
      | One_call a v sent p q f ↦
          let e : on_node ctx w a.node a.call ≡ Done v sent = sym (ap (asked_step ctx w) p) ∙ (sym (step_asked ctx w event) ∙ q) in
          let first = turn_leads ctx w v a.node a.call sent (asked_vouched ctx w event a x.packets p) e in
          let rest = sound_on ctx given v events laws accepts (sound_after ctx given w v event sent laws accepts x q) in
          subst (λ (ts : List Turn). Leads ctx (parties_in w) ts (parties_in (run ctx w (event ∷ events)))) (sym (outside_called ctx w v event events a sent p q))
          (subst (λ (u : World). Leads ctx (parties_in w) (turns_at a.node a.call sent ++ outside ctx v events) (parties_in u)) (sym (run_unchanged ctx w event events (Done v sent) q))
          (leads_joined ctx (parties_in w) (parties_in v) (parties_in (run ctx v events)) (turns_at a.node a.call sent) (outside ctx v events) first rest))
    ]

pub runs_on : (ctx : Context) (settings : WorldSettings) (w : World) (events : List Event) → Reached ctx settings w → Leads ctx (parties_in w) (outside ctx w events) (parties_in (run ctx w events))
runs_on ctx settings w events r = sound_on ctx settings w events r.laws r.accepts (reached_sound ctx settings w r)

pub runs_vouched : (ctx : Context) (settings : WorldSettings) (w : World) → Reached ctx settings w → Vouched ctx settings (parties_in w)
runs_vouched ctx settings w r =
    let o : World = opening settings in
    record {
      laws = r.laws;
      accepts = r.accepts;
      turns = outside ctx o r.events;
      leads = subst (λ (u : World). Leads ctx (parties_in o) (outside ctx o r.events) (parties_in u)) r.leads (sound_on ctx settings o r.events r.laws r.accepts (opening_sound ctx settings));
    }
