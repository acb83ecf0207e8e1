-- In every world that events lead to, each packet is addressed to a node that it is for.
use Rattle.std.proofs.Common.{◌≡◌, ℕ, zero, suc, ◌+◌, List, [], ◌∷◌, ◌++◌, map, length, Option, Some, None, refl, sym, ap, ◌∙◌, subst, inl, arith}
use Rattle.std.specs.List.{AllByRecursion}
use Rattle.std.proofs.lemmas.List.{length-set}
use Rattle.claim_model.specs.Context.{Context}
use Rattle.claim_model.specs.Laws.{Laws}
use Rattle.claim_model.specs.Numbered.{numbered, renumbered}
use Rattle.claim_model.specs.Rows.{Book}
use Rattle.claim_model.specs.Journal.{Journal, JournalAtRest, stopped}
use Rattle.claim_model.specs.Table.{Table}
use Rattle.claim_model.specs.Node.{Node, Pharmacy, Switch, Payer, Power, Sent, Call, Submit, Tick, Take, Stop, Start, Revise, Adjudicate, Outcome, Done, Refused, pharmacy_step, switch_step, payer_step}
use Rattle.claim_model.specs.World.{World, Packet, Event, Submission, Ticking, Delivery, Stopping, Starting, Revising, Adjudication, packet_from, on_pharmacy, on_switch, on_payer, on_node, delivered, adjudicated, step, world_after, run}
use Rattle.claim_model.specs.Settings.{WorldSettings, PayerSettings, Accepts, pharmacies_from, switches_of, payers_from, opening}
use Rattle.claim_model.specs.Held.{journal_in}
use Rattle.claim_model.specs.Carried.{IsVouched}
use Rattle.claim_model.specs.Promises.{Reached}
use Rattle.claim_model.proofs.Lists.{all_at, all_append, all_map, numbered_within, numbered_put}
use Rattle.claim_model.proofs.Sound.{Sound, SoundPacket, each_put, with_pharmacy}
use Rattle.claim_model.proofs.PharmacyStep.{pharmacy_sound}
use Rattle.claim_model.proofs.SwitchStep.{switch_sound}
use Rattle.claim_model.proofs.PayerStep.{payer_sound}
use Rattle.claim_model.proofs.Runs.{pharmacy_done, switch_done, payer_done, pharmacy_opens, opening_sound}
use Rattle.claim_model.proofs.Phases.{IsThere, HasSwitches, HasRule, has_switches}
use Rattle.claim_model.proofs.Rules.{keeps_rule}
use Rattle.claim_model.proofs.Addressed.{Addressed, SentWell, CallIsFor, PowerPhases, pharmacy_sends, switch_sends, payer_sends}

pub record Posted (ctx : Context) (given : WorldSettings) (w : World) : Type 0 where
  pub sound : Sound ctx given w
  pub switches : length w.switches ≡ length given.switches
  pub payers : length w.payers ≡ length given.payers
  pub phases : (n : ℕ) (s : Power Journal JournalAtRest) → numbered w.pharmacies n ≡ Some s → PowerPhases s
  pub rules : (n : ℕ) (s : Power Journal JournalAtRest) → numbered w.pharmacies n ≡ Some s → HasRule ctx (journal_in s)
  pub packets : AllByRecursion (Addressed ctx given) w.packets

length_renumbered : {A : Type 0} (xs : List A) (n : ℕ) (a : A) → length (renumbered xs n a) ≡ length xs
length_renumbered xs zero a = refl
length_renumbered xs (suc k) a = length-set xs k a

-- what is sent well is addressed well
posted_all : (ctx : Context) (given : WorldSettings) (node : Node) (packets : List Packet) (out : List Sent) → AllByRecursion (Addressed ctx given) packets → AllByRecursion (SentWell ctx given node) out
    → AllByRecursion (Addressed ctx given) (packets ++ map (packet_from node) out)
posted_all ctx given node packets out a b =
    all_append (Addressed ctx given) packets (map (packet_from node) out) a (all_map (SentWell ctx given node) (Addressed ctx given) (packet_from node) (λ s h. h) out b)

-- the rule of a pharmacy names switches that are there
switches_of_pharmacy : (ctx : Context) (given : WorldSettings) (w : World) (n : ℕ) (s : Power Journal JournalAtRest) → Accepts ctx given → Sound ctx given w → HasRule ctx (journal_in s) → numbered w.pharmacies n ≡ Some s
    → HasSwitches (journal_in s).rule (length given.switches)
switches_of_pharmacy ctx given w n s accepts x h is = has_switches ctx given n (journal_in s) accepts (x.pharmacies n s is).settings h

pharmacy_posts : (ctx : Context) (given : WorldSettings) (w v : World) (n : ℕ) (call : Call) (sent : List Sent) (o : Option (Power Journal JournalAtRest)) → Laws ctx → Accepts ctx given → Posted ctx given w → IsVouched ctx w call
    → numbered w.pharmacies n ≡ o → on_pharmacy ctx w n call o ≡ Done v sent → Posted ctx given v
pharmacy_posts ctx given w v n call sent None laws accepts p c is e = absurd cc
pharmacy_posts ctx given w v n call sent (Some s) laws accepts p c is e =
    let d = pharmacy_done w n (pharmacy_step ctx s call) v sent e in
    let k = pharmacy_sound ctx given w n s d.0 call sent laws accepts p.sound is c d.1 in
    let rule : HasRule ctx (journal_in d.0) = keeps_rule ctx s d.0 call sent d.1 (p.rules n s is) in
    let after = switches_of_pharmacy ctx given (with_pharmacy w n d.0 sent) n d.0 accepts k.sound rule (numbered_put w.pharmacies n s d.0 is) in
    let t = pharmacy_sends ctx given n s d.0 call sent (switches_of_pharmacy ctx given w n s accepts p.sound (p.rules n s is) is) after (p.phases n s is) d.1 in
    subst (Posted ctx given) (sym d.2)
    (record {
      sound = k.sound;
      switches = p.switches;
      payers = p.payers;
      phases = each_put (λ m q. PowerPhases q) w.pharmacies n s d.0 is p.phases t.phases;
      rules = each_put (λ m q. HasRule ctx (journal_in q)) w.pharmacies n s d.0 is p.rules rule;
      packets = posted_all ctx given (Pharmacy n) w.packets sent p.packets t.sends;
    })

switch_posts : (ctx : Context) (given : WorldSettings) (w v : World) (n : ℕ) (call : Call) (sent : List Sent) (o : Option (Power Table ℕ)) → Laws ctx → Accepts ctx given → Posted ctx given w → IsVouched ctx w call
    → numbered w.switches n ≡ o → on_switch ctx w n call o ≡ Done v sent → Posted ctx given v
switch_posts ctx given w v n call sent None laws accepts p c is e = absurd cc
switch_posts ctx given w v n call sent (Some s) laws accepts p c is e =
    let d = switch_done w n (switch_step ctx s call) v sent e in
    let k = switch_sound ctx given w n s d.0 call sent laws p.sound is c d.1 in
    let in' = numbered_within w.switches n s is in
    let there : IsThere n (length given.switches) = record { above = in'.0; within = omega (arith, in'.1, p.switches) } in
    subst (Posted ctx given) (sym d.2)
    (record {
      sound = k.sound;
      switches = length_renumbered w.switches n d.0 ∙ p.switches;
      payers = p.payers;
      phases = p.phases;
      rules = p.rules;
      packets = posted_all ctx given (Switch n) w.packets sent p.packets (switch_sends ctx given w n s d.0 call sent laws p.sound there (p.sound.switches n s is) c d.1);
    })

payer_posts : (ctx : Context) (given : WorldSettings) (w v : World) (n : ℕ) (call : Call) (sent : List Sent) (o : Option (Power Book Book)) → Laws ctx → Accepts ctx given → Posted ctx given w → IsVouched ctx w call → CallIsFor ctx given (Payer n) call
    → numbered w.payers n ≡ o → on_payer ctx w n call o ≡ Done v sent → Posted ctx given v
payer_posts ctx given w v n call sent None laws accepts p c f is e = absurd cc
payer_posts ctx given w v n call sent (Some s) laws accepts p c f is e =
    let d = payer_done w n (payer_step ctx s call) v sent e in
    let k = payer_sound ctx given w n s d.0 call sent laws accepts p.sound is c d.1 in
    subst (Posted ctx given) (sym d.2)
    (record {
      sound = k.sound;
      switches = p.switches;
      payers = length_renumbered w.payers n d.0 ∙ p.payers;
      phases = p.phases;
      rules = p.rules;
      packets = posted_all ctx given (Payer n) w.packets sent p.packets (payer_sends ctx given w n s d.0 call sent laws c f d.1);
    })

node_posts : (ctx : Context) (given : WorldSettings) (w v : World) (node : Node) (call : Call) (sent : List Sent) → Laws ctx → Accepts ctx given → Posted ctx given w → IsVouched ctx w call → CallIsFor ctx given node call
    → on_node ctx w node call ≡ Done v sent → Posted ctx given v
node_posts ctx given w v (Pharmacy n) call sent laws accepts p c f e = pharmacy_posts ctx given w v n call sent (numbered w.pharmacies n) laws accepts p c refl e
node_posts ctx given w v (Switch n) call sent laws accepts p c f e = switch_posts ctx given w v n call sent (numbered w.switches n) laws accepts p c refl e
node_posts ctx given w v (Payer n) call sent laws accepts p c f e = payer_posts ctx given w v n call sent (numbered w.payers n) laws accepts p c f refl e

delivery_posts : (ctx : Context) (given : WorldSettings) (w v : World) (k : ℕ) (sent : List Sent) (o : Option Packet) → Laws ctx → Accepts ctx given → Posted ctx given w → numbered w.packets k ≡ o → delivered ctx w o ≡ Done v sent → Posted ctx given v
delivery_posts ctx given w v k sent None laws accepts p is e = absurd cc
delivery_posts ctx given w v k sent (Some q) laws accepts p is e =
    node_posts ctx given w v q.to (Take q.from q.bytes) sent laws accepts p (all_at (SoundPacket ctx w) w.packets k q p.sound.packets is) (all_at (Addressed ctx given) w.packets k q p.packets is) e

adjudication_posts : (ctx : Context) (given : WorldSettings) (w v : World) (k : ℕ) (advice : List ℕ) (sent : List Sent) (o : Option Packet) → Laws ctx → Accepts ctx given → Posted ctx given w → numbered w.packets k ≡ o → adjudicated ctx w advice o ≡ Done v sent → Posted ctx given v
adjudication_posts ctx given w v k advice sent None laws accepts p is e = absurd cc
adjudication_posts ctx given w v k advice sent (Some q) laws accepts p is e =
    node_posts ctx given w v q.to (Adjudicate q.from q.bytes advice) sent laws accepts p (all_at (SoundPacket ctx w) w.packets k q p.sound.packets is) (all_at (Addressed ctx given) w.packets k q p.packets is) e

event_posts : (ctx : Context) (given : WorldSettings) (w v : World) (event : Event) (sent : List Sent) → Laws ctx → Accepts ctx given → Posted ctx given w → step ctx w event ≡ Done v sent → Posted ctx given v
unfolding step
event_posts ctx given w v (Submission n text) sent laws accepts p e = node_posts ctx given w v (Pharmacy n) (Submit text) sent laws accepts p tt tt e
event_posts ctx given w v (Ticking n) sent laws accepts p e = node_posts ctx given w v (Pharmacy n) Tick sent laws accepts p tt tt e
event_posts ctx given w v (Delivery k) sent laws accepts p e = delivery_posts ctx given w v k sent (numbered w.packets k) laws accepts p refl e
event_posts ctx given w v (Stopping node) sent laws accepts p e = node_posts ctx given w v node Stop sent laws accepts p tt tt e
event_posts ctx given w v (Starting node) sent laws accepts p e = node_posts ctx given w v node Start sent laws accepts p tt tt e
event_posts ctx given w v (Revising node revision) sent laws accepts p e = node_posts ctx given w v node (Revise revision) sent laws accepts p tt tt e
event_posts ctx given w v (Adjudication k advice) sent laws accepts p e = adjudication_posts ctx given w v k advice sent (numbered w.packets k) laws accepts p refl e

outcome_posts : (ctx : Context) (given : WorldSettings) (w : World) (event : Event) (o : Outcome World) → Laws ctx → Accepts ctx given → Posted ctx given w → step ctx w event ≡ o → Posted ctx given (world_after w o)
outcome_posts ctx given w event (Refused f) laws accepts p e = p
outcome_posts ctx given w event (Done v sent) laws accepts p e = event_posts ctx given w v event sent laws accepts p e

run_posts : (ctx : Context) (given : WorldSettings) (w : World) (events : List Event) → Laws ctx → Accepts ctx given → Posted ctx given w → Posted ctx given (run ctx w events)
run_posts ctx given w [] laws accepts p = p
run_posts ctx given w (event ∷ events) laws accepts p =
    run_posts ctx given (world_after w (step ctx w event)) events laws accepts (outcome_posts ctx given w event (step ctx w event) laws accepts p refl)

pub length_switches : (caps : List ℕ) → length (switches_of caps) ≡ length caps
length_switches [] = refl
length_switches (c ∷ caps) = ap suc (length_switches caps)

length_payers : (m : ℕ) (ss : List PayerSettings) → length (payers_from m ss) ≡ length ss
length_payers m [] = refl
length_payers m (s ∷ ss) = ap suc (length_payers (m + 1) ss)

opening_phases : (given : WorldSettings) (n : ℕ) (s : Power Journal JournalAtRest) → numbered (pharmacies_from 1 given.pharmacies) n ≡ Some s → PowerPhases s
opening_phases given zero s e = absurd cc
opening_phases given (suc k) s e = let r = pharmacy_opens 1 given.pharmacies k s e in subst PowerPhases (sym r.2) tt

opening_rules : (ctx : Context) (given : WorldSettings) (n : ℕ) (s : Power Journal JournalAtRest) → numbered (pharmacies_from 1 given.pharmacies) n ≡ Some s → HasRule ctx (journal_in s)
unfolding stopped
opening_rules ctx given zero s e = absurd cc
opening_rules ctx given (suc k) s e = let r = pharmacy_opens 1 given.pharmacies k s e in subst (λ q. HasRule ctx (journal_in q)) (sym r.2) (inl refl)

pub reached_posts : (ctx : Context) (given : WorldSettings) (w : World) → Reached ctx given w → Posted ctx given w
reached_posts ctx given w r =
    subst (Posted ctx given) r.leads
    (run_posts ctx given (opening given) r.events r.laws r.accepts
    (record { sound = opening_sound ctx given; switches = length_switches given.switches; payers = length_payers 1 given.payers; phases = opening_phases given; rules = opening_rules ctx given; packets = tt }))
