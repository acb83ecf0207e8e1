-- Lists of accepted events that lead from one world to another, and what they cost.
use Rattle.std.proofs.Common.{◌≡◌, ℕ, ◌+◌, ◌≤◌, Bool, List, [], ◌∷◌, ◌++◌, map, length, Some, refl, sym, ap, ◌∙◌, subst, arith, length-append}
use Rattle.std.specs.Prelude.{filter}
use Rattle.std.specs.List.{AllByRecursion}
use Rattle.std.proofs.lemmas.List.Elements.{filter-append}
use Rattle.claim_model.specs.Context.{Context}
use Rattle.claim_model.specs.Numbered.{numbered}
use Rattle.claim_model.specs.Node.{Node, Pharmacy, Switch, Payer, Sent, Call, Outcome, Done, Refused}
use Rattle.claim_model.specs.World.{World, Packet, Event, Ticking, Delivery, Starting, Adjudication, packet_from, posted, step, world_after, run}
use Rattle.claim_model.specs.Settings.{WorldSettings, opening}
use Rattle.claim_model.specs.Promises.{Reached}
use Rattle.claim_model.proofs.Lists.{all_append, numbered_append, numbered_last}
use Rattle.claim_model.proofs.Runs.{Step, At_pharmacy, At_switch, At_payer, event_made}
use Rattle.claim_recovery.specs.Help.{IsDone, AllDone, is_tick, is_delivery, is_start, how_many}

-- a list of accepted events that may be, from one world to another, with its counts of ticks, deliveries and starts
pub record Path (ctx : Context) (may : Event → Type 0) (w v : World) (ticks deliveries starts : ℕ) : Type 0 where
  pub events : List Event
  pub leads : run ctx w events ≡ v
  pub done : AllDone ctx w events
  pub help : AllByRecursion may events
  pub ticks_are : how_many is_tick events ≡ ticks
  pub deliveries_are : how_many is_delivery events ≡ deliveries
  pub starts_are : how_many is_start events ≡ starts

pub run_append : (ctx : Context) (w : World) (xs ys : List Event) → run ctx w (xs ++ ys) ≡ run ctx (run ctx w xs) ys
run_append ctx w [] ys = refl
run_append ctx w (x ∷ xs) ys = run_append ctx (world_after w (step ctx w x)) xs ys

pub done_append : (ctx : Context) (w : World) (xs ys : List Event) → AllDone ctx w xs → AllDone ctx (run ctx w xs) ys → AllDone ctx w (xs ++ ys)
done_append ctx w [] ys a b = b
done_append ctx w (x ∷ xs) ys a b = (a.0, done_append ctx (world_after w (step ctx w x)) xs ys a.1 b)

how_many_append : (p : Event → Bool) (xs ys : List Event) → how_many p (xs ++ ys) ≡ how_many p xs + how_many p ys
how_many_append p xs ys = ap length (filter-append p xs ys) ∙ length-append (filter p xs) (filter p ys)

pub path_none : (ctx : Context) (may : Event → Type 0) (w : World) → Path ctx may w w 0 0 0
path_none ctx may w = record { events = []; leads = refl; done = tt; help = tt; ticks_are = refl; deliveries_are = refl; starts_are = refl }

-- two paths in turn
pub path_then : (ctx : Context) (may : Event → Type 0) (u v w : World) (t d s t' d' s' : ℕ) → Path ctx may u v t d s → Path ctx may v w t' d' s' → Path ctx may u w (t + t') (d + d') (s + s')
path_then ctx may u v w t d s t' d' s' p q =
    record {
      events = p.events ++ q.events;
      leads = run_append ctx u p.events q.events ∙ (ap (λ (x : World). run ctx x q.events) p.leads ∙ q.leads);
      done = done_append ctx u p.events q.events p.done (subst (λ (x : World). AllDone ctx x q.events) (sym p.leads) q.done);
      help = all_append may p.events q.events p.help q.help;
      ticks_are = omega (arith, how_many_append is_tick p.events q.events, p.ticks_are, q.ticks_are);
      deliveries_are = omega (arith, how_many_append is_delivery p.events q.events, p.deliveries_are, q.deliveries_are);
      starts_are = omega (arith, how_many_append is_start p.events q.events, p.starts_are, q.starts_are);
    }

-- the same, with totals that are equal by arithmetic
pub path_join : (ctx : Context) (may : Event → Type 0) (u v w : World) (t d s t' d' s' ticks deliveries starts : ℕ) → Path ctx may u v t d s → Path ctx may v w t' d' s' → t + t' ≡ ticks → d + d' ≡ deliveries → s + s' ≡ starts → Path ctx may u w ticks deliveries starts
path_join ctx may u v w t d s t' d' s' ticks deliveries starts p q e f g =
    let a = path_then ctx may u v w t d s t' d' s' p q in
    record { events = a.events; leads = a.leads; done = a.done; help = a.help; ticks_are = a.ticks_are ∙ e; deliveries_are = a.deliveries_are ∙ f; starts_are = a.starts_are ∙ g }

-- one accepted event

is_done : (ctx : Context) (w v : World) (event : Event) (sent : List Sent) → step ctx w event ≡ Done v sent → IsDone (step ctx w event)
is_done ctx w v event sent e = subst IsDone (sym e) tt

leads_to : (ctx : Context) (w v : World) (event : Event) (sent : List Sent) → step ctx w event ≡ Done v sent → run ctx w (event ∷ []) ≡ v
leads_to ctx w v event sent e = ap (world_after w) e

pub path_tick : (ctx : Context) (may : Event → Type 0) (w v : World) (n : ℕ) (sent : List Sent) → may (Ticking n) → step ctx w (Ticking n) ≡ Done v sent → Path ctx may w v 1 0 0
path_tick ctx may w v n sent m e =
    record { events = Ticking n ∷ []; leads = leads_to ctx w v (Ticking n) sent e; done = (is_done ctx w v (Ticking n) sent e, tt); help = (m, tt); ticks_are = refl; deliveries_are = refl; starts_are = refl }

pub path_adjudication : (ctx : Context) (may : Event → Type 0) (w v : World) (k : ℕ) (advice : List ℕ) (sent : List Sent) → may (Adjudication k advice) → step ctx w (Adjudication k advice) ≡ Done v sent → Path ctx may w v 0 1 0
path_adjudication ctx may w v k advice sent m e =
    record { events = Adjudication k advice ∷ []; leads = leads_to ctx w v (Adjudication k advice) sent e; done = (is_done ctx w v (Adjudication k advice) sent e, tt); help = (m, tt); ticks_are = refl; deliveries_are = refl; starts_are = refl }

pub path_delivery : (ctx : Context) (may : Event → Type 0) (w v : World) (k : ℕ) (sent : List Sent) → may (Delivery k) → step ctx w (Delivery k) ≡ Done v sent → Path ctx may w v 0 1 0
path_delivery ctx may w v k sent m e =
    record { events = Delivery k ∷ []; leads = leads_to ctx w v (Delivery k) sent e; done = (is_done ctx w v (Delivery k) sent e, tt); help = (m, tt); ticks_are = refl; deliveries_are = refl; starts_are = refl }

pub path_start : (ctx : Context) (may : Event → Type 0) (w v : World) (node : Node) (sent : List Sent) → may (Starting node) → step ctx w (Starting node) ≡ Done v sent → Path ctx may w v 0 0 1
path_start ctx may w v node sent m e =
    record { events = Starting node ∷ []; leads = leads_to ctx w v (Starting node) sent e; done = (is_done ctx w v (Starting node) sent e, tt); help = (m, tt); ticks_are = refl; deliveries_are = refl; starts_are = refl }

-- events lead on from a reached world
pub reached_on : (ctx : Context) (given : WorldSettings) (w v : World) (events : List Event) → Reached ctx given w → run ctx w events ≡ v → Reached ctx given v
reached_on ctx given w v events r e =
    record { laws = r.laws; accepts = r.accepts; events = r.events ++ events; leads = run_append ctx (opening given) r.events events ∙ (ap (λ (x : World). run ctx x events) r.leads ∙ e) }

pub reached_by : (ctx : Context) (given : WorldSettings) (may : Event → Type 0) (w v : World) (t d s : ℕ) → Reached ctx given w → Path ctx may w v t d s → Reached ctx given v
reached_by ctx given may w v t d s r p = reached_on ctx given w v p.events r p.leads

-- packets

-- a packet that stands stays
pub packet_stays : (packets : List Packet) (node : Node) (sent : List Sent) (k : ℕ) (p : Packet) → numbered packets k ≡ Some p → numbered (posted packets node sent) k ≡ Some p
packet_stays packets node sent k p e = numbered_append packets (map (packet_from node) sent) k p e

-- the one packet that a step sends
pub packet_new : (packets : List Packet) (node : Node) (s : Sent) → numbered (posted packets node (s ∷ [])) (length packets + 1) ≡ Some (packet_from node s)
packet_new packets node s = numbered_last packets (packet_from node s)

-- packets are never used up

more_packets : (packets : List Packet) (node : Node) (sent : List Sent) → length packets ≤ length (posted packets node sent)
more_packets packets node sent = omega (arith, length-append packets (map (packet_from node) sent))

step_grows : (ctx : Context) (w v : World) (call : Call) → Step ctx w v call → length w.packets ≤ length v.packets
step_grows ctx w v call (At_pharmacy n s next sent is e f) = subst (λ (x : World). length w.packets ≤ length x.packets) (sym f) (more_packets w.packets (Pharmacy n) sent)
step_grows ctx w v call (At_switch n s next sent is e f) = subst (λ (x : World). length w.packets ≤ length x.packets) (sym f) (more_packets w.packets (Switch n) sent)
step_grows ctx w v call (At_payer n s next sent is e f) = subst (λ (x : World). length w.packets ≤ length x.packets) (sym f) (more_packets w.packets (Payer n) sent)

outcome_grows : (ctx : Context) (w : World) (event : Event) (o : Outcome World) → step ctx w event ≡ o → length w.packets ≤ length (world_after w o).packets
outcome_grows ctx w event (Refused f) e = omega arith
outcome_grows ctx w event (Done v sent) e = let m = event_made ctx w v event sent e in step_grows ctx w v m.call m.step_is

pub run_grows : (ctx : Context) (w : World) (events : List Event) → length w.packets ≤ length (run ctx w events).packets
run_grows ctx w [] = omega arith
run_grows ctx w (event ∷ events) =
    let a = outcome_grows ctx w event (step ctx w event) refl in
    let b = run_grows ctx (world_after w (step ctx w event)) events in
    omega (arith, a, b)

pub path_grows : (ctx : Context) (may : Event → Type 0) (w v : World) (t d s : ℕ) → Path ctx may w v t d s → length w.packets ≤ length v.packets
path_grows ctx may w v t d s p = subst (λ (x : World). length w.packets ≤ length x.packets) p.leads (run_grows ctx w p.events)
