-- Lists of events, and that every world is reached.
use Rattle.std.proofs.Common.{◌≡◌, ℕ, zero, suc, ◌+◌, ◌<◌, List, [], ◌∷◌, ◌++◌, map, take, length, get_or, Some, refl, sym, ap, ◌∙◌, subst, arith, add-one}
use Rattle.world_setup.specs.declared.event.Event.{Event as Told}
use Rattle.world_setup.specs.Seen.{event_seen}
use Rattle.bin_routes.specs.Table.{RouteMaps}
use Rattle.claim_model.specs.Context.{Context}
use Rattle.claim_model.specs.Laws.{Laws}
use Rattle.claim_model.specs.Bytes.{bytes_with}
use Rattle.claim_model.specs.Node.{Outcome, Done, Refused}
use Rattle.claim_model.specs.Settings.{WorldSettings, Accepts, opening}
use Rattle.claim_model.specs.World.{World, Event, step, world_after, run}
use Rattle.claim_model.specs.Promises.{Reached}
use Rattle.claim_recovery.specs.Help.{Timely}
use Rattle.world_core.specs.Parts.{WorldParts, IsReached}
use Rattle.world_core.specs.Stepping.{next_of}
use Rattle.claim_model.proofs.GoingOn.{run_append}

-- one event more
pub one_more : (ctx : Context) (settings : WorldSettings) (w : World) (event : Event) → Reached ctx settings w → Reached ctx settings (world_after w (step ctx w event))
one_more ctx settings w event r = record {
  laws = r.laws;
  accepts = r.accepts;
  events = r.events ++ event ∷ [];
  leads = run_append ctx (opening settings) r.events (event ∷ []) ∙ ap (λ (v : World). world_after v (step ctx v event)) r.leads;
}

pub after_next : (w v : World) (o : Outcome World) → next_of o ≡ Some v → world_after w o ≡ v
after_next w v (Done next sent) e = cc
after_next w v (Refused why) e = absurd cc

-- an event that is made leads from a reached world to a reached one
pub reached_next : (routes : RouteMaps) (w v : World) (event : Event) → next_of (step (bytes_with routes) w event) ≡ Some v → IsReached routes w → IsReached routes v
reached_next routes w v event e r = record {
  settings = r.settings;
  reached = subst (Reached (bytes_with routes) r.settings) (after_next w v (step (bytes_with routes) w event) e) (one_more (bytes_with routes) r.settings w event r.reached);
  timely = r.timely;
}

-- many events more
pub many_more : (ctx : Context) (settings : WorldSettings) (w : World) (events : List Event) → Reached ctx settings w → Reached ctx settings (run ctx w events)
many_more ctx settings w events r = record {
  laws = r.laws;
  accepts = r.accepts;
  events = r.events ++ events;
  leads = run_append ctx (opening settings) r.events events ∙ ap (λ (v : World). run ctx v events) r.leads;
}

-- a run leads from a reached world to a reached one
pub reached_run : (parts : WorldParts) (v : World) (events : List Event) → v ≡ run (bytes_with parts.routes) parts.world events → IsReached parts.routes parts.world → IsReached parts.routes v
reached_run parts v events e r = record {
  settings = r.settings;
  reached = subst (Reached (bytes_with parts.routes) r.settings) (sym e) (many_more (bytes_with parts.routes) r.settings parts.world events r.reached);
  timely = r.timely;
}

-- the opening world is reached by no event
pub reached_first : (routes : RouteMaps) (settings : WorldSettings) → Laws (bytes_with routes) → Accepts (bytes_with routes) settings → Timely settings → IsReached routes (opening settings)
reached_first routes settings laws accepts timely = record { settings = settings; reached = record { laws = laws; accepts = accepts; events = []; leads = refl }; timely = timely }

-- one event more of a list
run_suc : (ctx : Context) (w v : World) (xs : List Told) (k : ℕ) (x : Told) → k < length xs → x ≡ get_or xs k x → v ≡ run ctx w (map event_seen (take k xs)) → world_after v (step ctx v (event_seen x)) ≡ run ctx w (map event_seen (take (suc k) xs))
run_suc ctx w v [] k x h e made = absurd (omega arith)
run_suc ctx w v (y ∷ xs) zero x h e made = ap (λ (u : World). world_after u (step ctx u (event_seen x))) made ∙ ap (λ (z : Told). world_after w (step ctx w (event_seen z))) e
run_suc ctx w v (y ∷ xs) (suc k) x h e made = run_suc ctx (world_after w (step ctx w (event_seen y))) v xs k x (omega arith) e made

pub run_more : (ctx : Context) (w v : World) (xs : List Told) (k : ℕ) (x : Told) → k < length xs → x ≡ get_or xs k x → v ≡ run ctx w (map event_seen (take k xs)) → world_after v (step ctx v (event_seen x)) ≡ run ctx w (map event_seen (take (k + 1) xs))
run_more ctx w v xs k x h e made = rw add-one (run_suc ctx w v xs k x h e made)
