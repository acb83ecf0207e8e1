-- How a run of events goes on, event by event, and ends.
use Rattle.std.proofs.Common.{◌≡◌, ℕ, ◌+◌, ◌<◌, ◌≤◌, List, ◌∷◌, length, drop, get_or, map, sym, ap, ◌∙◌}
use Rattle.std.proofs.lemmas.List.{at_drop_more, drop_all}
use Rattle.claim_model.specs.Context.{Context}
use Rattle.claim_model.specs.World.{World, step, world_after, run}
use Rattle.world_setup.specs.declared.event.Event.{Event}
use Rattle.world_setup.specs.Seen.{event_seen}

-- the world after an event, and after the others
pub run_goes_on : (ctx : Context) (w v last : World) (events : List Event) (i : ℕ) (event : Event) → i < length events → event ≡ get_or events i event
    → v ≡ world_after w (step ctx w (event_seen event)) → run ctx w (map event_seen (drop i events)) ≡ last → run ctx v (map event_seen (drop (i + 1) events)) ≡ last
run_goes_on ctx w v last events i event lt is made so_far =
    let after = λ (left : List Event). run ctx w (map event_seen left) in
    let more = drop (i + 1) events in
    ap (λ (u : World). run ctx u (map event_seen more)) made ∙ (ap (λ (e : Event). after (e ∷ more)) is ∙ (sym (at_drop_more after events i event lt) ∙ so_far))

pub run_is_done : (ctx : Context) (w last : World) (events : List Event) (i : ℕ) → length events ≤ i → run ctx w (map event_seen (drop i events)) ≡ last → w ≡ last
run_is_done ctx w last events i le so_far = sym (ap (λ (left : List Event). run ctx w (map event_seen left)) (drop_all i events le)) ∙ so_far
