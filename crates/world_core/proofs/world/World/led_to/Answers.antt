use Rattle.std.proofs.Common.{◌≡◌, map, sym, subst}
use Rattle.claim_model.specs.World.{run}
use Rattle.world_setup.specs.Seen.{event_seen}
use Rattle.world_core.specs.Known.{known_world}
use Rattle.world_core.specs.Parts.{WorldParts, context_of}
use Rattle.world_core.proofs.Running.{reached_run}
use Rattle.world_core.proofs.world.World.led_to.Goals as goal

pub invariant_of-result : goal.invariant_of-result
invariant_of-result c =
    let parts : WorldParts = record { routes = c.self.inside.routes; world = c.self.inside.parts } in
    let events = map event_seen c.args.events.now in
    reached_run parts (known_world c.args.parts) events
    (subst (λ (p : WorldParts). known_world c.args.parts ≡ run (context_of p) p.world events) (sym c.self.view_is) c.requires)
    c.self.invariant
