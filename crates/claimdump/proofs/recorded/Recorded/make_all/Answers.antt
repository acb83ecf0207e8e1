use Rattle.std.proofs.Common.{◌+◌, List, ◌∷◌, drop, map, sym, ap, subst, ◌∙◌}
use Rattle.std.proofs.lemmas.List.{at_drop_more}
use Rattle.world_setup.specs.Seen.{event_seen}
use Rattle.world_setup.specs.declared.event.Event.{Event}
use Rattle.claimdump.proofs.Recording.{Left, goes_on}
use Rattle.claimdump.proofs.recorded.Recorded.make_all.Goals as goal

pub loop-event-preserved : goal.loop-event-preserved
loop-event-preserved c =
    let events = c.args.events.now in
    let i = c.loop-event.event-index in
    let next = c.event-item.result in
    goes_on c.args.self.now c.loop-event.self c.make.new.self (event_seen next) (map event_seen (drop (i + 1) events)) (map event_seen events) c.in_ok-make.ensures
    (subst (λ (left : List Event). Left c.args.self.now c.loop-event.self (map event_seen left) (map event_seen events))
    (at_drop_more (λ (left : List Event). left) events i next c.loop-event-test.true ∙ ap (λ (e : Event). e ∷ drop (i + 1) events) (sym c.event-item.is)) c.loop-event.invariant)
