use Rattle.std.proofs.Common.{ap, ◌∙◌}
use Rattle.std.specs.Prelude.{option_map}
use Rattle.std.proofs.lemmas.Result.{on_ok_weaker}
use Rattle.world_setup.specs.Seen.{event_seen}
use Rattle.world_core.specs.Parts.{WorldParts, context_of}
use Rattle.claimdump.specs.Calls.{asked_of}
use Rattle.claimdump.proofs.Recording.{made}
use Rattle.claimdump.proofs.recorded.Recorded.make.Goals as goal

pub returns-in-Ok : goal.returns-in-Ok
returns-in-Ok c =
    let before = c.args.self.now.world in
    on_ok_weaker c.note.result
    (λ noted.
    let m = made (context_of before) before.world c.step.new.self.world (event_seen c.args.event.now) (option_map asked_of c.in_ok-asked.asked) c.in-Ok.numbers.start c.args.self.now.logs c.note.new.self.logs
    c.in-Ok.ensures.ok (rw c.packets.ensures at c.in_ok-asked.ensures) (ap (λ r. r.start) c.in-Ok.ensures.sent) noted in
    record {
      world = ap (λ (w : WorldParts). w.world) c.note.ensures.world ∙ m.world;
      routes = ap (λ (w : WorldParts). w.routes) c.note.ensures.world ∙ c.step.ensures.routes;
      logs = m.logs;
    })
    c.note.ensures.logs
