use Rattle.std.proofs.Common.{◌∷◌, List, Option, ℕ, ◌∙◌, ap, subst}
use Rattle.node_service.specs.Opened.{IsOpened}
use Rattle.node_process.specs.Acts.{Act, Found}
use Rattle.node_process.specs.Ends.{TellsLack}
use Rattle.node_process.specs.Safe.{closed_calls, owner_seen}
use Rattle.node_process.proofs.Turning.{has_few}
use Rattle.node_process.proofs.opening.open.Goals as goal

pub returns-in-Ok-clause-why : goal.returns-in-Ok-clause-why
returns-in-Ok-clause-why g c =
    let whose = owner_seen c.args.owner.now in
    has_few whose (g.M.Machine.acts c.read.new.self) c.in_ok-bytes.bytes.items c.in-Ok.service c.in-Ok.whole c.in-Some.calls
    (c.in_ok-bytes.ensures.found ∙ ap (λ (t : List Act). Found c.in_ok-bytes.bytes.items ∷ t) c.requires)
    (subst (λ (b : List ℕ). IsOpened whose.settings whose.node whose.rest b c.in-Ok.whole c.in-Ok.service) c.as_slice.ensures.value c.in-Ok.ensures.opened)
    (subst (λ (o : Option ℕ). TellsLack (closed_calls whose) c.in-Ok.service.calls whose.least o) c.in-Some.is c.lacking.ensures)
