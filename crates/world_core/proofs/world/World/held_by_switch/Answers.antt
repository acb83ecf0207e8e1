use Rattle.std.proofs.Common.{◌≡◌, Some, None, sym, ap, ◌∙◌}
use Rattle.std.proofs.lemmas.Result.{IfOk-weaker}
use Rattle.claim_model.specs.Numbered.{numbered}
use Rattle.world_core.specs.NodeLists.{NodeLists}
use Rattle.world_core.specs.Parts.{WorldParts, context_of}
use Rattle.world_core.proofs.Holding.{switch_holds, no_switch_holds}
use Rattle.world_core.proofs.world.World.held_by_switch.Goals as goal

pub returns-in-Some : goal.returns-in-Some
returns-in-Some c =
    let there : numbered c.args.self.now.world.switches c.args.number ≡ Some c.in-Some.node.now =
    sym (ap (λ (p : WorldParts). numbered p.world.switches c.args.number) c.self.view_is) ∙ (sym (ap (λ (x : NodeLists). numbered x.switches c.args.number) c.nodes.ensures) ∙ sym c.in-Some.ensures) in
    IfOk-weaker c.copied.result _ _ (λ found h. h ∙ (c.held.ensures ∙ sym (switch_holds (context_of c.args.self.now) c.args.self.now.world c.args.number c.args.id c.in-Some.node.now there))) c.copied.ensures

pub returns-in-None : goal.returns-in-None
returns-in-None c =
    let there : numbered c.args.self.now.world.switches c.args.number ≡ None =
    sym (ap (λ (p : WorldParts). numbered p.world.switches c.args.number) c.self.view_is) ∙ (sym (ap (λ (x : NodeLists). numbered x.switches c.args.number) c.nodes.ensures) ∙ sym c.in-None.ensures) in
    sym (no_switch_holds (context_of c.args.self.now) c.args.self.now.world c.args.number c.args.id there)
