use Rattle.std.proofs.lemmas.Result.{on_ok_weaker}
use Rattle.world_core.specs.Parts.{context_of}
use Rattle.world_report.proofs.Blocks.{nodes_join}
use Rattle.world_report.proofs.report.put_nodes.Goals as goal

pub returns : goal.returns
returns c =
    let w = c.args.world.now in
    on_ok_weaker c.put_payers.result
    (λ last. nodes_join (context_of w) w.world c.args.out.now.items c.put_pharmacies.new.out.items c.put_switches.new.out.items c.put_payers.new.out.items
    (rw c.pharmacies.ensures at (c.in_ok-put_pharmacies.ensures w.routes)) (rw c.switches.ensures at c.in_ok-put_switches.ensures) (rw c.payers.ensures at last))
    (c.put_payers.ensures w.routes)
