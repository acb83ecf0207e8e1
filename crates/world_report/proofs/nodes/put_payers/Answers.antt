use Rattle.claim_model.specs.Bytes.{bytes_with}
use Rattle.world_report.specs.Nodes.{payer_lines}
use Rattle.world_report.proofs.Joining.{nodes_go_on, nodes_are_done}
use Rattle.world_report.proofs.nodes.put_payers.Goals as goal

pub loop-place-preserved : goal.loop-place-preserved
loop-place-preserved c = λ routes.
    nodes_go_on (payer_lines (bytes_with routes)) c.loop-place.out.items c.put_payer.new.out.items _ c.args.nodes.now c.loop-place.place c.index-nodes-place.result c.loop-place-test.true c.index-nodes-place.is
    (c.in_ok-put_payer.ensures routes) (c.loop-place.invariant routes)

pub returns : goal.returns
returns c = λ routes.
    nodes_are_done (payer_lines (bytes_with routes)) c.loop-place.out.items _ c.args.nodes.now c.loop-place.place c.loop-place-test.false (c.loop-place.invariant routes)
