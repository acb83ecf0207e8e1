use Rattle.world_report.specs.Nodes.{switch_lines}
use Rattle.world_report.proofs.Joining.{nodes_go_on, nodes_are_done}
use Rattle.world_report.proofs.nodes.put_switches.Goals as goal

pub loop-place-preserved : goal.loop-place-preserved
loop-place-preserved c =
    nodes_go_on switch_lines c.loop-place.out.items c.put_switch.new.out.items _ c.args.nodes.now c.loop-place.place c.index-nodes-place.result c.loop-place-test.true c.index-nodes-place.is
    c.in_ok-put_switch.ensures c.loop-place.invariant

pub returns : goal.returns
returns c =
    nodes_are_done switch_lines c.loop-place.out.items _ c.args.nodes.now c.loop-place.place c.loop-place-test.false c.loop-place.invariant
