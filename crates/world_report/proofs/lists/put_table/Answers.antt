use Rattle.world_report.specs.Nodes.{in_flight_line}
use Rattle.world_report.proofs.Joining.{lines_go_on, lines_are_done}
use Rattle.world_report.proofs.lists.put_table.Goals as goal

pub loop-request-preserved : goal.loop-request-preserved
loop-request-preserved c =
    lines_go_on in_flight_line c.loop-request.out.items c.put_in_flight.new.out.items _ c.args.table.now c.loop-request.request-index c.request-item.result c.loop-request-test.true c.request-item.is c.in_ok-put_in_flight.ensures c.loop-request.invariant

pub returns : goal.returns
returns c = lines_are_done in_flight_line c.loop-request.out.items _ c.args.table.now c.loop-request.request-index c.loop-request-test.false c.loop-request.invariant
