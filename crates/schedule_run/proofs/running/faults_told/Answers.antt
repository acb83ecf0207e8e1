use Rattle.std.proofs.Common.{length}
use Rattle.schedule_run.proofs.Turns.{faults_go_on, faults_are_done}
use Rattle.schedule_run.proofs.running.faults_told.Goals as goal

pub loop-preserved : goal.loop-preserved
loop-preserved c = faults_go_on c.loop.told.items c.put_done.new.out.items _ (length c.args.faults.now) c.loop.index c.loop-test.true c.in_ok-put_done.ensures c.loop.invariant

pub returns : goal.returns
returns c = faults_are_done c.loop.told.items _ (length c.args.faults.now) c.loop.index c.loop-test.false c.loop.invariant
